-- A step of a get, an add or an object is noted once, in its caller's name, and the history still leads to the state.
use Rattle.deadpool_unmanaged_journal.specs.declared.entry.Entry.TheVariants.{Made}
use Rattle.deadpool_unmanaged_history.proofs.Words.{◌≡◌, option_or}
use Rattle.deadpool_chronicle.specs.History.{calls_by}
use Rattle.deadpool_unmanaged_history.proofs.{Leads.has_called, Leads.leads_on, Objects.object_is}
use Rattle.deadpool_unmanaged_history.proofs.Waiting.{knows_named}
use Rattle.deadpool_unmanaged_history.specs.Own.{IsOwnEntry}
use Rattle.deadpool_unmanaged_history.proofs.recorded.Recorded.make.Goals as goal

pub invariant_of-self : goal.invariant_of-self
invariant_of-self g c =
    let name = g.K.Naming.name_of in
    let was = c.self.inside.pool in
    let after = c.make-reply.new.self in
    let object = option_or c.args.hand.now c.make-reply.new.hand in
    let does = c.make-reply.ensures.made.0.0 in
    let same = object_is was.core.pool after.core.pool c.args.step.now c.args.hand.now c.make-reply.new.hand
    c.make-reply.result c.requires.brings does c.make-reply.ensures.hand in
    let added = c.note_step.ensures.call.0 in
    let own : IsOwnEntry (Made c.args.step.now object c.make-reply.result)
    (calls_by c.args.caller.now.number c.self.inside.author.log) = rw (c.note_step.ensures.mine) (c.requires.named) in
    leads_on name was after c.self.inside.author.log c.note_step.new.author.log c.args.caller.now.number
    (Made c.args.step.now object c.make-reply.result) added.0
    c.make-reply.ensures.made.1 (rw same at added.1.0) added.1.1 own does c.self.invariant

pub returns-clause-made : goal.returns-clause-made
returns-clause-made g c = rw (← c.self.view_is) c.make-reply.ensures.made

pub returns-clause-call : goal.returns-clause-call
returns-clause-call g c =
    let was = c.self.inside.pool in
    let after = c.make-reply.new.self in
    let does = c.make-reply.ensures.made.0.0 in
    let same = object_is was.core.pool after.core.pool c.args.step.now c.args.hand.now c.make-reply.new.hand
    c.make-reply.result c.requires.brings does c.make-reply.ensures.hand in
    rw (← c.self.view_is) (rw same at c.note_step.ensures.call)

pub returns-clause-called : goal.returns-clause-called
returns-clause-called g c =
    let name = g.K.Naming.name_of in
    let was = c.self.inside.pool in
    let after = c.make-reply.new.self in
    let object = option_or c.args.hand.now c.make-reply.new.hand in
    let does = c.make-reply.ensures.made.0.0 in
    let same = object_is was.core.pool after.core.pool c.args.step.now c.args.hand.now c.make-reply.new.hand
    c.make-reply.result c.requires.brings does c.make-reply.ensures.hand in
    let added = c.note_step.ensures.call.0 in
    let own : IsOwnEntry (Made c.args.step.now object c.make-reply.result)
    (calls_by c.args.caller.now.number c.self.inside.author.log) = rw (c.note_step.ensures.mine) (c.requires.named) in
    let leads = leads_on name was after c.self.inside.author.log c.note_step.new.author.log c.args.caller.now.number
    (Made c.args.step.now object c.make-reply.result) added.0
    c.make-reply.ensures.made.1 (rw same at added.1.0) added.1.1 own does c.self.invariant in
    has_called name after (λ e. e ≡ Made c.args.step.now object c.make-reply.result) c.self.inside.author.log
    c.note_step.new.author.log c.args.caller.now c.note_step.new.caller (rw same at c.note_step.ensures.call)
    c.note_step.ensures.seen leads

pub returns-clause-known : goal.returns-clause-known
returns-clause-known g c =
    let object = option_or c.args.hand.now c.make-reply.new.hand in
    knows_named (Made c.args.step.now object c.make-reply.result) c.args.caller.now c.note_step.new.caller
    (returns-clause-called g c)
