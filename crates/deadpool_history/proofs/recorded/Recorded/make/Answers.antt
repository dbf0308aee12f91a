-- A step of a get or an object is noted once, in its caller's name, and the history still leads to the state.
use Rattle.std.proofs.Common.{◌≡◌, refl}
use Rattle.std.specs.Option.{option_or}
use Rattle.deadpool_journal.specs.ByNumber.{number_in}
use Rattle.deadpool_journal.specs.declared.entry.Entry.TheVariants.{Made}
use Rattle.deadpool_journal.proofs.ByNumber.{does_numbered, or_numbered}
use Rattle.deadpool_history.specs.declared.line.Line.TheVariants.{Next}
use Rattle.deadpool_history.proofs.Leads.{has_called, leads_on}
use Rattle.deadpool_history.proofs.Own.{own_entry}
use Rattle.deadpool_history.specs.Own.{IsOwnEntry}
use Rattle.deadpool_chronicle.specs.History.{calls_by}
use Rattle.deadpool_history.proofs.recorded.Recorded.make.Goals as goal

pub note-requires : goal.note-requires
note-requires g c =
    let e = Made c.args.step.now c.or.result c.make-reply.result in
    record { says = (Next e, (e, (refl, refl))) }

pub invariant_of-self : goal.invariant_of-self
invariant_of-self g c =
    let was = c.self.inside.pool in
    let now = c.make-reply.new.self in
    let object = option_or c.args.hand.now c.make-reply.new.hand in
    let number : c.or.result ≡ number_in object =
    rw (
      c.or.ensures,
      c.number_of-taken.ensures,
      c.number_of.ensures,
    ) (or_numbered c.args.hand.now c.make-reply.new.hand) in
    let made = does_numbered was.core.desk now.core.desk c.args.step.now object c.make-reply.result
    c.make-reply.ensures.made.0.0 in
    let own : IsOwnEntry (Made c.args.step.now (number_in object) c.make-reply.result)
    (calls_by c.args.caller.now.number c.self.inside.author.log) =
    rw (c.note.ensures.mine) (own_entry c.args.step.now c.args.hand.now c.make-reply.new.hand c.make-reply.result
    c.args.caller.now.mine c.requires.brings c.requires.own c.requires.named) in
    let added = c.note.ensures.call.0 in
    leads_on was now c.self.inside.author.log c.note.new.self.log c.args.caller.now.number
    (Made c.args.step.now (number_in object) c.make-reply.result) added.0
    c.make-reply.ensures.made.1 c.make-reply.ensures.made.0.1 (rw number at added.1.0) added.1.1 own made
    c.self.invariant

pub returns-clause-made : goal.returns-clause-made
returns-clause-made g c = rw (← c.self.view_is) c.make-reply.ensures.made

pub returns-clause-called : goal.returns-clause-called
returns-clause-called g c =
    let was = c.self.inside.pool in
    let now = c.make-reply.new.self in
    let object = option_or c.args.hand.now c.make-reply.new.hand in
    let number : c.or.result ≡ number_in object =
    rw (
      c.or.ensures,
      c.number_of-taken.ensures,
      c.number_of.ensures,
    ) (or_numbered c.args.hand.now c.make-reply.new.hand) in
    let made = does_numbered was.core.desk now.core.desk c.args.step.now object c.make-reply.result
    c.make-reply.ensures.made.0.0 in
    let own : IsOwnEntry (Made c.args.step.now (number_in object) c.make-reply.result)
    (calls_by c.args.caller.now.number c.self.inside.author.log) =
    rw (c.note.ensures.mine) (own_entry c.args.step.now c.args.hand.now c.make-reply.new.hand c.make-reply.result
    c.args.caller.now.mine c.requires.brings c.requires.own c.requires.named) in
    let added = c.note.ensures.call.0 in
    let leads = leads_on was now c.self.inside.author.log c.note.new.self.log c.args.caller.now.number
    (Made c.args.step.now (number_in object) c.make-reply.result) added.0
    c.make-reply.ensures.made.1 c.make-reply.ensures.made.0.1 (rw number at added.1.0) added.1.1 own made
    c.self.invariant in
    has_called now (λ e. e ≡ Made c.args.step.now (number_in object) c.make-reply.result) c.self.inside.author.log
    c.note.new.self.log c.args.caller.now c.note.new.caller (rw number at c.note.ensures.call) c.note.ensures.seen leads
