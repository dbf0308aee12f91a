-- A step of the owner is noted once, in its caller's name, and the history still leads to the state.
use Rattle.deadpool_unmanaged_journal.specs.declared.entry.Entry.TheVariants.{Owner}
use Rattle.deadpool_unmanaged_history.proofs.Words.{◌≡◌, refl}
use Rattle.deadpool_unmanaged_history.specs.declared.line.Line.TheVariants.{Next}
use Rattle.deadpool_unmanaged_history.proofs.Leads.{has_called, leads_on}
use Rattle.deadpool_unmanaged_history.proofs.recorded.Recorded.make_for_owner.Goals as goal

pub note-requires : goal.note-requires
note-requires g c =
    let e = Owner c.args.step.now c.make_for_owner-reply.result in
    record { says = (Next e, (e, (refl, refl))) }

pub invariant_of-self : goal.invariant_of-self
invariant_of-self g c =
    let added = c.note.ensures.call.0 in
    leads_on g.K.Naming.name_of c.self.inside.pool c.make_for_owner-reply.new.self c.self.inside.author.log
    c.note.new.self.log c.args.caller.now.number (Owner c.args.step.now c.make_for_owner-reply.result) added.0
    c.make_for_owner-reply.ensures.made.1 added.1.0 added.1.1 tt c.make_for_owner-reply.ensures.made.0 c.self.invariant

pub returns-clause-called : goal.returns-clause-called
returns-clause-called g c =
    let name = g.K.Naming.name_of in
    let after = c.make_for_owner-reply.new.self in
    let added = c.note.ensures.call.0 in
    let leads = leads_on name c.self.inside.pool after c.self.inside.author.log c.note.new.self.log
    c.args.caller.now.number (Owner c.args.step.now c.make_for_owner-reply.result) added.0
    c.make_for_owner-reply.ensures.made.1 added.1.0 added.1.1 tt c.make_for_owner-reply.ensures.made.0
    c.self.invariant in
    has_called name after (λ e. e ≡ Owner c.args.step.now c.make_for_owner-reply.result) c.self.inside.author.log
    c.note.new.self.log c.args.caller.now c.note.new.caller c.note.ensures.call c.note.ensures.seen leads
