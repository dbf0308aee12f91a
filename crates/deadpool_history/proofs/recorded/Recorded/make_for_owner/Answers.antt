-- A step of the owner is noted once, in its caller's name, and the history still leads to the state.
use Rattle.std.proofs.Common.{◌≡◌, refl}
use Rattle.deadpool_journal.specs.declared.entry.Entry.TheVariants.{Owner}
use Rattle.deadpool_journal.proofs.ByNumber.{does_for_owner_numbered}
use Rattle.deadpool_history.specs.declared.line.Line.TheVariants.{Next}
use Rattle.deadpool_history.proofs.Leads.{has_called, leads_on}
use Rattle.deadpool_history.proofs.recorded.Recorded.make_for_owner.Goals as goal

pub note-requires : goal.note-requires
note-requires g c =
    let e = Owner c.args.step.now c.make_for_owner-reply.result in
    record { says = (Next e, (e, (refl, refl))) }

pub invariant_of-self : goal.invariant_of-self
invariant_of-self g c =
    let was = c.self.inside.pool in
    let now = c.make_for_owner-reply.new.self in
    let made = does_for_owner_numbered was.core.desk now.core.desk c.args.step.now c.make_for_owner-reply.result
    c.make_for_owner-reply.ensures.made.0.0 in
    let added = c.note.ensures.call.0 in
    leads_on was now c.self.inside.author.log c.note.new.self.log c.args.caller.now.number
    (Owner c.args.step.now c.make_for_owner-reply.result) added.0
    c.make_for_owner-reply.ensures.made.1 c.make_for_owner-reply.ensures.made.0.1 added.1.0 added.1.1 tt made
    c.self.invariant

pub returns-clause-called : goal.returns-clause-called
returns-clause-called g c =
    let was = c.self.inside.pool in
    let now = c.make_for_owner-reply.new.self in
    let made = does_for_owner_numbered was.core.desk now.core.desk c.args.step.now c.make_for_owner-reply.result
    c.make_for_owner-reply.ensures.made.0.0 in
    let added = c.note.ensures.call.0 in
    let leads = leads_on was now c.self.inside.author.log c.note.new.self.log c.args.caller.now.number
    (Owner c.args.step.now c.make_for_owner-reply.result) added.0
    c.make_for_owner-reply.ensures.made.1 c.make_for_owner-reply.ensures.made.0.1 added.1.0 added.1.1 tt made
    c.self.invariant in
    has_called now (λ e. e ≡ Owner c.args.step.now c.make_for_owner-reply.result) c.self.inside.author.log
    c.note.new.self.log c.args.caller.now c.note.new.caller c.note.ensures.call c.note.ensures.seen leads
