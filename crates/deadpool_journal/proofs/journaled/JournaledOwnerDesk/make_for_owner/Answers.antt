-- After a step of the owner the journal is still the pool's own.
use Rattle.deadpool_journal.specs.declared.entry.Entry.TheVariants.{Owner}
use Rattle.deadpool_journal.proofs.{Words.journaling_of, ByNumber.does_for_owner_numbered, Kept.step_kept}
use Rattle.deadpool_journal.proofs.journaled.JournaledOwnerDesk.make_for_owner.Goals as goal

pub invariant_of-self : goal.invariant_of-self
invariant_of-self g c =
    let core = c.self.inside.core in
    let left = c.make_for_owner-reply.new.self in
    let made = does_for_owner_numbered core.desk left.desk c.args.step.now c.make_for_owner-reply.result
    c.make_for_owner-reply.ensures.made.0 in
    rw (
      c.add_owner_step.ensures,
      c.count_for_owner.ensures,
      c.saturating_sub-gone.ensures,
      c.size_of-size.ensures,
      c.size_of.ensures,
    )
    (step_kept (journaling_of c.self.inside) left
    (Owner c.args.step.now c.make_for_owner-reply.result) c.self.invariant made)
