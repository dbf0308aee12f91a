-- After a step of the owner the journal is still the pool's own.
use Rattle.deadpool_unmanaged_journal.specs.declared.entry.Entry.TheVariants.{Owner}
use Rattle.deadpool_unmanaged_journal.proofs.{Words.by_name, Words.journaling_of, ByName.does_for_owner_named}
use Rattle.deadpool_unmanaged_journal.proofs.{Kept.step_kept, Kept.step_silent}
use Rattle.deadpool_unmanaged_journal.proofs.journaled.Journaled.make_for_owner.Goals as goal

pub invariant_of-self : goal.invariant_of-self
invariant_of-self g c =
    let name = g.K.Naming.name_of in
    let core = c.self.inside.core in
    let after = c.make_counting-reply.new.core in
    let e = Owner c.args.step.now c.make_counting-reply.result.0 in
    let made = does_for_owner_named name core.pool after.pool c.args.step.now c.make_counting-reply.result.0
    c.make_counting-reply.ensures.made in
    rw (c.add_owner_step.ensures, c.count_for_owner.ensures, c.make_counting-reply.ensures.gone)
    (step_kept name (journaling_of c.self.inside) after e c.self.invariant
    (step_silent (by_name name core.pool) (by_name name after.pool) e made))
