-- After a step of a get, an add or an object the journal is still the pool's own.
use Rattle.deadpool_unmanaged_journal.specs.declared.entry.Entry.TheVariants.{Made}
use Rattle.deadpool_unmanaged_journal.proofs.{Words.◌≡◌, Words.option_or, Words.name_in, Words.by_name}
use Rattle.deadpool_unmanaged_journal.proofs.{Words.journaling_of, ByName.does_named, ByName.or_named}
use Rattle.deadpool_unmanaged_journal.proofs.{Kept.step_kept, Kept.step_silent}
use Rattle.deadpool_unmanaged_journal.proofs.journaled.Journaled.make.Goals as goal

pub invariant_of-self : goal.invariant_of-self
invariant_of-self g c =
    let name = g.K.Naming.name_of in
    let core = c.self.inside.core in
    let after = c.make-reply.new.self in
    let object = option_or c.args.hand.now c.make-reply.new.hand in
    let e = Made c.args.step.now (name_in name object) c.make-reply.result in
    let made = does_named name core.pool after.pool c.args.step.now object c.make-reply.result
    c.make-reply.ensures.made.0 in
    let noted : c.or-object.result ≡ name_in name object =
    rw (c.or-object.ensures, c.name_in-taken.ensures, c.name_in.ensures)
    (or_named name c.args.hand.now c.make-reply.new.hand) in
    rw (c.add_step.ensures, noted, c.count.ensures)
    (step_kept name (journaling_of c.self.inside) after e c.self.invariant
    (step_silent (by_name name core.pool) (by_name name after.pool) e made))
