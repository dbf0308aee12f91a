-- After a step of a get or an object the journal is still the pool's own.
use Rattle.std.specs.Option.{option_or}
use Rattle.deadpool_journal.specs.declared.entry.Entry.TheVariants.{Made}
use Rattle.deadpool_journal.proofs.{Words.◌≡◌, Words.number_in, Words.journaling_of, ByNumber.does_numbered}
use Rattle.deadpool_journal.proofs.{ByNumber.or_numbered, Kept.step_kept}
use Rattle.deadpool_journal.proofs.journaled.JournaledDesk.make.Goals as goal

pub invariant_of-self : goal.invariant_of-self
invariant_of-self g c =
    let core = c.self.inside.core in
    let left = c.make-reply.new.self in
    let object = option_or c.args.hand.now c.make-reply.new.hand in
    let made =
    does_numbered core.desk left.desk c.args.step.now object c.make-reply.result c.make-reply.ensures.made.0 in
    let number : option_or c.number_in-taken.result (number_in c.make-reply.new.hand) ≡ number_in object =
    rw c.number_in-taken.ensures (or_numbered c.args.hand.now c.make-reply.new.hand) in
    rw (c.add_step.ensures, number, c.count.ensures)
    (step_kept (journaling_of c.self.inside) left
    (Made c.args.step.now (number_in object) c.make-reply.result) c.self.invariant made)
