-- Each that is left has its place, told or not.
use Rattle.std.proofs.Common.{length-set}
use Rattle.deadpool_lock.proofs.Lines.{have_removed, have_told}
use Rattle.deadpool_lock.proofs.ends.Ends.take_wake.Goals as goal

pub invariant_of-self : goal.invariant_of-self
invariant_of-self c =
    rw (c.take_wake.ensures.waiters, c.close.ensures.waiters) (have_told _ _ _ c.self.invariant)

pub invariant_of-self-2 : goal.invariant_of-self-2
invariant_of-self-2 c =
    rw (
      c.withdraw.ensures.waiters,
      c.in_ok-at.ensures.waiters,
      c.close.ensures.waiters,
      c.tell.ensures.places,
      length-set,
    )
    (have_removed _ _ _ (have_told _ _ _ c.self.invariant))
