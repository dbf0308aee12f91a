-- Each that is left has its place.
use Rattle.std.proofs.Common.{length-set}
use Rattle.deadpool_lock.proofs.Lines.{have_removed}
use Rattle.deadpool_lock.proofs.ends.Ends.leave.Goals as goal

pub invariant_of-self : goal.invariant_of-self
invariant_of-self c = rw c.withdraw.ensures.waiters (have_removed _ _ _ c.self.invariant)

pub invariant_of-self-in_default : goal.invariant_of-self-in_default
invariant_of-self-in_default c =
    rw (c.withdraw.ensures.waiters, c.take-in_default.ensures.places, length-set)
    (have_removed _ _ _ c.self.invariant)
