-- The handle of a get is one that was counted.
use Rattle.deadpool_shared.proofs.pool.Pool.begin.Goals as goal

pub returns-clause-counted : goal.returns-clause-counted
returns-clause-counted g c = rw (← c.self.view_is) c.in_ok-clone.ensures.counted
