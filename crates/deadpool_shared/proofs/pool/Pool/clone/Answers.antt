-- The handle that is cloned was counted.
use Rattle.deadpool_shared.proofs.pool.Pool.clone.Goals as goal

pub returns-clause-counted : goal.returns-clause-counted
returns-clause-counted g c = rw (← c.self.view_is) c.in_ok-clone.ensures.counted
