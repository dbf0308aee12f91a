-- The close is made by a new caller.
use Rattle.deadpool_shared.proofs.pool.Pool.close.Goals as goal

pub returns : goal.returns
returns g c = rw (← c.self.view_is) (rw c.shared.ensures at c.in-Done.ensures.call)
