-- The resize is made by a new caller, whatever its reply.
use Rattle.deadpool_shared.proofs.pool.Pool.resize.Goals as goal

pub returns-in-OutOfMemory : goal.returns-in-OutOfMemory
returns-in-OutOfMemory g c = rw (← c.self.view_is) (rw c.shared.ensures at c.in-OutOfMemory.ensures.call)

pub returns-in-Done : goal.returns-in-Done
returns-in-Done g c = rw (← c.self.view_is) (rw c.shared.ensures at c.in-Done.ensures.call)
