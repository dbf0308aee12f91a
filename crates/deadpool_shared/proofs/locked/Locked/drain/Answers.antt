-- The calls of a drain that ends: one closes the pool, and the last asks for the status that it gives.
use Rattle.deadpool_shared.proofs.locked.Locked.drain.Goals as goal

pub returns-clause-calls : goal.returns-clause-calls
returns-clause-calls g c =
    (c.close.new.caller, (c.close.ensures.call, rw c.end.ensures.status c.status-status.ensures.call))
