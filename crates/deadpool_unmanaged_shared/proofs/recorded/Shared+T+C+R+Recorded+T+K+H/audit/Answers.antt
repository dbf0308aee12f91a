-- The caller has seen all of the history, which is legal.
use Rattle.deadpool_unmanaged_shared.proofs.recorded.Shared+T+C+R+Recorded+T+K+H.audit.Goals as goal

pub returns-clause-legal : goal.returns-clause-legal
returns-clause-legal g c = rw (c.audit.ensures.caller) c.audit.ensures.legal
