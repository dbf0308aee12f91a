-- A pool that its caller has closed is closed.
use Rattle.deadpool_shared.proofs.Closed.{is_closed}
use Rattle.deadpool_shared.proofs.locked.draining.close.Goals as goal

pub returns-then-not-is_first-clause-closed : goal.returns-then-not-is_first-clause-closed
returns-then-not-is_first-clause-closed g c =
    rw c.audit.ensures.same
    (is_closed c.args.recorded.now.pool c.args.recorded.now.log c.args.caller.now c.audit.ensures.leads
    c.audit.ensures.mine (c.requires.begun c.if-not-is_first.true))
