-- After the calls of a drain's poll all are told.
use Rattle.deadpool_shared.proofs.Closed.{closes}
use Rattle.deadpool_shared.proofs.drain.poll_by.Goals as goal

pub returns-clause-calls : goal.returns-clause-calls
returns-clause-calls g c =
    (c.drain-polled.new.caller, (c.drain-polled.ensures.calls, c.end.ensures.keeps, c.end.ensures.quiet))

pub returns-clause-begun : goal.returns-clause-begun
returns-clause-begun g c =
    closes c.args.is_first c.drain-polled.result.0 c.args.caller.now c.end.new.seer c.requires.begun
    (c.drain-polled.new.caller, (c.drain-polled.ensures.calls, c.end.ensures.keeps, c.end.ensures.quiet))
