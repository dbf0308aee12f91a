-- The first poll of a drain is made by a new caller.
use Rattle.deadpool_shared.proofs.drain.poll_begun.Goals as goal

pub returns-clause-polled : goal.returns-clause-polled
returns-clause-polled g c =
    rw c.in_default.is (c.caller-caller.result, (c.caller-caller.ensures.new, c.poll_by-polled.ensures.calls))
