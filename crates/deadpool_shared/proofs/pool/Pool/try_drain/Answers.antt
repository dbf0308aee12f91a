-- The drain is made by a caller that has seen how the pool opened.
use Rattle.deadpool_shared.proofs.pool.Pool.try_drain.Goals as goal

pub returns-clause-calls : goal.returns-clause-calls
returns-clause-calls g c = (
  c.caller-caller.result,
  (
    c.try_drain_by.new.caller,
    (
      c.caller-caller.ensures.new,
      rw (c.shared.ensures, c.handle.ensures) at c.caller-caller.ensures.opened,
      c.try_drain_by.ensures.calls,
    ),
  ),
)
