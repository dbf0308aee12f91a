-- A removal whose get is refused makes no step more. One whose get is given an object takes it out by one.
use Rattle.std.proofs.Common.{refl, rules}
use Rattle.deadpool_unmanaged_shared.proofs.asking.RemovingRequest.poll.Goals as goal

pub returns-in-Ready-Err-clause-polls : goal.returns-in-Ready-Err-clause-polls
returns-in-Ready-Err-clause-polls g c =
    rw (← c.self.view_is) (
      c.poll.result,
      (
        c.poll.new.self,
        (c.poll.ensures.polls, rw (c.in-Ready-Err.is, c.in-Ready-Err.field-0-is) (refl, refl)),
      ),
    )

pub returns-in-Ready-Ok-clause-polls : goal.returns-in-Ready-Ok-clause-polls
returns-in-Ready-Ok-clause-polls g c =
    rw (← c.self.view_is) (
      c.poll.result,
      (
        c.poll.new.self,
        (
          c.poll.ensures.polls,
          rw (c.in-Ready-Ok.is, c.in-Ready-Ok.field-0-is) (
            c.take_by-value.ensures.value,
            (
              c.take_by-value.result.1,
              (c.take_by-value.ensures.call, first_of (search rules, cc (c.self-inside.view_is))),
            ),
          ),
        ),
      ),
    )
