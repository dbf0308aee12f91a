-- What the poll under the lock comes to is what the get's poll gives, and its caller goes with the object.
use Rattle.std.proofs.Common.{refl}
use Rattle.deadpool_unmanaged_shared.proofs.asking.GettingRequest.poll.Goals as goal

pub returns-in-Ready-Ok-clause-polls : goal.returns-in-Ready-Ok-clause-polls
returns-in-Ready-Ok-clause-polls g c =
    rw (← c.self.view_is) (
      c.now-now.result,
      (
        c.poll_get-polled.result.0,
        (
          c.supply-caller.result,
          (
            c.end.new.seer,
            (
              rw (c.take.ensures.value) at c.supply-caller.ensures.caller,
              (
                c.poll_get-polled.new.caller,
                (c.poll_get-polled.ensures.call, c.end.ensures.keeps, c.end.ensures.quiet),
              ),
              rw (c.in-Ready-Ok.is, c.in-Ready-Ok.field-0-is) (refl, refl),
            ),
          ),
        ),
      ),
    )

pub returns-in-Ready-Err-clause-polls : goal.returns-in-Ready-Err-clause-polls
returns-in-Ready-Err-clause-polls g c =
    rw (← c.self.view_is) (
      c.now-now.result,
      (
        c.poll_get-polled.result.0,
        (
          c.supply-caller.result,
          (
            c.end.new.seer,
            (
              rw (c.take.ensures.value) at c.supply-caller.ensures.caller,
              (
                c.poll_get-polled.new.caller,
                (c.poll_get-polled.ensures.call, c.end.ensures.keeps, c.end.ensures.quiet),
              ),
              rw (c.in-Ready-Err.is, c.in-Ready-Err.field-0-is) (refl, refl),
            ),
          ),
        ),
      ),
    )
