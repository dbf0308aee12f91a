-- By number nothing is said of the retainer.
use Rattle.deadpool_shared.proofs.pool.Pool.retain.Goals as goal

pub returns : goal.returns
returns g c =
    let new = c.retain.ensures.call in
    let tells = new.1.1.2 in
    let call = tells.1.0 in
    let may = call.1.0 in
    record {
      call = (
        new.0,
        (
          new.1.0,
          (
            new.1.1.0,
            rw (← c.self.view_is) (rw c.shared.ensures at new.1.1.1),
            (
              tells.0,
              (
                (
                  call.0,
                  (
                    (may.0, (may.1.0, (may.1.1.0, (may.1.1.1.0, may.1.1.1.1)))),
                    call.1.1,
                    call.1.2,
                    call.1.3,
                    call.1.4,
                    call.1.5,
                  ),
                ),
                tells.1.1,
                tells.1.2,
              ),
            ),
          ),
        ),
      );
    }
