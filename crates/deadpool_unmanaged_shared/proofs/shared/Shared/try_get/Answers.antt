-- What the question mark hands on is the reason that the step gave, and its caller is the one that was let in for it.
use Rattle.std.proofs.Common.{◌≡◌, Err, rules}
use Rattle.deadpool_unmanaged_shared.proofs.shared.Shared.try_get.Goals as goal

pub returns-in_err-got : goal.returns-in_err-got
returns-in_err-got g c =
    let is : c.from_residual.result ≡ Err c.in_err-got.field-0.0 = search rules in
    rw is (
      c.admit-caller.result,
      (
        c.end.new.seer,
        (
          c.admit-caller.ensures.caller,
          (
            (c.try_get-got.new.caller, (c.in_err-got.ensures.call, c.end.ensures.keeps, c.end.ensures.quiet)),
            tt,
          ),
        ),
      ),
    )
