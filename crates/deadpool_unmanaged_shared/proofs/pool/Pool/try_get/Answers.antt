-- What the question mark hands on is the reason that there was.
use Rattle.std.proofs.Common.{◌≡◌, Err, inl, rules}
use Rattle.deadpool_unmanaged_shared.proofs.pool.Pool.try_get.Goals as goal

pub returns-in_err-value-clause-call : goal.returns-in_err-value-clause-call
returns-in_err-value-clause-call g c =
    let is : c.from_residual.result ≡ Err c.in_err-value.field-0.0 = search rules in
    rw is (inl c.in_err-value.ensures)
