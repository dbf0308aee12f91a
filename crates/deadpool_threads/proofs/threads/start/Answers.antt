-- The thread gives what its worker may return that is lent this pool.
use Rattle.std.proofs.Common.{sym, subst}
use Rattle.deadpool_threads.specs.Returned.{Returned}
use Rattle.deadpool_threads.proofs.threads.start.Goals as goal

pub spawn_with-requires-clause-keeps : goal.spawn_with-requires-clause-keeps
spawn_with-requires-clause-keeps g c κs within output gives =
    let may = Returned g.W.PoolUser.returns g.W.PoolUser.returns_from in
    subst (λ pool. may pool c.new-promise.result.worker.value output) (sym c.new-promise.ensures.pool)
    (subst (λ worker. may c.in-Ok.pool worker output) (sym c.new-promise.ensures.worker) gives)
