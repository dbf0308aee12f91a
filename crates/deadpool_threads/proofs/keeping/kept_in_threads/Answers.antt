-- The thread gives what its keeper may return that is lent this pool.
use Rattle.std.proofs.Common.{sym, subst}
use Rattle.deadpool_threads.specs.Returned.{Returned}
use Rattle.deadpool_threads.proofs.keeping.kept_in_threads.Goals as goal

pub spawn_with-requires-clause-keeps : goal.spawn_with-requires-clause-keeps
spawn_with-requires-clause-keeps g c κs within output gives =
    let may = Returned g.K.Keeper.returns g.K.Keeper.returns_from in
    subst (λ pool. may pool c.new-promise.result.keeper.value output) (sym c.new-promise.ensures.pool)
    (subst (λ keeper. may c.in_ok-kept.kept keeper output) (sym c.new-promise.ensures.keeper)
    gives)

pub returns-clause-keeper : goal.returns-clause-keeper
returns-clause-keeper g c =
    let may = Returned g.K.Keeper.returns g.K.Keeper.returns_from in
    subst (λ pool. may pool c.args.keeper c.join-kept.result) c.in_ok-kept.ensures.pool
    (subst (λ keeper. may c.in_ok-kept.kept keeper c.join-kept.result) c.new-promise.ensures.keeper
    (subst (λ pool. may pool c.new-promise.result.keeper.value c.join-kept.result) c.new-promise.ensures.pool
    (rw (← c.in-Ok.ensures.ok) c.join-kept.ensures)))
