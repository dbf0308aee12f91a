-- What a get gives that waits for no place goes back to its pool.
use Rattle.std.proofs.Common.{◌≡◌}
use Rattle.deadpool_shared.specs.Gets.{GivesReady}
use Rattle.deadpool_threads.proofs.GoesBack.{gives_as_asked, goes_back, refused_gives_nothing}
use Rattle.deadpool_threads.proofs.blocking.Blocking.try_get.Goals as goal

pub returns-in-Ok : goal.returns-in-Ok
returns-in-Ok g c = record {
  gives =
      gives_as_asked _ _
      (GivesReady g.W.From.from_gives
      (λ o. g.M.Manager.is_ready o.slot.value.value × (o.out.home ≡ c.args.pool.now)))
      _ _ _ c.timeout_get_ref.result c.in-Ok.ended c.timeout_get_ref.ensures
      (goes_back g.W.From.from_gives (λ o. g.M.Manager.is_ready o.slot.value.value) (λ o. o.out.home) c.args.pool.now
      c.in-Ok.ended)
      (refused_gives_nothing g.W.From.from_gives (λ o. g.M.Manager.is_ready o.slot.value.value) (λ o. o.out.home)
      c.args.pool.now c.in-Ok.ended _)
      c.in-Ok.ensures;
}
