-- What a wait for a get ends with is ready, and an object of the pool that was asked.
use Rattle.std.proofs.Common.{◌≡◌}
use Rattle.deadpool_shared.specs.Gets.{GivesReady}
use Rattle.deadpool_threads.proofs.GoesBack.{gives_as_begun, goes_back, refused_gives_nothing}
use Rattle.deadpool_threads.proofs.blocking_loop.BlockingLoop.get.Goals as goal

pub returns-in-Ready : goal.returns-in-Ready
returns-in-Ready g c = record {
  gives =
      gives_as_begun _ _
      (GivesReady g.W.From.from_gives
      (λ o. g.M.Manager.is_ready o.slot.value.value × (o.out.home ≡ c.args.pool.now)))
      _ _ _ c.get_ref-get.result c.exchange_registration.new.self _ c.in-Ready.ended
      c.get_ref-get.ensures c.exchange_registration.ensures.taken
      (goes_back g.W.From.from_gives (λ o. g.M.Manager.is_ready o.slot.value.value) (λ o. o.out.home) c.args.pool.now
      c.in-Ready.ended)
      (refused_gives_nothing g.W.From.from_gives (λ o. g.M.Manager.is_ready o.slot.value.value) (λ o. o.out.home)
      c.args.pool.now c.in-Ready.ended _)
      c.in-Ready.ensures.value;
}

pub returns-in-Ok : goal.returns-in-Ok
returns-in-Ok g c = record {
  gives =
      gives_as_begun _ _
      (GivesReady g.W.From.from_gives
      (λ o. g.M.Manager.is_ready o.slot.value.value × (o.out.home ≡ c.args.pool.now)))
      _ _ _ c.get_ref-get.result c.exchange_registration.new.self _ c.in-Ok.ended
      c.get_ref-get.ensures c.exchange_registration.ensures.taken
      (goes_back g.W.From.from_gives (λ o. g.M.Manager.is_ready o.slot.value.value) (λ o. o.out.home) c.args.pool.now
      c.in-Ok.ended)
      (refused_gives_nothing g.W.From.from_gives (λ o. g.M.Manager.is_ready o.slot.value.value) (λ o. o.out.home)
      c.args.pool.now c.in-Ok.ended _)
      (c.in_default.ensures.same c.in-Ok.ended c.in-Ok.ensures);
}
