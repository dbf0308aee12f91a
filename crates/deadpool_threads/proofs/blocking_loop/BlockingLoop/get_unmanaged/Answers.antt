-- What a wait for an unmanaged get ends with is an object of the pool that was asked.
use Rattle.std.proofs.Common.{◌≡◌, IfOk}
use Rattle.deadpool_threads.proofs.GoesBack.{gives_as_begun, nothing_goes_back}
use Rattle.deadpool_threads.proofs.blocking_loop.BlockingLoop.get_unmanaged.Goals as goal

pub returns-in-Ready : goal.returns-in-Ready
returns-in-Ready g c = record {
  home =
      gives_as_begun _ _ (λ x. IfOk x (λ o. o.home ≡ c.args.pool.now))
      _ _ _ c.get_ref-get.result c.exchange_registration.new.self _ c.in-Ready.ended
      c.get_ref-get.ensures c.exchange_registration.ensures.taken (λ back. back)
      (nothing_goes_back (λ o. o.home ≡ c.args.pool.now) c.in-Ready.ended _) c.in-Ready.ensures.value;
}

pub returns-in-Ok : goal.returns-in-Ok
returns-in-Ok g c = record {
  home =
      gives_as_begun _ _ (λ x. IfOk x (λ o. o.home ≡ c.args.pool.now))
      _ _ _ c.get_ref-get.result c.exchange_registration.new.self _ c.in-Ok.ended
      c.get_ref-get.ensures c.exchange_registration.ensures.taken (λ back. back)
      (nothing_goes_back (λ o. o.home ≡ c.args.pool.now) c.in-Ok.ended _)
      (c.in_default.ensures.same c.in-Ok.ended c.in-Ok.ensures);
}
