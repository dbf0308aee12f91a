-- What the threads gave is what their workers may return that were lent this pool.
use Rattle.std.proofs.Common.{◌≡◌, ◌∙◌, sym, subst, vec_items, vec_len}
use Rattle.std.specs.List.{AllZip}
use Rattle.std.proofs.lemmas.Slice.Zip.{AllZip-long}
use Rattle.deadpool_threads.specs.Returned.{Returned}
use Rattle.deadpool_threads.proofs.Each.{zip_through, if_ok_so}
use Rattle.deadpool_threads.proofs.threads.in_threads.Goals as goal

pub returns-in-Ok-clause-each : goal.returns-in-Ok-clause-each
returns-in-Ok-clause-each g c =
    let workers = vec_items c.args.workers in let threads = vec_items c.in-Ok.threads in
    let may = Returned g.W.PoolUser.returns g.W.PoolUser.returns_from in
    if_ok_so
    (λ given. AllZip (λ t o. may t.promise.pool.value t.promise.worker.value o) threads (vec_items given))
    (λ given. vec_len given ≡ vec_len c.args.workers)
    (λ given zipped.
    given.ok.0
    ∙ AllZip-long (λ t o. may t.promise.pool.value t.promise.worker.value o) threads (vec_items given) zipped
    ∙ AllZip-long (λ w t. (t.promise.worker.value ≡ w) × (t.promise.pool.value ≡ c.args.pool.now))
    workers threads c.in-Ok.ensures.workers
    ∙ sym c.args.workers.ok.0)
    c.joined.result c.joined.ensures.threads

pub returns-in-Ok-clause-workers : goal.returns-in-Ok-clause-workers
returns-in-Ok-clause-workers g c =
    let workers = vec_items c.args.workers in let threads = vec_items c.in-Ok.threads in
    let may = Returned g.W.PoolUser.returns g.W.PoolUser.returns_from in
    if_ok_so
    (λ given. AllZip (λ t o. may t.promise.pool.value t.promise.worker.value o) threads (vec_items given))
    (λ given. AllZip (may c.args.pool.now) workers (vec_items given))
    (λ given zipped.
    zip_through (λ w t. (t.promise.worker.value ≡ w) × (t.promise.pool.value ≡ c.args.pool.now))
    (λ t o. may t.promise.pool.value t.promise.worker.value o) (may c.args.pool.now)
    (λ w t o is has. subst (λ pool. may pool w o) is.1
    (subst (λ worker. may t.promise.pool.value worker o) is.0 has))
    workers threads (vec_items given) c.in-Ok.ensures.workers zipped)
    c.joined.result c.joined.ensures.threads
