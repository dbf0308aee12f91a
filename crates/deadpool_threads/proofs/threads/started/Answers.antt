-- Each worker gets a thread that gives what it may return.
use Rattle.std.proofs.Common.{◌≡◌, vec_items, rules}
use Rattle.std.specs.Vec.Iter.{into_iter_items, into_iter_len}
use Rattle.deadpool_threads.proofs.Each.{goes_on, goes_whole, left_less, none_left}
use Rattle.deadpool_threads.proofs.threads.started.Goals as goal

pub loop-worker-preserved : goal.loop-worker-preserved
loop-worker-preserved g c =
    let was = c.loop-worker.invariant in let step = c.in-Some.ensures.steps in
    let before = into_iter_items c.loop-worker.worker-iterator in let rest = into_iter_items c.next.new.self in
    let done = vec_items c.loop-worker.threads in let more = vec_items c.push.new.self in
    record {
      left =
          left_less before rest c.in-Some.worker (into_iter_len c.loop-worker.worker-iterator)
          (into_iter_len c.next.new.self)
          was.left step.0 step.1;
      goes =
          goes_on (λ w t. (t.promise.worker.value ≡ w) × (t.promise.pool.value ≡ c.args.pool.now))
          (vec_items c.args.workers) before rest done more
          c.in-Some.worker c.in-Some-start.thread step.0 (search rules)
          (c.in-Some-start.ensures.worker, c.in-Some-start.ensures.pool) was.goes;
    }

pub returns : goal.returns
returns g c = record {
  workers =
      goes_whole (λ w t. (t.promise.worker.value ≡ w) × (t.promise.pool.value ≡ c.args.pool.now))
      (vec_items c.args.workers) (into_iter_items c.loop-worker.worker-iterator) (vec_items c.loop-worker.threads)
      (none_left _ _ c.loop-worker.invariant.left c.in-None.ensures.steps.0) c.loop-worker.invariant.goes;
}
