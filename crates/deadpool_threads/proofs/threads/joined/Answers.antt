-- Each thread that is joined gives what its worker may return.
use Rattle.std.proofs.Common.{vec_items, rules}
use Rattle.std.specs.Vec.Iter.{into_iter_items, into_iter_len}
use Rattle.deadpool_threads.proofs.Each.{goes_on, goes_whole, left_less, none_left}
use Rattle.deadpool_threads.specs.Returned.{Returned}
use Rattle.deadpool_threads.proofs.threads.joined.Goals as goal

pub loop-thread-preserved : goal.loop-thread-preserved
loop-thread-preserved g c =
    let was = c.loop-thread.invariant in let step = c.in-Some.ensures.steps in
    let before = into_iter_items c.loop-thread.thread-iterator in let rest = into_iter_items c.next.new.self in
    let done = vec_items c.loop-thread.outputs in let more = vec_items c.push.new.self in
    record {
      left =
          left_less before rest c.in-Some.thread (into_iter_len c.loop-thread.thread-iterator)
          (into_iter_len c.next.new.self)
          was.left step.0 step.1;
      goes =
          goes_on
          (λ t o. Returned g.W.PoolUser.returns g.W.PoolUser.returns_from t.promise.pool.value t.promise.worker.value o)
          (vec_items c.args.threads) before rest done more
          c.in-Some.thread c.join.result step.0 (search rules) c.join.ensures was.goes;
    }

pub returns-clause-threads : goal.returns-clause-threads
returns-clause-threads g c =
    goes_whole
    (λ t o. Returned g.W.PoolUser.returns g.W.PoolUser.returns_from t.promise.pool.value t.promise.worker.value o)
    (vec_items c.args.threads) (into_iter_items c.loop-thread.thread-iterator) (vec_items c.loop-thread.outputs)
    (none_left _ _ c.loop-thread.invariant.left c.in-None.ensures.steps.0) c.loop-thread.invariant.goes
