-- The threads that were joined gave what they may, and the rest is still to be joined.
use Rattle.std.proofs.Common.{◌≡◌, length, vec_items}
use Rattle.std.specs.Vec.Iter.{into_iter_items, into_iter_len}
use Rattle.deadpool_threads.proofs.Each.{Goes}
use Rattle.deadpool_threads.specs.Returned.{Returned}
use Rattle.deadpool_threads.proofs.threads.joined.Given as goal

abbrev pub invariant-loop-thread : goal.invariant-loop-thread
invariant-loop-thread g l = record {
  left : into_iter_len l.thread-iterator ≡ length (into_iter_items l.thread-iterator);
  goes :
      Goes
      (λ t o. Returned g.W.PoolUser.returns g.W.PoolUser.returns_from t.promise.pool.value t.promise.worker.value o)
      (vec_items l.fn.threads) (into_iter_items l.thread-iterator) (vec_items l.outputs);
}
