-- Each worker that was taken has its thread, and the rest is still to be started.
use Rattle.std.proofs.Common.{◌≡◌, length, vec_items}
use Rattle.std.specs.Vec.Iter.{into_iter_items, into_iter_len}
use Rattle.deadpool_threads.proofs.Each.{Goes}
use Rattle.deadpool_threads.proofs.threads.started.Given as goal

abbrev pub invariant-loop-worker : goal.invariant-loop-worker
invariant-loop-worker g l = record {
  left : into_iter_len l.worker-iterator ≡ length (into_iter_items l.worker-iterator);
  goes :
      Goes (λ w t. (t.promise.worker.value ≡ w) × (t.promise.pool.value ≡ l.fn.pool))
      (vec_items l.fn.workers) (into_iter_items l.worker-iterator) (vec_items l.threads);
}
