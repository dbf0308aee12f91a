-- The pool that the workers are lent is built of the builder.
use Rattle.std.proofs.Common.{vec_items}
use Rattle.deadpool_threads.specs.Returned.{Returned}
use Rattle.deadpool_threads.proofs.Each.{zip_so}
use Rattle.deadpool_threads.proofs.keeping.with_keeper_by.Goals as goal

pub returns-clause-workers : goal.returns-clause-workers
returns-clause-workers g c =
    zip_so (Returned g.W.PoolUser.returns g.W.PoolUser.returns_from c.in_ok-pool.pool)
    g.W.PoolUser.returns (λ w o has. has.0)
    (vec_items c.args.workers) (vec_items c.in_ok-outputs.outputs) c.in_ok-outputs.ensures.workers

pub returns-clause-workers_built : goal.returns-clause-workers_built
returns-clause-workers_built g c =
    zip_so (Returned g.W.PoolUser.returns g.W.PoolUser.returns_from c.in_ok-pool.pool)
    (λ w o. g.W.PoolUser.returns_from w c.args.builder o)
    (λ w o has. has.1 c.args.builder c.in_ok-pool.ensures.built)
    (vec_items c.args.workers) (vec_items c.in_ok-outputs.outputs) c.in_ok-outputs.ensures.workers
