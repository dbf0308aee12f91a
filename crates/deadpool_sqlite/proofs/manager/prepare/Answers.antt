-- A batch that fails, or leaves a transaction open, is why a connection is not handed out.
use Rattle.std.proofs.Common.{rules, inr, refl}
use Rattle.deadpool_sqlite.proofs.Outcomes.{batch_fails}
use Rattle.deadpool_sqlite.proofs.manager.prepare.Goals as goal

pub returns-in_err-execute_batch-clause-failed : goal.returns-in_err-execute_batch-clause-failed
returns-in_err-execute_batch-clause-failed g c =
    batch_fails g.S.Store c.args.batch.now c.args.conn c.execute_batch.new.self c.execute_batch.result
    c.from_residual.result (search rules) c.execute_batch.ensures.ran

pub returns-else-is_autocommit-clause-failed : goal.returns-else-is_autocommit-clause-failed
returns-else-is_autocommit-clause-failed g c =
    (c.execute_batch.new.self, inr (c.in_ok-execute_batch.ensures.ran, (search rules, refl)))
