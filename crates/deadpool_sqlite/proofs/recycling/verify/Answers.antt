-- The query that verifies a connection keeps what was committed, and its answer says that the connection is open.
use Rattle.deadpool_sqlite.proofs.Texts.{answer_keeps, answer_is_open, no_answer_keeps}
use Rattle.deadpool_sqlite.proofs.recycling.verify.Goals as goal

pub returns-in_err-query_row-clause-kept : goal.returns-in_err-query_row-clause-kept
returns-in_err-query_row-clause-kept g c clean = no_answer_keeps _ _ _ (c.in_err-query_row.ensures.row clean)

pub returns-in_ok-query_row-clause-kept : goal.returns-in_ok-query_row-clause-kept
returns-in_ok-query_row-clause-kept g c clean = answer_keeps _ _ _ (c.in_ok-query_row.ensures.row clean)

pub returns-in_ok-query_row-clause-open : goal.returns-in_ok-query_row-clause-open
returns-in_ok-query_row-clause-open g c asked clean = answer_is_open _ _ _ (c.in_ok-query_row.ensures.row clean)
