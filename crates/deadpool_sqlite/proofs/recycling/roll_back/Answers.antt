-- A rollback ends what is open and keeps what was committed.
use Rattle.deadpool_sqlite.proofs.Texts.{failed_keeps, rollback_keeps, rollback_undoes}
use Rattle.deadpool_sqlite.proofs.recycling.roll_back.Goals as goal

pub returns-in_err-execute-clause-kept : goal.returns-in_err-execute-clause-kept
returns-in_err-execute-clause-kept g c clean = failed_keeps _ _ _ _ _ (c.in_err-execute.ensures.runs clean)

pub returns-clause-kept : goal.returns-clause-kept
returns-clause-kept g c clean = rollback_keeps _ _ _ (c.in_ok-execute.ensures.runs clean)

pub returns-clause-ended : goal.returns-clause-ended
returns-clause-ended g c clean = (rollback_undoes _ _ _ (c.in_ok-execute.ensures.runs clean)).autocommit
