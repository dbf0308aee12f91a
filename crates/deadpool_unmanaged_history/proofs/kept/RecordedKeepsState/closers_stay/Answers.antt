-- Who has closed the pool has a close among its calls, to which nothing is done but that others follow.
use Rattle.deadpool_unmanaged_history.proofs.Closers.{closed_before, closes}
use Rattle.deadpool_unmanaged_history.proofs.kept.RecordedKeepsState.closers_stay.Goals as goal

pub returns-clause-closes : goal.returns-clause-closes
returns-clause-closes g c = λ a b. closes a b

pub returns-clause-called : goal.returns-clause-called
returns-clause-called g c = λ e a b. closed_before e a b
