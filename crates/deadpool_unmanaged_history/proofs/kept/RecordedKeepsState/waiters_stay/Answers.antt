-- Who is told to wait does so by its own lines, which stay as they are when it sees more.
use Rattle.deadpool_unmanaged_history.proofs.Own.{sees_waits, told_waits}
use Rattle.deadpool_unmanaged_history.proofs.kept.RecordedKeepsState.waiters_stay.Goals as goal

pub returns-clause-told : goal.returns-clause-told
returns-clause-told g c = λ step object reply a b. told_waits step object reply a b

pub returns-clause-kept : goal.returns-clause-kept
returns-clause-kept g c = λ a b wake. sees_waits a b wake
