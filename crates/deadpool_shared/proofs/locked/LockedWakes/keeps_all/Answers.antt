-- What a caller has seen stays seen.
use Rattle.deadpool_chronicle.proofs.Seeing.{sees_on, sees_same}
use Rattle.deadpool_shared.proofs.locked.LockedWakes.keeps_all.Goals as goal

pub returns-clause-same : goal.returns-clause-same
returns-clause-same g c = sees_same

pub returns-clause-on : goal.returns-clause-on
returns-clause-on g c = sees_on
