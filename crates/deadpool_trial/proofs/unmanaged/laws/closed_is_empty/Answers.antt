-- The law that a closed pool has nothing idle.
use Rattle.deadpool_trial.proofs.OfUnmanaged.{Words.IsEmptyIfClosed, Well.each_state}
use Rattle.deadpool_trial.proofs.unmanaged.laws.closed_is_empty.Goals as goal

pub returns : goal.returns
returns g c = each_state IsEmptyIfClosed (λ p well. well.closed)
