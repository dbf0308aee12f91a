-- The law that no object's number stands twice.
use Rattle.deadpool_trial.proofs.OfUnmanaged.{Words.IsNumbered, Well.each_state}
use Rattle.deadpool_trial.proofs.unmanaged.laws.numbers_stand_once.Goals as goal

pub returns : goal.returns
returns g c = each_state IsNumbered (λ p well. well.numbered)
