-- The law that an idle object stands ready for each get that was granted one.
use Rattle.deadpool_trial.proofs.OfUnmanaged.{Words.KeepsPromises, Well.each_state}
use Rattle.deadpool_trial.proofs.unmanaged.laws.granted_objects_are_idle.Goals as goal

pub returns : goal.returns
returns g c = each_state KeepsPromises (λ p well. well.promises)
