-- The law that a run keeps the invariant.
use Rattle.deadpool_trial.proofs.OfUnmanaged.Well.{ends_well}
use Rattle.deadpool_trial.proofs.unmanaged.laws.run_ends_well.Goals as goal

pub returns : goal.returns
returns g c = ends_well
