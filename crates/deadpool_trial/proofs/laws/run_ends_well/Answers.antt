-- The law that a run keeps the invariant.
use Rattle.deadpool_trial.proofs.RunsWell.{may, ends_well}
use Rattle.deadpool_trial.proofs.laws.run_ends_well.Goals as goal

pub returns : goal.returns
returns g c = λ manager. ends_well (may g.M.Manager g.F.SyncHook g.A.AsyncHook manager)
