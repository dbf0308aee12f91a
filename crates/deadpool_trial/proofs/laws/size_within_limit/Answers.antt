-- The law that the size stays within a limit that no move sets.
use Rattle.deadpool_trial.proofs.RunsWell.{may, stays_within}
use Rattle.deadpool_trial.proofs.laws.size_within_limit.Goals as goal

pub returns : goal.returns
returns g c = λ manager. stays_within (may g.M.Manager g.F.SyncHook g.A.AsyncHook manager)
