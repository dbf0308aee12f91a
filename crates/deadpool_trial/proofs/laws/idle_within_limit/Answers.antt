-- The law that no more objects are idle than the limit.
use Rattle.deadpool_trial.proofs.RunsWell.{may, HasFewIdle, each_state}
use Rattle.deadpool_trial.proofs.laws.idle_within_limit.Goals as goal

pub returns : goal.returns
returns g c = λ manager. each_state (may g.M.Manager g.F.SyncHook g.A.AsyncHook manager) HasFewIdle (λ q w. w.few_idle)
