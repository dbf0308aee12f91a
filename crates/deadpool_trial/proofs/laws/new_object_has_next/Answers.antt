-- The law that a new object has the next number, and no number returns.
use Rattle.deadpool_trial.proofs.RunsWell.{may, CountsOn, each_step, none_returns}
use Rattle.deadpool_trial.proofs.laws.new_object_has_next.Goals as goal

pub returns-clause-next : goal.returns-clause-next
returns-clause-next g c =
    λ manager. each_step (may g.M.Manager g.F.SyncHook g.A.AsyncHook manager) CountsOn (λ q r s. s.0.counted)

pub returns-clause-gone : goal.returns-clause-gone
returns-clause-gone g c = λ manager. none_returns (may g.M.Manager g.F.SyncHook g.A.AsyncHook manager)
