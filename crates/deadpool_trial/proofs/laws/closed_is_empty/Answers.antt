-- The law that a closed pool has limit 0 and nothing idle.
use Rattle.deadpool_trial.proofs.RunsWell.{may, IsEmptyIfClosed, each_state}
use Rattle.deadpool_trial.proofs.laws.closed_is_empty.Goals as goal

pub returns : goal.returns
returns g c =
    λ manager. each_state (may g.M.Manager g.F.SyncHook g.A.AsyncHook manager) IsEmptyIfClosed (λ q w. w.closed)
