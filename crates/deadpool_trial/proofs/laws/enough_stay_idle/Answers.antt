-- The law that a resize and a retain leave as many idle as are to stay.
use Rattle.deadpool_trial.proofs.RunsWell.{may, KeepsMinIdle, LeavesEnough, each_move}
use Rattle.deadpool_trial.proofs.laws.enough_stay_idle.Goals as goal

pub returns-clause-min_idle : goal.returns-clause-min_idle
returns-clause-min_idle g c =
    λ manager. each_move (may g.M.Manager g.F.SyncHook g.A.AsyncHook manager) KeepsMinIdle (λ n now q r h. h)
    (λ m p x w k h. h.1.min_idle)

pub returns-clause-idle : goal.returns-clause-idle
returns-clause-idle g c =
    λ manager. each_move (may g.M.Manager g.F.SyncHook g.A.AsyncHook manager) LeavesEnough (λ n now q r h. tt)
    (λ m p x w k h. h.4)
