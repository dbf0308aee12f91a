-- The law that an object leaves the pool only by a move that may take it.
use Rattle.deadpool_trial.proofs.RunsWell.{may_leave, may, OthersStayInPool, each_move, others_stay}
use Rattle.deadpool_trial.proofs.laws.no_object_is_lost.Goals as goal

pub returns : goal.returns
returns g c = λ manager. each_move (may g.M.Manager g.F.SyncHook g.A.AsyncHook manager) OthersStayInPool
    (λ n now q r h. h) (λ m p x w k h. others_stay (may_leave m p) p x.1 h.1.stay)
