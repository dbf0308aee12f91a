-- The law that only its own move takes a get out of the queue, and no move changes another's get.
use Rattle.deadpool_trial.proofs.RunsWell.{may, OthersStayQueued, OthersStand, each_move, others_stay_queued}
use Rattle.deadpool_trial.proofs.laws.no_waiter_is_lost.Goals as goal

pub returns-clause-queue : goal.returns-clause-queue
returns-clause-queue g c =
    λ manager. each_move (may g.M.Manager g.F.SyncHook g.A.AsyncHook manager) OthersStayQueued (λ n now q r h. h)
    (λ m p x w k h. others_stay_queued m p x.1 w.lawful k.lawful h.1.others)

pub returns-clause-parties : goal.returns-clause-parties
returns-clause-parties g c =
    λ manager. each_move (may g.M.Manager g.F.SyncHook g.A.AsyncHook manager) OthersStand (λ n now q r h. h)
    (λ m p x w k h. h.1.others)
