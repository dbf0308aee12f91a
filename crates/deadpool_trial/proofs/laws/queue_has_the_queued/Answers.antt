-- The law that those in the queue are those that stand as queued.
use Rattle.deadpool_trial.proofs.RunsWell.{may, MarksQueued, each_state}
use Rattle.deadpool_trial.proofs.laws.queue_has_the_queued.Goals as goal

pub returns : goal.returns
returns g c =
    λ manager. each_state (may g.M.Manager g.F.SyncHook g.A.AsyncHook manager) MarksQueued (λ q w. w.lawful.marks)
