-- A newcomer stands last in the queue, and the others keep their order until they leave.
use Rattle.deadpool_trial.proofs.RunsWell.{may, KeepsQueue, each_step}
use Rattle.deadpool_trial.proofs.laws.queue_keeps_order.Goals as goal

pub returns : goal.returns
returns g c = λ manager. each_step (may g.M.Manager g.F.SyncHook g.A.AsyncHook manager) KeepsQueue (λ q r s. s.0.queued)
