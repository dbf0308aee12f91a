-- A newcomer stands last in its queue, and the others keep their order until they leave.
use Rattle.deadpool_trial.proofs.OfUnmanaged.{Words.KeepsQueues, Well.each_step}
use Rattle.deadpool_trial.proofs.unmanaged.laws.queues_keep_order.Goals as goal

pub returns : goal.returns
returns g c = each_step KeepsQueues (λ p q step. step.queues)
