-- The law that those in a queue are those that stand as queued there.
use Rattle.deadpool_trial.proofs.OfUnmanaged.{Words.HasTheQueued, Well.each_state}
use Rattle.deadpool_trial.proofs.unmanaged.laws.queues_have_the_queued.Goals as goal

pub returns : goal.returns
returns g c = each_state HasTheQueued (λ p well. record { gets = well.gets.marks; adds = well.adds.marks })
