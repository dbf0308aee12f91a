-- The laws are lemmas.
use Rattle.deadpool_unmanaged_history.proofs.Waiting.{each_in_queue, of_one}
use Rattle.deadpool_unmanaged_history.proofs.laws.who_waits_is_in_the_queue.Goals as goal

pub returns-clause-queue : goal.returns-clause-queue
returns-clause-queue g c = each_in_queue

pub returns-clause-one : goal.returns-clause-one
returns-clause-one g c = of_one
