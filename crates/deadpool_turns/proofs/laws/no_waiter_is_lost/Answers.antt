-- The law that who is in the queue leaves it only by a step that names it.
use Rattle.deadpool_turns.proofs.Steps.{place_keeps, queue_keeps}
use Rattle.deadpool_turns.proofs.laws.no_waiter_is_lost.Goals as goal

pub returns-clause-queue : goal.returns-clause-queue
returns-clause-queue c = queue_keeps

pub returns-clause-place : goal.returns-clause-place
returns-clause-place c = place_keeps
