-- The law that who is in a queue leaves it only by a step that names it.
use Rattle.deadpool_unmanaged_turns.proofs.InTurn.{keeps_grant, stays}
use Rattle.deadpool_unmanaged_turns.proofs.laws.no_waiter_is_lost.Goals as goal

pub returns-clause-queues : goal.returns-clause-queues
returns-clause-queues g c = stays _

pub returns-clause-grants : goal.returns-clause-grants
returns-clause-grants g c = keeps_grant _
