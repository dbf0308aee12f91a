-- The law that the queues keep their order.
use Rattle.deadpool_unmanaged_turns.proofs.InTurn.{keeps_order}
use Rattle.deadpool_unmanaged_turns.proofs.laws.grants_keep_the_order.Goals as goal

pub returns : goal.returns
returns g c = keeps_order _
