-- The law that each state that a history reaches is orderly.
use Rattle.deadpool_unmanaged_turns.proofs.InTurn.{reached}
use Rattle.deadpool_unmanaged_turns.proofs.laws.each_history_is_orderly.Goals as goal

pub returns : goal.returns
returns g c = reached _
