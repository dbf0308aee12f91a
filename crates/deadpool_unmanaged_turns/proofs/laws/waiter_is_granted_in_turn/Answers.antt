-- The law that who waits is granted what it asks for in its turn.
use Rattle.deadpool_unmanaged_turns.proofs.InTurn.{add_in_turn, get_in_turn}
use Rattle.deadpool_unmanaged_turns.proofs.laws.waiter_is_granted_in_turn.Goals as goal

pub returns-clause-gets : goal.returns-clause-gets
returns-clause-gets g c = get_in_turn _

pub returns-clause-adds : goal.returns-clause-adds
returns-clause-adds g c = add_in_turn _
