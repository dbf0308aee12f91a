-- The law that no step puts back one that waits.
use Rattle.deadpool_unmanaged_turns.proofs.InTurn.{add_comes_nearer, get_comes_nearer}
use Rattle.deadpool_unmanaged_turns.proofs.laws.nobody_is_passed_over.Goals as goal

pub returns-clause-gets : goal.returns-clause-gets
returns-clause-gets g c = get_comes_nearer _

pub returns-clause-adds : goal.returns-clause-adds
returns-clause-adds g c = add_comes_nearer _
