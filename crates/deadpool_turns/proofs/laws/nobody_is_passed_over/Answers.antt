-- The law that no step of another puts one that waits back.
use Rattle.deadpool_turns.proofs.Steps.{nears}
use Rattle.deadpool_turns.proofs.laws.nobody_is_passed_over.Goals as goal

pub returns : goal.returns
returns c = nears
