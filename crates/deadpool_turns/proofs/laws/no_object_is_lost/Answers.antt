-- The law of what may take an object out of a pool.
use Rattle.deadpool_turns.proofs.Holding.{keeps_objects}
use Rattle.deadpool_turns.proofs.laws.no_object_is_lost.Goals as goal

pub returns : goal.returns
returns c = keeps_objects
