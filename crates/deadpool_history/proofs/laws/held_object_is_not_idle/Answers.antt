-- The law is a lemma.
use Rattle.deadpool_history.proofs.Holding.{none_idle}
use Rattle.deadpool_history.proofs.laws.held_object_is_not_idle.Goals as goal

pub returns : goal.returns
returns c = none_idle
