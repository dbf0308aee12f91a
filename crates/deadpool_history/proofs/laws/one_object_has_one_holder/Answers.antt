-- The law is a lemma.
use Rattle.deadpool_history.proofs.Holding.{of_one}
use Rattle.deadpool_history.proofs.laws.one_object_has_one_holder.Goals as goal

pub returns : goal.returns
returns c = of_one
