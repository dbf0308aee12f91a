-- The law is a lemma.
use Rattle.deadpool_history.proofs.Holding.{hands_own_on}
use Rattle.deadpool_history.proofs.laws.each_gives_away_its_own.Goals as goal

pub returns : goal.returns
returns c = hands_own_on
