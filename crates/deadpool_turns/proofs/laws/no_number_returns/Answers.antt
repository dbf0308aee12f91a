-- The law that a number goes for good.
use Rattle.deadpool_turns.proofs.Holding.{goes_for_good}
use Rattle.deadpool_turns.proofs.laws.no_number_returns.Goals as goal

pub returns : goal.returns
returns c = goes_for_good
