-- The law that each holds what it was given, and may give it away.
use Rattle.deadpool_turns.proofs.Holds.{hands_own, holds_own}
use Rattle.deadpool_turns.proofs.laws.each_holds_what_it_was_given.Goals as goal

pub returns-clause-holds : goal.returns-clause-holds
returns-clause-holds c = holds_own

pub returns-clause-hands : goal.returns-clause-hands
returns-clause-hands c = hands_own
