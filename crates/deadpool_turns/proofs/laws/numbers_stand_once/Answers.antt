-- The law that no number stands twice.
use Rattle.deadpool_turns.proofs.Holding.{numbers_once, opens_once}
use Rattle.deadpool_turns.proofs.laws.numbers_stand_once.Goals as goal

pub returns-clause-opened : goal.returns-clause-opened
returns-clause-opened c = opens_once

pub returns-clause-run : goal.returns-clause-run
returns-clause-run c = numbers_once
