-- The law that the books balance after each step of a get, an object or the owner.
use Rattle.deadpool_journal.proofs.StaysBalanced.{made_stays, for_owner_stays}
use Rattle.deadpool_journal.proofs.laws.books_stay_balanced.Goals as goal

pub returns-clause-step : goal.returns-clause-step
returns-clause-step g c = λ d d' step o reply. made_stays d d' step o reply

pub returns-clause-owner_step : goal.returns-clause-owner_step
returns-clause-owner_step g c = λ d d' step reply. for_owner_stays d d' step reply
