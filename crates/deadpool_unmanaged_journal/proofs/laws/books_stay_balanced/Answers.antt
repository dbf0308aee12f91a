-- The law that the books balance after each step of a get, an add, an object or the owner.
use Rattle.deadpool_unmanaged_journal.proofs.Balance.{for_owner_balanced, made_balanced}
use Rattle.deadpool_unmanaged_journal.proofs.laws.books_stay_balanced.Goals as goal

pub returns-clause-step : goal.returns-clause-step
returns-clause-step g c = λ d d' step o reply h t b. made_balanced d d' step o reply t h b

pub returns-clause-owner_step : goal.returns-clause-owner_step
returns-clause-owner_step g c = λ d d' step reply h t b. for_owner_balanced d d' step reply t h b
