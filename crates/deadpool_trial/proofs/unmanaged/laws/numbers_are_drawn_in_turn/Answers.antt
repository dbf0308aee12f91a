-- The law that each move draws the next number or none, and no number returns.
use Rattle.deadpool_trial.proofs.OfUnmanaged.{Words.CountsOn, Well.each_step, Well.none_returns}
use Rattle.deadpool_trial.proofs.unmanaged.laws.numbers_are_drawn_in_turn.Goals as goal

pub returns-clause-next : goal.returns-clause-next
returns-clause-next g c = each_step CountsOn (λ p q step. step.counts)

pub returns-clause-gone : goal.returns-clause-gone
returns-clause-gone g c = none_returns
