-- The law that a closed pool only shrinks, by each step of a get, an object or the owner.
use Rattle.deadpool_desk.proofs.Closing.{step_shrinks}
use Rattle.deadpool_desk.proofs.laws.closed_pool_only_shrinks.Goals as goal

pub returns-clause-step : goal.returns-clause-step
returns-clause-step g c = step_shrinks
