-- The law that a closed pool only shrinks.
use Rattle.deadpool_unmanaged.proofs.Closing.{step_shrinks}
use Rattle.deadpool_unmanaged.proofs.laws.closed_pool_only_shrinks.Goals as goal

pub returns : goal.returns
returns g c = step_shrinks
