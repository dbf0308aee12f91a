-- The law that a retain of a closed pool only shrinks it.
use Rattle.deadpool_desk.proofs.Closing.{retain_shrinks}
use Rattle.deadpool_desk.proofs.laws.retain_of_closed_pool_only_shrinks.Goals as goal

pub returns : goal.returns
returns g c = retain_shrinks g.R.Retainer
