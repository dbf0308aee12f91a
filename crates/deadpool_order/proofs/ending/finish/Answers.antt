-- The count of commands fits, as there are few.
use Rattle.std.proofs.Common.{arith}
use Rattle.deadpool_order.proofs.Ranks.{rank-few}
use Rattle.deadpool_order.proofs.ending.finish.Goals as goal

pub overflow_add-count : goal.overflow_add-count
overflow_add-count g c =
    omega (arith, c.commands.invariant.few, rank-few c.args.order.now.state)
