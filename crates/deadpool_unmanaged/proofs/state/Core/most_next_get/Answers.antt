-- All that the line of the gets has are those that the queue lists.
use Rattle.deadpool_unmanaged.proofs.Words.{queue-length}
use Rattle.deadpool_unmanaged.proofs.state.Core.most_next_get.Goals as goal

pub returns : goal.returns
returns g c = rw (← c.self.view_is, queue-length c.self.inside.gets.waiters) c.most_next_number.ensures
