-- The law that who waits is in the queue.
use Rattle.deadpool_turns.proofs.Named.{waits_in_queue}
use Rattle.deadpool_turns.proofs.laws.who_waits_is_in_the_queue.Goals as goal

pub returns : goal.returns
returns c = waits_in_queue
