-- A poll of a get is that of its work, with its timeouts.
use Rattle.deadpool_managed.proofs.get.GetState.poll_over.Goals as goal

pub returns-clause-polled : goal.returns-clause-polled
returns-clause-polled g c = rw (← c.self.view_is) c.poll_over.ensures.polled
