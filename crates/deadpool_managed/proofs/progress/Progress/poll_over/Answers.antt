-- A poll of a get's work, as its model says, with what the get holds after it.
use Rattle.deadpool_managed.proofs.progress.Progress.poll_over.Goals as goal

pub returns-clause-polled : goal.returns-clause-polled
returns-clause-polled g c = rw (← c.self.view_is, c.turn.ensures.same, c.turn.ensures.turn) c.run-came.ensures.polled

pub returns-clause-holds : goal.returns-clause-holds
returns-clause-holds g c = rw (c.turn.ensures.same, c.turn.ensures.turn) c.run-came.ensures.leaves.holds
