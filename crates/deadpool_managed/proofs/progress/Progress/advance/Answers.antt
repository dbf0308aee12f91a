-- One step of a get's work, as its model says, with what the get holds after it.
use Rattle.deadpool_managed.proofs.Phases.{was_more}
use Rattle.deadpool_managed.proofs.progress.Progress.advance.Goals as goal

pub returns-clause-advanced : goal.returns-clause-advanced
returns-clause-advanced g c =
    rw (← c.self.view_is, c.turn.ensures.same, c.turn.ensures.turn) c.step-came.ensures.advanced

pub returns-clause-falls : goal.returns-clause-falls
returns-clause-falls g c more =
    rw (← c.self.view_is, c.turn.ensures.same)
    (c.step-came.ensures.falls
    (was_more c.step-came.result c.step-came.new.self.slot (rw c.turn.ensures.turn at more)))

pub returns-clause-holds : goal.returns-clause-holds
returns-clause-holds g c = rw (c.turn.ensures.same, c.turn.ensures.turn) c.step-came.ensures.leaves.holds
