-- One step of a get is that of its work, with its timeouts, and it comes nearer to its end by it.
use Rattle.deadpool_managed.proofs.get.GetState.advance.Goals as goal

pub returns-clause-advanced : goal.returns-clause-advanced
returns-clause-advanced g c = rw (← c.self.view_is) c.advance.ensures.advanced

pub returns-clause-falls : goal.returns-clause-falls
returns-clause-falls g c = rw (← c.self.view_is) c.advance.ensures.falls
