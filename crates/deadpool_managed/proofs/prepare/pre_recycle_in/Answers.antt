-- An object that was served now is prepared from the first hook on, in its place.
use Rattle.deadpool_managed.proofs.prepare.pre_recycle_in.Goals as goal

pub returns-in-Some-clause-gives : goal.returns-in-Some-clause-gives
returns-in-Some-clause-gives g c = rw c.in-Some.is (rw c.start.ensures at c.pre_recycle.ensures.gives)
