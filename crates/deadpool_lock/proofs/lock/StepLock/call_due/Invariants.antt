-- While those that are due are told, nothing is lost of what was known.
use Rattle.deadpool_lock.proofs.lock.StepLock.call_due.Given as goal

abbrev pub invariant-telling : goal.invariant-telling
invariant-telling g l = g.L.Wakes.keeps l.initial.seer l.seer
