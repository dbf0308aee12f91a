-- What was seen as the lock was taken is a beginning of what was seen as it was given back.
use Rattle.deadpool_chronicle.proofs.Seeing.{begins_on}
use Rattle.deadpool_shared.proofs.shared.Shared.caller.Goals as goal

pub returns-clause-opened : goal.returns-clause-opened
returns-clause-opened g c = begins_on _ _ _ c.admit_after-caller.ensures.earlier c.end.ensures.keeps.1
