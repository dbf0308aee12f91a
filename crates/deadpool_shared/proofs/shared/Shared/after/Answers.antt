-- What was seen as the lock was taken is a beginning of what was seen as it was given back.
use Rattle.deadpool_chronicle.proofs.Seeing.{begins_on}
use Rattle.deadpool_shared.proofs.shared.Shared.after.Goals as goal

pub returns-clause-seen : goal.returns-clause-seen
returns-clause-seen g c = begins_on _ _ _ c.audit.ensures.seen c.end.ensures.keeps.1

pub returns-clause-earlier : goal.returns-clause-earlier
returns-clause-earlier g c = begins_on _ _ _ c.audit.ensures.earlier c.end.ensures.keeps.1
