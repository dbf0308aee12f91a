-- A step of the owner is one call, after which all are told.
use Rattle.deadpool_shared.proofs.shared.Shared.make_for_owner_by.Goals as goal

pub returns-clause-call : goal.returns-clause-call
returns-clause-call g c =
    (c.make_for_owner-reply.new.caller, (c.make_for_owner-reply.ensures.call, c.end.ensures.keeps, c.end.ensures.quiet))
