-- A retain is one call, after which all are told.
use Rattle.deadpool_shared.proofs.shared.Shared.retain_by.Goals as goal

pub returns-clause-call : goal.returns-clause-call
returns-clause-call g c = (
  c.retain-retained.new.caller,
  (
    c.retain-retained.ensures.which,
    c.end.ensures.keeps,
    c.end.ensures.quiet,
  ),
)
