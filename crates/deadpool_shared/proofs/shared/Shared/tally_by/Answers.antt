-- A tally is one call, after which all are told.
use Rattle.deadpool_shared.proofs.shared.Shared.tally_by.Goals as goal

pub returns-clause-call : goal.returns-clause-call
returns-clause-call g c = (
  c.tally-told.new.caller,
  (
    (c.tally-told.ensures.call, c.tally-told.ensures.counted),
    c.end.ensures.keeps,
    c.end.ensures.quiet,
  ),
)
