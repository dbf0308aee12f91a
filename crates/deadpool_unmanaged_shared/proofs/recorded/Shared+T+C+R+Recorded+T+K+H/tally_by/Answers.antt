-- A tally is one call, after which all are told.
use Rattle.deadpool_unmanaged_shared.proofs.recorded.Shared+T+C+R+Recorded+T+K+H.tally_by.Goals as goal

pub returns-clause-call : goal.returns-clause-call
returns-clause-call g c = (
  c.tally_by-told.new.caller,
  (
    (c.tally_by-told.ensures.counted, c.tally_by-told.ensures.called),
    c.end.ensures.keeps,
    c.end.ensures.quiet,
  ),
)
