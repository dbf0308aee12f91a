-- The tally is asked for by a caller that has seen how the pool opened, and after it all are told.
use Rattle.deadpool_shared.proofs.shared.Shared.tally.Goals as goal

pub returns-clause-call : goal.returns-clause-call
returns-clause-call g c = (
  c.admit_after-caller.result,
  (
    c.end.new.seer,
    (
      c.admit_after-caller.ensures.caller,
      c.admit_after-caller.ensures.earlier,
      (
        c.tally-told.new.caller,
        (
          (c.tally-told.ensures.call, c.tally-told.ensures.counted),
          c.end.ensures.keeps,
          c.end.ensures.quiet,
        ),
      ),
    ),
  ),
)
