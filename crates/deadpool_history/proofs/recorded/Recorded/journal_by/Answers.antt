-- A journal that is copied for a caller is a beginning of the history.
use Rattle.deadpool_history.proofs.First.{beginning_if_ok}
use Rattle.deadpool_history.proofs.recorded.Recorded.journal_by.Goals as goal

pub returns-clause-beginning : goal.returns-clause-beginning
returns-clause-beginning g c =
    rw (← c.audit.ensures.same, ← c.self.view_is) (
    beginning_if_ok c.self.inside.pool c.self.inside.author.log c.journal.result c.self.invariant
    c.journal.ensures.limit c.journal.ensures.mode c.journal.ensures.min_idle
    c.journal.ensures.max_waiting c.journal.ensures.entries c.journal.ensures.full
    )
