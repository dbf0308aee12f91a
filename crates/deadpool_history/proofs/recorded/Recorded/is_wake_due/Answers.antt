-- Who has seen all of the history knows it, if no get is due.
use Rattle.std.proofs.Common.{sym, ◌∙◌}
use Rattle.deadpool_history.proofs.Leads.{gets_are_told}
use Rattle.deadpool_history.proofs.recorded.Recorded.is_wake_due.Goals as goal

pub returns-clause-quiet : goal.returns-clause-quiet
returns-clause-quiet g c none =
    rw (c.audit.ensures.caller) (
    gets_are_told c.self.inside.pool c.self.inside.author.log c.self.invariant (sym c.is_wake_due.ensures ∙ none)
    )
