-- The tally is that of the history.
use Rattle.deadpool_unmanaged_history.proofs.Leads.{is_tally_of}
use Rattle.deadpool_unmanaged_history.proofs.recorded.Recorded.tally.Goals as goal

pub returns-clause-counted : goal.returns-clause-counted
returns-clause-counted g c =
    rw (c.tally.ensures.tally, ← c.self.view_is) (
    is_tally_of g.K.Naming.name_of c.self.inside.pool c.self.inside.author.log c.self.invariant
    )
