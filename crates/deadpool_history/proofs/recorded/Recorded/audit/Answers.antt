-- A history leads by legal steps from its opening to the state that the pool has.
use Rattle.deadpool_history.proofs.Leads.{is_legal}
use Rattle.deadpool_history.proofs.recorded.Recorded.audit.Goals as goal

pub returns-clause-legal : goal.returns-clause-legal
returns-clause-legal g c = rw (← c.self.view_is) (is_legal c.self.inside.pool c.self.inside.author.log c.self.invariant)
