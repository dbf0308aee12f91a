-- Who has seen all of the history knows it, if nobody is due.
use Rattle.std.proofs.Common.{rules}
use Rattle.deadpool_unmanaged_history.proofs.Leads.{told_if_none}
use Rattle.deadpool_unmanaged_history.proofs.recorded.Recorded.is_wake_due.Goals as goal

pub returns-clause-quiet : goal.returns-clause-quiet
returns-clause-quiet g c none =
    told_if_none g.K.Naming.name_of c.self.inside.pool c.self.inside.author.log _ c.is_wake_due.result c.self.invariant
    c.is_wake_due.ensures none (search rules)
