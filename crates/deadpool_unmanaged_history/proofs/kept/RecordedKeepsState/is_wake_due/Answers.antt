-- Whoever has seen all of the history knows that all are told, if no drain is due either.
use Rattle.deadpool_unmanaged_history.proofs.Leads.{drains_are_told}
use Rattle.deadpool_unmanaged_history.proofs.kept.RecordedKeepsState.is_wake_due.Goals as goal

pub returns-clause-quiet : goal.returns-clause-quiet
returns-clause-quiet g c none due =
    let recorded = c.args.self.now in (
      c.is_wake_due.ensures.quiet none,
      rw (c.is_wake_due.ensures.seer) (
          drains_are_told g.K.Naming.name_of recorded.pool recorded.log c.is_wake_due.ensures.leads due
          ),
    )
