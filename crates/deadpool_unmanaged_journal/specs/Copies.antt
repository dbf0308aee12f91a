-- A journal as it is handed out.
use Rattle.std.specs.Prelude.{[]}
use Rattle.deadpool_unmanaged.specs.State.{State, bounded, opened}
use Rattle.deadpool_unmanaged_journal.specs.Replay.{Runs}
use Rattle.deadpool_unmanaged_journal.specs.declared.journal.Journal.{Journal}

module _ {O : Type 0} where
  -- the pool that it opened as
  abbrev pub opened_as : Journal O → State O
  opened_as journal = bounded journal.max_waiting (opened journal.limit [])

  -- its entries are steps from there on
  abbrev pub HasSteps : Journal O → Type 0
  HasSteps journal = (last : State O) × Runs (opened_as journal) journal.entries.items last
