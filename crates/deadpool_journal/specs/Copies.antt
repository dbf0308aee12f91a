-- A journal as it is handed out.
use Rattle.std.specs.Prelude.{ℕ}
use Rattle.deadpool_desk.specs.DeskState.{DeskState, bounded, new_core}
use Rattle.deadpool_journal.specs.Replay.{Runs}
use Rattle.deadpool_journal.specs.declared.journal.Journal.{Journal}

-- the desk that its pool opened as
abbrev pub opened_as : Journal → DeskState ℕ
opened_as journal = bounded journal.max_waiting (new_core journal.limit journal.mode 0 journal.min_idle)

-- its entries are steps from there on
abbrev pub HasSteps : Journal → Type 0
HasSteps journal = (last : DeskState ℕ) × Runs (opened_as journal) journal.entries.items last
