-- A pool's state with its journal.
use Rattle.std.specs.Prelude.{◌≡◌, ℕ, ◌-◌, Option}
use Rattle.deadpool_parts.specs.declared.config.QueueMode.{QueueMode}
use Rattle.deadpool_desk.specs.CoreState.{CoreState}
use Rattle.deadpool_desk.specs.DeskState.{DeskState, bounded, new_core, size}
use Rattle.deadpool_journal.specs.LogState.{LogState, noted}
use Rattle.deadpool_journal.specs.Tally.{counted}
use Rattle.deadpool_journal.specs.declared.entry.Entry.{Entry}
use Rattle.deadpool_journal.specs.declared.tally.Tally.{Tally}

pub record Journaling (T : Type 0) : Type 0 where
  pub core : CoreState T
  -- those that it opened with
  pub limit : ℕ
  pub mode : QueueMode
  pub min_idle : ℕ
  pub max_waiting : Option ℕ
  pub log : LogState
  pub tally : Tally

module _ {T : Type 0} where
  -- the pool that it opened as
  abbrev pub opening : Journaling T → DeskState ℕ
  opening j = bounded j.max_waiting (new_core j.limit j.mode 0 j.min_idle)

  -- One entry is noted, and the tally counts it. All but these and the pool's state is as it was.
  abbrev pub Notes : Entry → Journaling T → Journaling T → Type 0
  Notes e j j' = j' ≡ record j {
    core = j'.core;
    log = noted e j.log;
    tally = counted (size j.core.desk - size j'.core.desk) e j.tally;
  }
