-- A pool's state with its journal.
use Rattle.std.specs.Prelude.{◌≡◌, ℕ, ◌-◌, [], Option}
use Rattle.deadpool_unmanaged.specs.State.{State, CoreState, bounded, opened, size}
use Rattle.deadpool_unmanaged_journal.specs.LogState.{LogState, noted}
use Rattle.deadpool_unmanaged_journal.specs.Tally.{counted}
use Rattle.deadpool_unmanaged_journal.specs.declared.entry.Entry.{Entry}
use Rattle.deadpool_unmanaged_journal.specs.declared.tally.Tally.{Tally}

pub record Journaling (T O : Type 0) : Type 0 where
  pub core : CoreState T
  -- those that it opened with
  pub limit : ℕ
  pub max_waiting : Option ℕ
  pub log : LogState O
  pub tally : Tally

module _ {T O : Type 0} where
  -- the pool that it opened as
  abbrev pub opening : Journaling T O → State O
  opening j = bounded j.max_waiting (opened j.limit [])

  -- One entry is noted, and the tally counts it. All but these and the pool's state is as it was.
  abbrev pub Notes : Entry O → Journaling T O → Journaling T O → Type 0
  Notes e j j' = j' ≡ record j {
    core = j'.core;
    log = noted e j.log;
    tally = counted (size j.core.pool - size j'.core.pool) e j.tally;
  }
