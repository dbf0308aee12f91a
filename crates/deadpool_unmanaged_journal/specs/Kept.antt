-- What a pool's state with its journal keeps.
use Rattle.std.specs.Prelude.{◌≡◌, ◌≤◌, true, false, length}
use Rattle.deadpool_unmanaged.specs.State.{State, size}
use Rattle.deadpool_unmanaged_journal.specs.ByName.{by_name, silent}
use Rattle.deadpool_unmanaged_journal.specs.Journaling.{Journaling, opening}
use Rattle.deadpool_unmanaged_journal.specs.Replay.{Runs, RunsCounted}
use Rattle.deadpool_unmanaged_journal.specs.Tally.{AreBalanced, no_tally}
use Rattle.deadpool_unmanaged_journal.specs.declared.tally.Tally.{Tally}

pub record JournalInvariant {T O : Type 0} (name : T → O) (j : Journaling T O) : Type 0 where
  -- the entries are steps from the pool as it opened, and lead to the state until the mark is set
  pub steps : (last : State O) × Runs (opening j) j.log.entries last
      × (j.log.is_full ≡ false → last ≡ silent (by_name name j.core.pool))
  -- there are no more entries than there may be
  pub within : length j.log.entries ≤ j.log.most
  -- and just as many once the mark is set
  pub full : j.log.is_full ≡ true → length j.log.entries ≡ j.log.most
  -- the tally is that of the entries, until the mark is set
  pub counts : (last : State O) × (tally : Tally) × RunsCounted (opening j) no_tally j.log.entries last tally
      × (j.log.is_full ≡ false → (last ≡ silent (by_name name j.core.pool)) × (tally ≡ j.tally))
  -- and its books balance before and after
  pub balances : AreBalanced (size j.core.pool) j.tally
