-- What a pool's state with its journal keeps.
use Rattle.std.specs.Prelude.{◌≡◌, ◌≤◌, ℕ, true, false, length}
use Rattle.deadpool_desk.specs.DeskState.{DeskState, size}
use Rattle.deadpool_journal.specs.ByNumber.{numbered}
use Rattle.deadpool_journal.specs.Journaling.{Journaling, opening}
use Rattle.deadpool_journal.specs.Replay.{Runs, RunsCounted}
use Rattle.deadpool_journal.specs.Tally.{AreBalanced, no_tally}
use Rattle.deadpool_journal.specs.declared.tally.Tally.{Tally}

pub record JournalInvariant {T : Type 0} (j : Journaling T) : Type 0 where
  -- the entries are steps from the pool as it opened, and lead to the state until the mark is set
  pub steps : (last : DeskState ℕ) × Runs (opening j) j.log.entries last
      × (j.log.is_full ≡ false → last ≡ numbered j.core.desk)
  -- there are no more entries than there may be
  pub within : length j.log.entries ≤ j.log.most
  -- and just as many once the mark is set
  pub full : j.log.is_full ≡ true → length j.log.entries ≡ j.log.most
  -- the tally is that of the entries, until the mark is set
  pub counts : (last : DeskState ℕ) × (tally : Tally) × RunsCounted (opening j) no_tally j.log.entries last tally
      × (j.log.is_full ≡ false → (last ≡ numbered j.core.desk) × (tally ≡ j.tally))
  -- and its books balance before and after
  pub balances : AreBalanced (size j.core.desk) j.tally
