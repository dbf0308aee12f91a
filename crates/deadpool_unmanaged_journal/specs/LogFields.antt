-- How the fields of a log are seen as its state, and what they keep.
use Rattle.std.specs.Prelude.{◌≡◌, ◌≤◌, true, vec_len, vec_capacity}
use Rattle.deadpool_unmanaged_journal.specs.LogState.{LogState}
use Rattle.deadpool_unmanaged_journal.specs.declared.log.Log.TheInside.{Inside}

module _ {O : Type 0} where
  abbrev pub log_of : Inside O → LogState O
  log_of log = record { entries = log.entries.items; most = log.most; is_full = log.is_full }

  pub record LogInvariant (log : Inside O) : Type 0 where
    pub within : vec_len log.entries ≤ log.most
    pub room : log.most ≤ vec_capacity log.entries
    pub full : log.is_full ≡ true → vec_len log.entries ≡ log.most
