-- The entries of a journal.
use Rattle.std.specs.Prelude.{ℕ, Bool, false, true, List, [], ◌∷◌, ◌++◌, length, nat_lt, if◌then◌else◌}
use Rattle.deadpool_unmanaged_journal.specs.declared.entry.Entry.{Entry}

pub record LogState (O : Type 0) : Type 0 where
  pub entries : List (Entry O)
  -- how many there may be
  pub most : ℕ
  -- whether a step has found no room for its entry
  pub is_full : Bool

module _ {O : Type 0} where
  -- before the first step
  abbrev pub no_entries : ℕ → LogState O
  no_entries most = record { entries = []; most = most; is_full = false }

  -- with one entry more, or with the mark if there is no room for it
  abbrev pub noted : Entry O → LogState O → LogState O
  noted e l =
      if nat_lt (length l.entries) l.most
      then record l { entries = l.entries ++ e ∷ [] }
      else record l { is_full = true }
