-- A lane as the list of its marks, and what it shows in each column.
use Rattle.std.specs.Prelude.{◌≡◌, ℕ, ◌-◌, ◌<◌, ◌≤◌, ⊤, Bool, ◌&&◌, nat_le, nat_lt, List, [], ◌∷◌, ◌++◌, replicate}
use Rattle.std.specs.Prelude.{filter, slice_get, Some}
use Rattle.pool_shapes.specs.declared.marks.mark.Mark.{Mark}

module _ {T : Type 0} where
  -- what a mark shows, once for each of its columns
  abbrev pub cells : Mark T → List T
  cells mark = replicate (mark.to - mark.from) mark.shows

  -- what is shown column by column
  abbrev pub columns : List (Mark T) → List T
  columns [] = []
  columns (m ∷ ms) = cells m ++ columns ms

  -- the column in which the first mark begins
  abbrev pub first_column : List (Mark T) → ℕ
  first_column [] = 0
  first_column (m ∷ ms) = m.from

  -- the column behind the last mark, of marks behind a column
  abbrev pub column_behind : ℕ → List (Mark T) → ℕ
  column_behind at [] = at
  column_behind at (m ∷ ms) = column_behind m.to ms

  abbrev pub next_column : List (Mark T) → ℕ
  next_column ms = column_behind 0 ms

  -- each mark has a column, and begins where the one before it ends: the first of them in this column
  abbrev pub AreLaid : ℕ → List (Mark T) → Type 0
  AreLaid at [] = ⊤
  AreLaid at (m ∷ ms) = (m.from ≡ at) × (m.from < m.to) × AreLaid m.to ms

  -- all of them begin in this column or behind it
  abbrev pub AreBehind : ℕ → List (Mark T) → Type 0
  AreBehind at [] = ⊤
  AreBehind at (m ∷ ms) = (at ≤ m.from) × AreBehind at ms

  -- no two marks overlap: all that follow one begin where it ends or behind that
  abbrev pub AreApart : List (Mark T) → Type 0
  AreApart [] = ⊤
  AreApart (m ∷ ms) = AreBehind m.to ms × AreApart ms

  abbrev pub has_column : ℕ → Mark T → Bool
  has_column c m = nat_le m.from c && nat_lt c m.to

  -- exactly one mark has the column, and it shows what stands there
  abbrev pub IsShownAt : List (Mark T) → ℕ → Type 0
  IsShownAt ms c =
      (m : Mark T)
      × ((filter (has_column c) ms ≡ m ∷ []) × (slice_get (columns ms) (c - first_column ms) ≡ Some m.shows))
