-- The wakers of those that wait, by number.
use Rattle.std.specs.Prelude.{◌≡◌, ℕ, suc, ◌-◌, ◌++◌, List, length, replicate, slice_index_or, slice_set, nat_lt}
use Rattle.std.specs.Prelude.{Option, Some, None, if◌then◌else◌}

module _ {W : Type 0} where
  -- with so many places, if there are not as many
  abbrev pub with_places : ℕ → List (Option W) → List (Option W)
  with_places count places = places ++ replicate (count - length places) None

  -- with a place for each number up to this one
  abbrev pub with_room : ℕ → List (Option W) → List (Option W)
  with_room number places = with_places (suc number) places

  -- the waker in the place of a number, if there is a place and one in it
  abbrev pub waker_at : ℕ → List (Option W) → Option W
  waker_at number places = slice_index_or places number None

  -- The places once a waker is lent to the place of a number, in exchange for the one that was kept there. If none is
  -- lent, the one that was kept stays.
  abbrev pub left_in : ℕ → Option W → List (Option W) → List (Option W)
  left_in number (Some waker) places = slice_set places number (Some waker)
  left_in number None places = places

  -- what whoever lent it has then
  abbrev pub taken_out : ℕ → Option W → List (Option W) → Option W
  taken_out number (Some waker) places = waker_at number places
  taken_out number None places = None

  -- What a party that had a number and has another does to the places in one poll, with its waker, and which waker is
  -- let go.
  abbrev pub Follows : Option ℕ → Option ℕ → List (Option W) → Option W → Option W → List (Option W) → Option W → Type 0
  Follows before (Some number) places waker spare places' waker' =
      (places' ≡ left_in number waker places)
      × (waker' ≡ taken_out number waker places)
      × (spare ≡ (if nat_lt number (length places) then None else waker))
  Follows (Some number) None places waker spare places' waker' =
      (places' ≡ slice_set places number None) × (waker' ≡ waker) × (spare ≡ waker_at number places)
  Follows None None places waker spare places' waker' = (places' ≡ places) × (waker' ≡ waker) × (spare ≡ None)
