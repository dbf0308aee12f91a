-- The place of the first element of a list that passes a test.
use Rattle.deadpool_parts.proofs.Words.{◌≡◌, ℕ, ◌<◌, ◌≤◌, List, Bool, not, nat_lt, length, refl, ap, ◌∙◌, arith, inl}
use Rattle.deadpool_parts.proofs.Words.{inr, Some, None, unwrap_or, get_or, find, position, position_or_len, slice_get}
use Rattle.deadpool_parts.proofs.Words.{cases_Bool, ltb-true, ltb-false, find_at, prefix_len-le-length, slice_get_past}
use Rattle.deadpool_parts.proofs.Words.{slice_get_read}

module _ {X : Type 0} (test : X → Bool) where
  -- a place is the length of what stands before it
  pub place_is : (xs : List X) (at : ℕ) → position test xs ≡ Some at → (position_or_len test xs ≡ at) × (at < length xs)
  place_is xs at h =
      elim (cases_Bool (nat_lt (position_or_len test xs) (length xs))) [
        | inl within ↦
            let same : position_or_len test xs ≡ at = let here = rw within at h in cc in
            (same, rw same at (ltb-true (position_or_len test xs) (length xs) within))
        | inr past ↦ let nowhere = rw past at h in cc
      ]

  -- without a place, all that is there stands before it
  place_past : (xs : List X) → position test xs ≡ None → length xs ≤ position_or_len test xs
  place_past xs h =
      elim (cases_Bool (nat_lt (position_or_len test xs) (length xs))) [
        | inl within ↦ let here = rw within at h in cc
        | inr past ↦ ltb-false (position_or_len test xs) (length xs) past
      ]

  -- a place is in the list
  pub place_within : (xs : List X) (at : ℕ) → position test xs ≡ Some at → at < length xs
  place_within xs at h = let w = place_is xs at h in w.1

  -- the place, or the end if there is none
  pub place_or_end : (xs : List X) → unwrap_or (position test xs) (length xs) ≡ position_or_len test xs
  place_or_end xs =
      elim (cases_Bool (nat_lt (position_or_len test xs) (length xs))) [
        | inl within ↦ rw within refl
        | inr past ↦
            let high : length xs ≤ position_or_len test xs = ltb-false (position_or_len test xs) (length xs) past in
            rw past (omega (arith, high, prefix_len-le-length (λ x. not (test x)) xs))
      ]

  -- what is at the place is what is found
  pub found_at_place : (xs : List X) (at : ℕ) (x : X) → position test xs ≡ Some at → x ≡ get_or xs at x
      → find test xs ≡ Some x
  found_at_place xs at x h e =
      let w = place_is xs at h in
      find_at test xs ∙ ap (slice_get xs) w.0 ∙ slice_get_read xs (length xs) at x refl w.1 e

  -- if there is no place, nothing is found
  pub nothing_found : (xs : List X) → position test xs ≡ None → find test xs ≡ None
  nothing_found xs h = find_at test xs ∙ slice_get_past xs (position_or_len test xs) (place_past xs h)
