-- What has a number, by its number and by its place in a list.
use Rattle.deadpool_parts.proofs.Words.{◌≡◌, ℕ, ◌+◌, ◌<◌, List, [], ◌∷◌, ◌==◌, nat_lt, length, refl, ap, arith, inl}
use Rattle.deadpool_parts.proofs.Words.{inr, Some, None, position, position_or_len, insert, remove, one-add, cases_Bool}
use Rattle.deadpool_parts.proofs.Words.{with_numbered, find_numbered, without_numbered}
use Rattle.deadpool_parts.proofs.Places.{place_is}

module _ {A : Type 0} (number : A → ℕ) where
  -- the first that has the number is removed
  removed_there : (n : ℕ) (xs : List A) → position_or_len (λ x. number x == n) xs < length xs
      → remove xs (position_or_len (λ x. number x == n) xs) ≡ without_numbered number n xs
  removed_there n [] h = absurd (omega arith)
  removed_there n (x ∷ xs) h =
      elim (cases_Bool (number x == n)) [
        | inl same_number ↦ rw same_number refl
        | inr differs ↦
            let there : position_or_len (λ x. number x == n) xs < length xs = let w = rw differs at h in omega arith in
            rw (differs, one-add) (ap (λ ys. x ∷ ys) (removed_there n xs there))
      ]

  -- the list without it is the list without its place
  pub removed_at_place : (n : ℕ) (xs : List A) (at : ℕ) → position (λ x. number x == n) xs ≡ Some at
      → remove xs at ≡ without_numbered number n xs
  removed_at_place n xs at h =
      let w = place_is (λ x. number x == n) xs at h in
      let there : position_or_len (λ x. number x == n) xs < length xs = rw w.0 w.1 in
      rw (← w.0) (removed_there n xs there)

  -- the first place with a greater number, or the end, is its own
  pub inserted_at_place : (x : A) (xs : List A)
      → insert xs (position_or_len (λ y. nat_lt (number x) (number y)) xs) x ≡ with_numbered number x xs
  inserted_at_place x [] = refl
  inserted_at_place x (y ∷ ys) =
      elim (cases_Bool (nat_lt (number x) (number y))) [
        | inl is_less ↦ rw is_less refl
        | inr is_not_less ↦ rw (is_not_less, one-add) (ap (λ zs. y ∷ zs) (inserted_at_place x ys))
      ]

  -- a list with one more is one longer
  pub length-with_numbered : (x : A) (xs : List A) → length (with_numbered number x xs) ≡ length xs + 1
  length-with_numbered x [] = refl
  length-with_numbered x (y ∷ ys) =
      elim (cases_Bool (nat_lt (number x) (number y))) [
        | inl is_less ↦ rw is_less (omega arith)
        | inr is_not_less ↦ rw is_not_less (omega (arith, length-with_numbered x ys))
      ]

  -- a list without one that is found is one shorter
  pub length-without_numbered : (n : ℕ) (xs : List A) (x : A) → find_numbered number n xs ≡ Some x
      → length (without_numbered number n xs) + 1 ≡ length xs
  length-without_numbered n [] x h = cc
  length-without_numbered n (y ∷ ys) x h =
      elim (cases_Bool (number y == n)) [
        | inl same_number ↦ rw same_number (omega arith)
        | inr differs ↦
            let there : find_numbered number n ys ≡ Some x = rw differs at h in
            rw differs (omega (arith, length-without_numbered n ys x there))
      ]

  -- without one that is not there nothing changes
  pub none_there : (n : ℕ) (xs : List A) → find_numbered number n xs ≡ None → without_numbered number n xs ≡ xs
  none_there n [] h = refl
  none_there n (x ∷ xs) h =
      elim (cases_Bool (number x == n)) [
        | inl same_number ↦ let found = rw same_number at h in cc
        | inr differs ↦ let nowhere : find_numbered number n xs ≡ None = rw differs at h in
            rw differs (ap (λ ys. x ∷ ys) (none_there n xs nowhere))
      ]
