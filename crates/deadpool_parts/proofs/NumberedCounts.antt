-- How many of a list have a number, as one comes, goes or changes hands.
use Rattle.deadpool_parts.proofs.Words.{◌≡◌, ℕ, ◌+◌, ◌≤◌, zero, suc, List, [], ◌∷◌, ◌++◌, Bool, false, cond, ◌==◌}
use Rattle.deadpool_parts.proofs.Words.{nat_lt, length, set, ap, ◌∙◌, arith, inl, inr, Option, Some, None}
use Rattle.deadpool_parts.proofs.Words.{length-append, slice_get, filter, filter_map, cons_option, cases_Bool}
use Rattle.deadpool_parts.proofs.Words.{filter-append, filter_map-append, with_numbered, find_numbered}
use Rattle.deadpool_parts.proofs.Words.{without_numbered, count_numbered}

module _ {A : Type 0} (number : A → ℕ) (n : ℕ) where
  -- by the first and the others
  pub count-cons : (x : A) (xs : List A)
      → count_numbered number n (x ∷ xs) ≡ cond (number x == n) 1 0 + count_numbered number n xs
  count-cons x xs =
      elim (cases_Bool (number x == n)) [
        | inl here ↦ rw here (omega arith)
        | inr other ↦ rw other (omega arith)
      ]

  -- in two lists together
  pub count-append : (xs ys : List A)
      → count_numbered number n (xs ++ ys) ≡ count_numbered number n xs + count_numbered number n ys
  count-append xs ys =
      ap length (filter-append (λ x. number x == n) xs ys)
      ∙ length-append (filter (λ x. number x == n) xs) (filter (λ x. number x == n) ys)

  -- with one more at the end
  pub count-push : (xs : List A) (x : A)
      → count_numbered number n (xs ++ x ∷ []) ≡ count_numbered number n xs + cond (number x == n) 1 0
  count-push xs x = let all = count-append xs (x ∷ []) in let last = count-cons x [] in omega (arith, all, last)

  -- with one more at its place
  pub count-with : (x : A) (xs : List A)
      → count_numbered number n (with_numbered number x xs) ≡ count_numbered number n xs + cond (number x == n) 1 0
  count-with x [] = let last = count-cons x [] in omega (arith, last)
  count-with x (y ∷ ys) =
      let rest = count-with x ys in
      let first = count-cons x (y ∷ ys) in
      let later = count-cons y (with_numbered number x ys) in
      let old = count-cons y ys in
      elim (cases_Bool (nat_lt (number x) (number y))) [
        | inl before ↦ rw before (omega (arith, first))
        | inr after ↦ rw after (omega (arith, later, old, rest))
      ]

  -- without one that is found
  pub count-without : (k : ℕ) (x : A) (xs : List A) → find_numbered number k xs ≡ Some x
      → count_numbered number n (without_numbered number k xs) + cond (number x == n) 1 0 ≡ count_numbered number n xs
  count-without k x [] h = cc
  count-without k x (y ∷ ys) h =
      elim (cases_Bool (number y == k)) [
        | inl here ↦ let same : y ≡ x = let found = rw here at h in cc in let old = count-cons x ys in
            rw (here, same) (omega (arith, old))
        | inr other ↦
            let there : find_numbered number k ys ≡ Some x = rw other at h in
            let rest = count-without k x ys there in
            let later = count-cons y (without_numbered number k ys) in
            let old = count-cons y ys in
            rw other (omega (arith, old, later, rest))
      ]

  -- one that is found is among those with its number
  pub count-found : (k : ℕ) (x : A) (xs : List A) → find_numbered number k xs ≡ Some x
      → cond (number x == n) 1 0 ≤ count_numbered number n (filter (λ y. number y == k) xs)
  count-found k x [] h = cc
  count-found k x (y ∷ ys) h =
      elim (cases_Bool (number y == k)) [
        | inl here ↦ let same : y ≡ x = let found = rw here at h in cc in let more =
            count-cons x (filter (λ z. number z == k) ys) in rw (here, same) (omega (arith, more))
        | inr other ↦ let there : find_numbered number k ys ≡ Some x = rw other at h in
            rw other (count-found k x ys there)
      ]

  -- the one that may be there has the number
  abbrev pub is_at : Option A → Bool
  is_at None = false
  is_at (Some x) = number x == n

  pub count-cons_option : (o : Option A) (xs : List A)
      → count_numbered number n (cons_option o xs) ≡ cond (is_at o) 1 0 + count_numbered number n xs
  count-cons_option None xs = omega arith
  count-cons_option (Some x) xs = count-cons x xs

  -- of what entries have, as one is set or added
  pub count-set_held : {X : Type 0} (f : X → Option A) (xs : List X) (i : ℕ) (old new : X) → slice_get xs i ≡ Some old
      → count_numbered number n (filter_map f (set xs i new)) + cond (is_at (f old)) 1 0
      ≡ count_numbered number n (filter_map f xs) + cond (is_at (f new)) 1 0
  count-set_held f [] i old new h = cc
  count-set_held f (x ∷ xs) zero old new h =
      let same : x ≡ old = cc in
      let a = count-cons_option (f new) (filter_map f xs) in
      let b = count-cons_option (f old) (filter_map f xs) in
      rw same (omega (arith, a, b))
  count-set_held f (x ∷ xs) (suc i) old new h =
      let rest = count-set_held f xs i old new h in
      let a = count-cons_option (f x) (filter_map f (set xs i new)) in
      let b = count-cons_option (f x) (filter_map f xs) in
      omega (arith, a, b, rest)

  pub count-push_held : {X : Type 0} (f : X → Option A) (xs : List X) (x : X)
      → count_numbered number n (filter_map f (xs ++ x ∷ []))
      ≡ count_numbered number n (filter_map f xs) + cond (is_at (f x)) 1 0
  count-push_held f xs x =
      let both = count-append (filter_map f xs) (filter_map f (x ∷ [])) in
      let last = count-cons_option (f x) [] in
      ap (count_numbered number n) (filter_map-append f xs (x ∷ [])) ∙ omega (arith, both, last)
