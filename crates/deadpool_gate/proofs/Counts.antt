-- How many elements of a list pass a test, as one of them is set, added or taken.
use Rattle.std.proofs.Common.{◌≡◌, ℕ, ◌+◌, zero, suc, List, [], ◌∷◌, ◌++◌, Bool, true, false, cond, length, set, ap}
use Rattle.std.proofs.Common.{◌∙◌, arith, Option, Some, None, length-append}
use Rattle.std.specs.List.{cons_option}
use Rattle.std.specs.Prelude.{slice_get, filter, filter_map, is_some}
use Rattle.std.proofs.lemmas.List.Elements.{filter-append, filter_map-append}

-- 1 if the test holds
abbrev pub one_if : Bool → ℕ
one_if b = cond b 1 0

-- the length with one more element under a test
pub length-cond : {X : Type 0} (b : Bool) (x : X) (xs : List X) → length (cond b (x ∷ xs) xs) ≡ one_if b + length xs
length-cond true x xs = omega arith
length-cond false x xs = omega arith

-- so many are left of an element that may be none
length-cons_option : {Y : Type 0} (o : Option Y) (ys : List Y)
    → length (cons_option o ys) ≡ one_if (is_some o) + length ys
length-cons_option None ys = omega arith
length-cons_option (Some y) ys = omega arith

module _ {X : Type 0} where
  -- a count changes by the one element that is set
  pub count-set : (f : X → Bool) (xs : List X) (n : ℕ) (old new : X) → slice_get xs n ≡ Some old
      → length (filter f (set xs n new)) + one_if (f old) ≡ length (filter f xs) + one_if (f new)
  count-set f [] n old new h = cc
  count-set f (x ∷ xs) zero old new h =
      let same : x ≡ old = cc in
      rw (same, length-cond (f new) new (filter f xs), length-cond (f old) old (filter f xs)) (omega arith)
  count-set f (x ∷ xs) (suc n) old new h =
      let rest = count-set f xs n old new h in
      rw (length-cond (f x) x (filter f (set xs n new)), length-cond (f x) x (filter f xs)) (omega (arith, rest))

  -- a count grows by the one element that is added
  pub count-push : (f : X → Bool) (xs : List X) (x : X)
      → length (filter f (xs ++ x ∷ [])) ≡ length (filter f xs) + one_if (f x)
  count-push f xs x =
      ap length (filter-append f xs (x ∷ [])) ∙ length-append (filter f xs) (filter f (x ∷ []))
      ∙ ap (λ k. length (filter f xs) + k) (length-cond (f x) x [] ∙ omega arith)

  -- a list of what elements hold changes by the one element that is set
  pub held-set : {Y : Type 0} (f : X → Option Y) (xs : List X) (n : ℕ) (old new : X) → slice_get xs n ≡ Some old
      → length (filter_map f (set xs n new)) + one_if (is_some (f old))
      ≡ length (filter_map f xs) + one_if (is_some (f new))
  held-set f [] n old new h = cc
  held-set f (x ∷ xs) zero old new h =
      let same : x ≡ old = cc in
      rw (
        same,
        length-cons_option (f new) (filter_map f xs),
        length-cons_option (f old) (filter_map f xs),
      ) (omega arith)
  held-set f (x ∷ xs) (suc n) old new h =
      let rest = held-set f xs n old new h in
      rw (
        length-cons_option (f x) (filter_map f (set xs n new)),
        length-cons_option (f x) (filter_map f xs),
      ) (omega (arith, rest))

  -- a list of what elements hold grows by the one element that is added
  pub held-push : {Y : Type 0} (f : X → Option Y) (xs : List X) (x : X)
      → length (filter_map f (xs ++ x ∷ [])) ≡ length (filter_map f xs) + one_if (is_some (f x))
  held-push f xs x =
      ap length (filter_map-append f xs (x ∷ [])) ∙ length-append (filter_map f xs) (filter_map f (x ∷ []))
      ∙ ap (λ k. length (filter_map f xs) + k) (length-cons_option (f x) [] ∙ omega arith)
