-- How often a number stands in a list, among objects, and among what parties prepare.
use Rattle.deadpool_trial.proofs.Basics.{◌≡◌, ℕ, ◌+◌, ◌-◌, ◌≤◌, suc, List, [], ◌∷◌, ◌++◌, true, false, length, map}
use Rattle.deadpool_trial.proofs.Basics.{take, drop, get_or, refl, sym, ap, ◌∙◌, subst, arith, inl, inr, Option, Some}
use Rattle.deadpool_trial.proofs.Basics.{length-append, ◌==◌, filter, filter_map, cases_Bool, cond_both, eqb-true}
use Rattle.deadpool_trial.proofs.Basics.{eq-eqb, take_more, take_all, take-append-drop, slice_get_within}
use Rattle.deadpool_trial.proofs.Basics.{get_or_from_slice_get, filter-append, has_number, IsOnce, one_if, length-cond}
use Rattle.deadpool_trial.proofs.Basics.{count_numbered, count-cons_option, count-cons, count-append, is_at}
use Rattle.deadpool_trial.proofs.Words.{QueueMode, Fifo, Lifo, next_idle, other_idle, find_slot, with_put, with_value}
use Rattle.deadpool_trial.proofs.Words.{slot_number, Slot}

-- how often the number stands in the list
abbrev pub times : ℕ → List ℕ → ℕ
times n xs = length (filter (λ m. m == n) xs)

-- by the first and the others
pub times-cons : (n x : ℕ) (xs : List ℕ) → times n (x ∷ xs) ≡ one_if (x == n) + times n xs
times-cons n x xs = length-cond (x == n) x (filter (λ m. m == n) xs)

-- in two lists together
pub times-append : (n : ℕ) (xs ys : List ℕ) → times n (xs ++ ys) ≡ times n xs + times n ys
times-append n xs ys = ap length (filter-append (λ m. m == n) xs ys)
    ∙ length-append (filter (λ m. m == n) xs) (filter (λ m. m == n) ys)

-- a number that is not there stands there at no place
pub times-none : (n : ℕ) (xs : List ℕ) → has_number n xs ≡ false → times n xs ≡ 0
times-none n [] h = refl
times-none n (x ∷ xs) h =
    elim (cases_Bool (x == n)) [
      | inl here ↦ let clash : true ≡ false = rw here at h in cc
      | inr other ↦ let rest : has_number n xs ≡ false = rw other at h in rw other (times-none n xs rest)
    ]

-- one that is there stands there
pub times-some : (n : ℕ) (xs : List ℕ) → has_number n xs ≡ true → 1 ≤ times n xs
times-some n [] h = cc
times-some n (x ∷ xs) h =
    elim (cases_Bool (x == n)) [
      | inl here ↦ rw here (omega arith)
      | inr other ↦ let rest : has_number n xs ≡ true = rw other at h in rw other (times-some n xs rest)
    ]

-- in a list in which none stands twice
pub times-once : (n : ℕ) (xs : List ℕ) → IsOnce xs → times n xs ≤ 1
times-once n [] once = omega arith
times-once n (x ∷ xs) once =
    elim (cases_Bool (x == n)) [
      | inl here ↦
          let gone : has_number n xs ≡ false = subst (λ (m : ℕ). has_number m xs ≡ false) (eqb-true x n here) once.0 in
          rw here (omega (arith, times-none n xs gone))
      | inr other ↦ rw other (times-once n xs once.1)
    ]

-- a list in which each stands once at most
pub once-times : (xs : List ℕ) → ((n : ℕ) → times n xs ≤ 1) → IsOnce xs
once-times [] h = tt
once-times (x ∷ xs) h =
    let others : (n : ℕ) → times n xs ≤ 1 =
    λ n. let all = h n in let more = times-cons n x xs in omega (arith, all, more) in
    let one : one_if (x == x) ≡ 1 = ap one_if (eq-eqb x x refl) in
    elim (cases_Bool (has_number x xs)) [
      | inl there ↦ let some = times-some x xs there in absurd (omega (arith, h x, times-cons x x xs, one, some))
      | inr gone ↦ (gone, once-times xs others)
    ]

module _ {V : Type 0} where
  -- how many of the objects have the number
  abbrev pub held : ℕ → List (Slot V) → ℕ
  held n xs = count_numbered slot_number n xs

  -- the same by their numbers
  pub times-map : (n : ℕ) (xs : List (Slot V)) → times n (map (λ s. s.number) xs) ≡ held n xs
  times-map n [] = refl
  times-map n (x ∷ xs) = elim (cases_Bool (x.number == n)) [
    | inl here ↦ rw here (ap suc (times-map n xs))
    | inr other ↦ rw other (times-map n xs)
  ]

  -- if one has the number, it is there
  pub has_number-held : (n : ℕ) (xs : List (Slot V)) → 1 ≤ held n xs → has_number n (map (λ s. s.number) xs) ≡ true
  has_number-held n xs some =
      elim (cases_Bool (has_number n (map (λ s. s.number) xs))) [
        | inl there ↦ there
        | inr gone ↦ let none = times-none n (map (λ s. s.number) xs) gone in let same = times-map n xs in
            absurd (omega (arith, some, none, same))
      ]

  -- the object that is served is one of the idle, and the others are left
  pub held-served : (n : ℕ) (mode : QueueMode) (idle : List (Slot V)) (slot : Slot V) → next_idle mode idle ≡ Some slot
      → held n (other_idle mode idle) + one_if (slot.number == n) ≡ held n idle
  held-served n Fifo [] slot h = cc
  held-served n Fifo (x ∷ xs) slot h = let same : x ≡ slot = cc in let more = count-cons slot_number n slot xs in
      rw same (omega (arith, more))
  held-served n Lifo idle slot h =
      let last = length idle - 1 in
      let within = slice_get_within idle last slot h in
      let all : take (last + 1) idle ≡ idle = take_all (last + 1) idle (omega (arith, within)) in
      let here : get_or idle last slot ≡ slot = get_or_from_slice_get idle last slot slot h in
      let parts : idle ≡ take last idle ++ slot ∷ [] =
      sym all ∙ take_more idle last slot within ∙ ap (λ x. take last idle ++ x ∷ []) here in
      let sum : held n idle ≡ held n (take last idle) + held n (slot ∷ []) =
      ap (held n) parts ∙ count-append slot_number n (take last idle) (slot ∷ []) in
      omega (arith, sum, count-cons slot_number n slot [])

  -- one that is found has the number
  pub find_slot-number : (k : ℕ) (slot : Slot V) (xs : List (Slot V)) → find_slot k xs ≡ Some slot
      → (slot.number == k) ≡ true
  find_slot-number k slot [] h = cc
  find_slot-number k slot (x ∷ xs) h =
      elim (cases_Bool (x.number == k)) [
        | inl here ↦ let same : x ≡ slot = let found = rw here at h in cc in rw (← same) here
        | inr other ↦ find_slot-number k slot xs (rw other at h)
      ]

  -- a value has no number
  pub held-with_put : (n k : ℕ) (v : V) (xs : List (Slot V)) → held n (with_put k v xs) ≡ held n xs
  held-with_put n k v [] = refl
  held-with_put n k v (x ∷ xs) =
      let old = count-cons slot_number n x xs in
      let put = count-cons slot_number n (with_value v x) xs in
      let later = count-cons slot_number n x (with_put k v xs) in
      cond_both (x.number == k) _ _ (λ ys. held n ys ≡ held n (x ∷ xs)) (λ here. omega (arith, old, put))
      (λ other. omega (arith, old, later, held-with_put n k v xs))

  -- the first so many and the others are all
  pub held-split : (n k : ℕ) (xs : List (Slot V)) → held n (take k xs) + held n (drop k xs) ≡ held n xs
  held-split n k xs = sym (count-append slot_number n (take k xs) (drop k xs)) ∙ ap (held n) (take-append-drop k xs)

  -- no more are left than there were
  pub held-drop : (n k : ℕ) (xs : List (Slot V)) → held n (drop k xs) ≤ held n xs
  held-drop n k xs = let parts = held-split n k xs in omega (arith, parts)

  -- of those that each may hold
  pub held-filter_map : {X : Type 0} (n : ℕ) (f : X → Option (Slot V)) (xs : List X)
      → held n (filter_map f xs) ≡ length (filter (λ x. is_at slot_number n (f x)) xs)
  held-filter_map n f [] = refl
  held-filter_map n f (x ∷ xs) =
      count-cons_option slot_number n (f x) (filter_map f xs)
      ∙ ap (λ k. one_if (is_at slot_number n (f x)) + k) (held-filter_map n f xs)
      ∙ sym (length-cond (is_at slot_number n (f x)) x (filter (λ y. is_at slot_number n (f y)) xs))
