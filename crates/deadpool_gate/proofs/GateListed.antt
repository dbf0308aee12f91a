-- A search in the line: what stands before the waiter that it finds, and behind it.
use Rattle.std.proofs.Common.{◌≡◌, Bool, true, false, List, [], ◌∷◌, ◌++◌, Some, None, refl, ap, inl, inr}
use Rattle.std.specs.List.{find}
use Rattle.std.proofs.lemmas.Bool.{cases_Bool, both_ways}
use Rattle.deadpool_gate.specs.Gate.{Waiter, remove_first, change_first, NonePass, IsFront}

-- if nothing is found, neither the first nor any later one passes
pub find_none-head : (test : Waiter → Bool) (x : Waiter) (xs : List Waiter) → find test (x ∷ xs) ≡ None → test x ≡ false
find_none-head test x xs none =
    elim (cases_Bool (test x)) [
      | inl passes ↦ absurd (let found : Some x ≡ None = rw passes at none in cc)
      | inr fails ↦ fails
    ]

pub find_none-tail : (test : Waiter → Bool) (x : Waiter) (xs : List Waiter) → find test (x ∷ xs) ≡ None
    → find test xs ≡ None
find_none-tail test x xs none = let fails = find_none-head test x xs none in rw fails at none

-- a waiter that is found, between those before it, none of which passes, and those behind it
pub record FoundBetween (test : Waiter → Bool) (ws : List Waiter) (w : Waiter) : Type 0 where
  pub front : List Waiter
  pub back : List Waiter
  pub is : ws ≡ front ++ w ∷ back
  pub passes : test w ≡ true
  pub before : find test front ≡ None

module _ (test : Waiter → Bool) where
  pub found_between : (ws : List Waiter) (w : Waiter) → find test ws ≡ Some w → FoundBetween test ws w
  found_between [] w found = cc
  found_between (x ∷ xs) w found =
      elim (cases_Bool (test x)) [
        | inl passes ↦
            let same : x ≡ w = let first : Some x ≡ Some w = rw passes at found in cc in
            record { front = []; back = xs; is = ap (λ v. v ∷ xs) same; passes = rw (← same) passes; before = refl }
        | inr fails ↦
            let rest : FoundBetween test xs w = found_between xs w (rw fails at found) in
            record {
              front = x ∷ rest.front;
              back = rest.back;
              is = ap (λ ys. x ∷ ys) rest.is;
              passes = rest.passes;
              before = rw fails rest.before;
            }
      ]

  -- a search of two lists, one after the other

  pub find_none-front : (xs ys : List Waiter) → find test (xs ++ ys) ≡ None → find test xs ≡ None
  find_none-front [] ys none = refl
  find_none-front (x ∷ xs) ys none =
      rw (find_none-head test x (xs ++ ys) none) (find_none-front xs ys (find_none-tail test x (xs ++ ys) none))

  pub find_none-back : (xs ys : List Waiter) → find test (xs ++ ys) ≡ None → find test ys ≡ None
  find_none-back [] ys none = none
  find_none-back (x ∷ xs) ys none = find_none-back xs ys (find_none-tail test x (xs ++ ys) none)

  pub find-behind : (xs ys : List Waiter) → find test xs ≡ None → find test (xs ++ ys) ≡ find test ys
  find-behind [] ys none = refl
  find-behind (x ∷ xs) ys none = rw (find_none-head test x xs none) (find-behind xs ys (find_none-tail test x xs none))

  -- what is done to the waiter that is found is done to the one between

  pub change_first-between : (change : Waiter → Waiter) (xs : List Waiter) (w : Waiter) (ys : List Waiter)
      → find test xs ≡ None → test w ≡ true → change_first test change (xs ++ w ∷ ys) ≡ xs ++ change w ∷ ys
  change_first-between change [] w ys none passes = rw passes
  change_first-between change (x ∷ xs) w ys none passes =
      rw (find_none-head test x xs none, change_first-between change xs w ys (find_none-tail test x xs none) passes)

  pub remove_first-between : (xs : List Waiter) (w : Waiter) (ys : List Waiter) → find test xs ≡ None → test w ≡ true
      → remove_first test (xs ++ w ∷ ys) ≡ xs ++ ys
  remove_first-between [] w ys none passes = rw passes
  remove_first-between (x ∷ xs) w ys none passes =
      rw (find_none-head test x xs none, remove_first-between xs w ys (find_none-tail test x xs none) passes)

  pub remove_first_none : (ws : List Waiter) → find test ws ≡ None → remove_first test ws ≡ ws
  remove_first_none [] none = refl
  remove_first_none (w ∷ ws) none =
      let fails = find_none-head test w ws none in
      rw fails (ap (λ vs. w ∷ vs) (remove_first_none ws (find_none-tail test w ws none)))

  pub change_first_none : (change : Waiter → Waiter) (ws : List Waiter) → find test ws ≡ None
      → change_first test change ws ≡ ws
  change_first_none change [] none = refl
  change_first_none change (w ∷ ws) none =
      let fails = find_none-head test w ws none in
      rw fails (ap (λ vs. w ∷ vs) (change_first_none change ws (find_none-tail test w ws none)))

  -- who passes this test passes another, which nobody passes
  module _ (other : Waiter → Bool) (implies : (w : Waiter) → test w ≡ true → other w ≡ true) where
    pub find_none-stronger : (ws : List Waiter) → find other ws ≡ None → find test ws ≡ None
    find_none-stronger [] none = refl
    find_none-stronger (x ∷ xs) none =
        elim (cases_Bool (test x)) [
          | inl passes ↦ absurd (both_ways _ (find_none-head other x xs none) (implies x passes))
          | inr fails ↦ rw fails (find_none-stronger xs (find_none-tail other x xs none))
        ]

    pub find_none-none_pass : (ws : List Waiter) → NonePass other ws → find test ws ≡ None
    find_none-none_pass [] none = refl
    find_none-none_pass (x ∷ xs) none =
        elim (cases_Bool (test x)) [
          | inl passes ↦ absurd (both_ways _ none.0 (implies x passes))
          | inr fails ↦ rw fails (find_none-none_pass xs none.1)
        ]

  -- behind one that fails nobody passes, if those that pass are the front
  pub none_pass-behind : (xs : List Waiter) (w : Waiter) (ys : List Waiter) → test w ≡ false
      → IsFront test (xs ++ w ∷ ys) → NonePass test ys
  none_pass-behind [] w ys fails front = front.0 fails
  none_pass-behind (x ∷ xs) w ys fails front = none_pass-behind xs w ys fails front.1
