-- The idle objects that stay in a retain.
use Rattle.deadpool_trial.proofs.Basics.{ℕ, ◌+◌, ◌-◌, ◌≤◌, min, List, [], ◌∷◌, not, length, arith, inl, inr, filter}
use Rattle.deadpool_trial.proofs.Basics.{nat_le, cases_Bool, cond_both, has_number, count-cons, or_parts, leb-false}
use Rattle.deadpool_trial.proofs.Words.{stays, staying, slot_number, Slot}
use Rattle.deadpool_trial.proofs.NumberCounts.{held}

module _ {V : Type 0} (kept : List ℕ) (least : ℕ) where
  -- no more stay than were asked about
  pub staying-shorter : (idle : ℕ) (xs : List (Slot V)) → length (staying kept least idle xs) ≤ length xs
  staying-shorter idle [] = omega arith
  staying-shorter idle (x ∷ xs) =
      let go = staying-shorter (idle - 1) xs in
      cond_both (stays kept least idle x) _ _ (λ ys. length ys ≤ length (x ∷ xs))
      (λ here. omega (arith, staying-shorter idle xs)) (λ gone. omega (arith, go))

  -- as many stay idle as have to, if as many were
  pub staying-least : (idle : ℕ) (xs : List (Slot V))
      → min idle least + length xs ≤ idle + length (staying kept least idle xs)
  staying-least idle [] = omega arith
  staying-least idle (x ∷ xs) =
      elim (cases_Bool (stays kept least idle x)) [
        | inl stay_on ↦ rw stay_on (omega (arith, staying-least idle xs))
        | inr leave ↦ let more =
            leb-false idle least (or_parts (has_number x.number kept) (nat_le idle least) leave).1 in
            rw leave (omega (arith, staying-least (idle - 1) xs, more))
      ]

  -- none of them is new
  pub held-staying : (n idle : ℕ) (xs : List (Slot V)) → held n (staying kept least idle xs) ≤ held n xs
  held-staying n idle [] = omega arith
  held-staying n idle (x ∷ xs) =
      let old = count-cons slot_number n x xs in
      let now = count-cons slot_number n x (staying kept least idle xs) in
      let stay = held-staying n idle xs in
      let go = held-staying n (idle - 1) xs in
      cond_both (stays kept least idle x) _ _ (λ ys. held n ys ≤ held n (x ∷ xs))
      (λ here. omega (arith, old, now, stay)) (λ gone. omega (arith, old, go))

  -- those that go have none of the numbers
  pub held-going : (n idle : ℕ) (xs : List (Slot V))
      → held n xs ≤ held n (staying kept least idle xs) + held n (filter (λ s. not (has_number s.number kept)) xs)
  held-going n idle [] = omega arith
  held-going n idle (x ∷ xs) =
      let old = count-cons slot_number n x xs in
      let now = count-cons slot_number n x (staying kept least idle xs) in
      let others = count-cons slot_number n x (filter (λ s. not (has_number s.number kept)) xs) in
      let stay = held-going n idle xs in
      let go = held-going n (idle - 1) xs in
      elim (cases_Bool (stays kept least idle x)) [
        | inl stay_on ↦ rw stay_on
            (cond_both (not (has_number x.number kept)) _ _
            (λ ys. held n (x ∷ xs) ≤ held n (x ∷ staying kept least idle xs) + held n ys)
            (λ other. omega (arith, old, now, others, stay)) (λ has. omega (arith, old, now, stay)))
        | inr leave ↦ let none = (or_parts (has_number x.number kept) (nat_le idle least) leave).0 in
            rw (leave, none) (omega (arith, old, others, go))
      ]
