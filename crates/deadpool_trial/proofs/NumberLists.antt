-- Further of lists of numbers: who is there when one is taken out or stands at the back, and lists whose numbers stand
-- once.
use Rattle.deadpool_trial.proofs.Basics.{◌≡◌, ◌≢◌, ℕ, ◌+◌, List, [], ◌∷◌, ◌++◌, true, false, not, ◌||◌, ◌&&◌, length}
use Rattle.deadpool_trial.proofs.Basics.{refl, sym, ap, ◌∙◌, subst, arith, inl, inr, ◌==◌, and-true, and-false}
use Rattle.deadpool_trial.proofs.Basics.{or-true, or-false, eq-eqb, eqb-true, ne_eqb, cases_Bool, or_parts, has_number}
use Rattle.deadpool_trial.proofs.Basics.{without_number, IsOnce, has_number-append, has_number-without}
use Rattle.deadpool_trial.proofs.Basics.{without_number-same}

-- when one is taken out, any other is there as before
pub has_number-other : (n m : ℕ) (xs : List ℕ) → n ≢ m → has_number n (without_number m xs) ≡ has_number n xs
has_number-other n m xs other =
    has_number-without n m xs ∙ ap (λ b. has_number n xs && not b) (ne_eqb n m other) ∙ and-true (has_number n xs)

-- and when one more stands at the back
pub has_number-push : (n m : ℕ) (xs : List ℕ) → n ≢ m → has_number n (xs ++ m ∷ []) ≡ has_number n xs
has_number-push n m xs other =
    has_number-append n xs (m ∷ []) ∙ ap (λ b. has_number n xs || (b || false)) (ne_eqb m n (λ e. other (sym e)))
    ∙ or-false (has_number n xs)

-- a number at the back of a list is there
pub has_number-last : (n : ℕ) (xs : List ℕ) → has_number n (xs ++ n ∷ []) ≡ true
has_number-last n xs = has_number-append n xs (n ∷ []) ∙ ap (λ b. has_number n xs || (b || false)) (eq-eqb n n refl)
    ∙ or-true (has_number n xs)

-- the one that is taken out is no longer there
pub without_number-gone : (n : ℕ) (xs : List ℕ) → has_number n (without_number n xs) ≡ false
without_number-gone n xs = has_number-without n n xs ∙ (rw (eq-eqb n n refl) (and-false (has_number n xs)))

-- if it was there once, one fewer is left
pub without_number-once : (n : ℕ) (xs : List ℕ) → IsOnce xs → has_number n xs ≡ true
    → length (without_number n xs) + 1 ≡ length xs
without_number-once n [] once h = cc
without_number-once n (x ∷ xs) once h =
    elim (cases_Bool (x == n)) [
      | inl here ↦
          let gone : has_number n xs ≡ false = subst (λ (m : ℕ). has_number m xs ≡ false) (eqb-true x n here) once.0 in
          rw (here, without_number-same n xs gone) (omega arith)
      | inr other ↦
          let there : has_number n xs ≡ true = sym (ap (λ b. b || has_number n xs) other) ∙ h in
          rw other (omega (arith, without_number-once n xs once.1 there))
    ]

-- each part of a list whose numbers stand once
pub IsOnce-left : (xs ys : List ℕ) → IsOnce (xs ++ ys) → IsOnce xs
IsOnce-left [] ys once = tt
IsOnce-left (x ∷ xs) ys once = (
  (or_parts (has_number x xs) (has_number x ys) (sym (has_number-append x xs ys) ∙ once.0)).0,
  IsOnce-left xs ys once.1,
)

-- a number leaves a list once
pub without-twice : (t : ℕ) (xs : List ℕ) → without_number t (without_number t xs) ≡ without_number t xs
without-twice t xs = without_number-same t (without_number t xs) (without_number-gone t xs)
