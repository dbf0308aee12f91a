-- What a retain leaves has no number more often than before.
use Rattle.std.proofs.Common.{ℕ, ◌+◌, ◌≤◌, List, [], ◌∷◌, arith, inl, inr}
use Rattle.std.specs.Prelude.{◌==◌}
use Rattle.std.proofs.lemmas.Bool.{cases_Bool}
use Rattle.deadpool_desk.specs.declared.retain.Removal.{Removal}
use Rattle.deadpool_journal.specs.Removals.{remaining}
use Rattle.deadpool_turns.specs.Holders.{times}

times-more : (n x : ℕ) (xs ys : List ℕ) → times n xs ≤ times n ys → times n (x ∷ xs) ≤ times n (x ∷ ys)
times-more n x xs ys few = elim (cases_Bool (x == n)) [
  | inl here ↦ rw here (omega (arith, few))
  | inr other ↦ rw other few
]

times-tail : (n x : ℕ) (xs : List ℕ) → times n xs ≤ times n (x ∷ xs)
times-tail n x xs = elim (cases_Bool (x == n)) [
  | inl here ↦ rw here (omega arith)
  | inr other ↦ rw other (omega arith)
]

pub times-remaining : (n place : ℕ) (rs : List Removal) (xs : List ℕ) → times n (remaining place rs xs) ≤ times n xs
times-remaining n place rs [] = omega arith
times-remaining n place [] (x ∷ xs) = omega arith
times-remaining n place (r ∷ rs) (x ∷ xs) =
    elim (cases_Bool (r.position == place)) [
      | inl goes ↦ rw goes (omega (arith, times-remaining n (place + 1) rs xs, times-tail n x xs))
      | inr stays ↦
          rw stays (times-more n x (remaining (place + 1) (r ∷ rs) xs) xs (times-remaining n (place + 1) (r ∷ rs) xs))
    ]
