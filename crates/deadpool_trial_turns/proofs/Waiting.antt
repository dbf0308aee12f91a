-- One that waits, as others leave the list or join it: it waited before, and had no fewer ahead of it.
use Rattle.std.proofs.Common.{◌≡◌, ℕ, ◌+◌, ◌≤◌, List, [], ◌∷◌, ◌++◌, true, false, ◌||◌, drop, refl, sym, ◌∙◌}
use Rattle.std.proofs.Common.{arith, inl, inr, Some, zero, suc}
use Rattle.std.specs.Prelude.{◌==◌, slice_get}
use Rattle.std.proofs.lemmas.Bool.{cases_Bool, eq-eqb, eqb-true, or_right}
use Rattle.deadpool_gate.specs.Numbers.{has_number, without_number}
use Rattle.deadpool_gate.specs.Orders.{IsOnce}
use Rattle.deadpool_gate.proofs.Numbers.{has_number-append}
use Rattle.deadpool_turns.specs.Ahead.{ahead}
use Rattle.deadpool_turns.proofs.Ahead.{ahead-push, ahead-without}
use Rattle.deadpool_trial.proofs.NumberLists.{without_number-gone}

-- if it is in the second list it is in the first, with so many more ahead of it
abbrev pub Comes : ℕ → ℕ → List ℕ → List ℕ → Type 0
Comes count n ws ws' = has_number n ws' ≡ true → (has_number n ws ≡ true) × (ahead n ws' + count ≤ ahead n ws)

pub comes_same : (n : ℕ) (ws : List ℕ) → Comes 0 n ws ws
comes_same n ws waits = (waits, omega arith)

pub comes_then : (a b n : ℕ) (ws ws' ws'' : List ℕ) → Comes a n ws ws' → Comes b n ws' ws'' → Comes (a + b) n ws ws''
comes_then a b n ws ws' ws'' first next waits =
    let then = next waits in
    let before = first then.0 in (before.0, omega (arith, then.1, before.1))

-- the first go
pub comes_dropped : (n k : ℕ) (ws : List ℕ) → IsOnce ws → Comes k n ws (drop k ws)
comes_dropped n zero ws once waits = (waits, omega arith)
comes_dropped n (suc k) [] once waits = cc
comes_dropped n (suc k) (w ∷ ws) once waits =
    let rest = comes_dropped n k ws once.1 waits in
    elim (cases_Bool (w == n)) [
      | inl here ↦
          let gone : has_number n ws ≡ false = rw (eqb-true w n here) at once.0 in
          absurd (let there : has_number n ws ≡ true = rest.0 in cc)
      | inr other ↦ rw other (rest.0, omega (arith, rest.1))
    ]

-- one goes
pub comes_without : (n m : ℕ) (ws : List ℕ) → Comes 0 n ws (without_number m ws)
comes_without n m ws waits =
    elim (cases_Bool (m == n)) [
      | inl here ↦
          let gone : has_number n (without_number m ws) ≡ false = rw (eqb-true m n here) (without_number-gone n ws) in
          absurd cc
      | inr other ↦
          let there : (has_number n ws) ≡ true = without_there n m ws waits in
          (there, omega (arith, ahead-without n m ws other))
    ]
  where
    without_there : (n m : ℕ) (ws : List ℕ) → has_number n (without_number m ws) ≡ true → has_number n ws ≡ true
    without_there n m [] waits = cc
    without_there n m (w ∷ ws) waits =
        elim (cases_Bool (w == m)) [
          | inl goes ↦ or_right (w == n) (has_number n ws) (without_there n m ws (rw goes at waits))
          | inr stays ↦
              elim (cases_Bool (w == n)) [
                | inl here ↦ rw here refl
                | inr other ↦ rw other (without_there n m ws (rw (stays, other) at waits))
              ]
        ]

-- another joins at the end
pub comes_pushed : (n m : ℕ) (ws : List ℕ) → (m == n) ≡ false → Comes 0 n ws (ws ++ m ∷ [])
comes_pushed n m ws other waits =
    let both : (has_number n ws || has_number n (m ∷ [])) ≡ true =
    sym (has_number-append n ws (m ∷ [])) ∙ waits in
    elim (cases_Bool (has_number n ws)) [
      | inl there ↦ (there, omega (arith, ahead-push n m ws there))
      | inr gone ↦
          absurd (let last : has_number n (m ∷ []) ≡ true = rw gone at both in
          let none : has_number n (m ∷ []) ≡ false = rw other refl in cc)
    ]

-- one that stands at a place has no more ahead of it
pub ahead-at : (n k : ℕ) (ws : List ℕ) → slice_get ws k ≡ Some n → ahead n ws ≤ k
ahead-at n k [] at = cc
ahead-at n zero (w ∷ ws) at =
    let same : w ≡ n = cc in
    elim (cases_Bool (w == n)) [
      | inl here ↦ rw here (omega arith)
      | inr other ↦ absurd (let here : (w == w) ≡ false = rw (← same) at other in differs w here)
    ]
  where
    differs : (w : ℕ) → (w == w) ≡ false → ⊥
    differs w h = let here : (w == w) ≡ true = eq-eqb w w refl in cc
ahead-at n (suc k) (w ∷ ws) at =
    let rest = ahead-at n k ws at in
    elim (cases_Bool (w == n)) [
      | inl here ↦ rw here (omega arith)
      | inr other ↦ rw other (omega (arith, rest))
    ]
