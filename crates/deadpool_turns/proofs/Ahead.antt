-- How many stand ahead of a number of a list, as the list changes.
use Rattle.std.proofs.Common.{◌≡◌, ℕ, ◌+◌, ◌<◌, ◌≤◌, List, [], ◌∷◌, ◌++◌, true, false, ◌||◌}
use Rattle.std.proofs.Common.{length, take, drop, refl, sym, ap, ◌∙◌, arith, inl, inr, zero, suc}
use Rattle.std.specs.Prelude.{◌==◌}
use Rattle.std.proofs.lemmas.Bool.{cases_Bool, eqb-true, or_parts}
use Rattle.std.proofs.lemmas.List.{take-append-drop}
use Rattle.deadpool_gate.specs.Numbers.{has_number, without_number}
use Rattle.deadpool_gate.proofs.Numbers.{differs_sym, has_number-append, has_number-without}
use Rattle.deadpool_turns.specs.Ahead.{ahead}

-- one that joins stands behind
pub ahead-push : (t n : ℕ) (ws : List ℕ) → has_number t ws ≡ true → ahead t (ws ++ n ∷ []) ≡ ahead t ws
ahead-push t n [] has = cc
ahead-push t n (w ∷ ws) has =
    elim (cases_Bool (w == t)) [
      | inl here ↦ rw here refl
      | inr other ↦ rw other (ap (λ k. k + 1) (ahead-push t n ws (rw other at has)))
    ]

-- if another leaves it stays, and no more stand ahead of it
pub has-without_other : (t n : ℕ) (ws : List ℕ) → (n == t) ≡ false → has_number t ws ≡ true
    → has_number t (without_number n ws) ≡ true
has-without_other t n ws other has =
    has_number-without t n ws ∙ (rw (has, differs_sym n t other) refl)

pub ahead-without : (t n : ℕ) (ws : List ℕ) → (n == t) ≡ false → ahead t (without_number n ws) ≤ ahead t ws
ahead-without t n [] other = omega arith
ahead-without t n (w ∷ ws) other =
    let rest = ahead-without t n ws other in
    elim (cases_Bool (w == n)) [
      | inl gone ↦
          let away : (w == t) ≡ false = rw (← eqb-true w n gone) at other in
          rw (gone, away) (omega (arith, rest))
      | inr stays ↦
          elim (cases_Bool (w == t)) [
            | inl here ↦ rw (stays, here) (omega arith)
            | inr away ↦ rw (stays, away) (omega (arith, rest))
          ]
    ]

-- fewer stand ahead of it than stand there
pub ahead-within : (t : ℕ) (ws : List ℕ) → has_number t ws ≡ true → ahead t ws < length ws
ahead-within t [] has = cc
ahead-within t (w ∷ ws) has =
    elim (cases_Bool (w == t)) [
      | inl here ↦ rw here (omega arith)
      | inr away ↦ rw away (let rest = ahead-within t ws (rw away at has) in omega (arith, rest))
    ]

-- if some go from the front and it is none of them, so many fewer stand ahead of it
pub ahead-drop : (t g : ℕ) (ws : List ℕ) → has_number t ws ≡ true → has_number t (take g ws) ≡ false
    → ahead t (drop g ws) + g ≡ ahead t ws
ahead-drop t zero ws has none = omega arith
ahead-drop t (suc g) [] has none = cc
ahead-drop t (suc g) (w ∷ ws) has none =
    let parts = or_parts (w == t) (has_number t (take g ws)) none in
    let away = parts.0 in
    let rest = ahead-drop t g ws (rw away at has) parts.1 in
    rw away (omega (arith, rest))

pub has-dropped : (t g : ℕ) (ws : List ℕ) → has_number t ws ≡ true → has_number t (take g ws) ≡ false
    → has_number t (drop g ws) ≡ true
has-dropped t g ws has none =
    let all : has_number t (take g ws ++ drop g ws) ≡ true = ap (has_number t) (take-append-drop g ws) ∙ has in
    let both : (has_number t (take g ws) || has_number t (drop g ws)) ≡ true =
    sym (has_number-append t (take g ws) (drop g ws)) ∙ all in
    rw none at both
