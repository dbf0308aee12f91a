-- Who is told was due, as the history grows.
use Rattle.std.proofs.Common.{◌≡◌, ◌⊎◌, ℕ, List, [], ◌∷◌, ◌++◌, Option, ap, inl, inr, refl}
use Rattle.deadpool_parts.specs.declared.config.QueueMode.{QueueMode}
use Rattle.deadpool_history.specs.History.{History, IsDueAfter, TellsInTurn}
use Rattle.deadpool_history.specs.declared.line.Line.{Line}
use Rattle.deadpool_history.specs.declared.line.Line.TheVariants.{Opening, Told}

module _ {X : Type 0} where
  pub nothing_before : (xs ys : List X) (y : X) → [] ≡ xs ++ y ∷ ys → ⊥
  nothing_before [] ys y same = cc
  nothing_before (x ∷ xs) ys y same = cc

  -- An element of a list with one more at its end is that one, or stands before it.
  pub last_or_before : (log before after : List X) (x y : X) → log ++ x ∷ [] ≡ before ++ y ∷ after
      → ((log ≡ before) × (x ≡ y)) ⊎ ((rest : List X) × (log ≡ before ++ y ∷ rest))
  last_or_before [] [] after x y same = let is : x ≡ y = cc in inl (refl, is)
  last_or_before [] (b ∷ before) after x y same =
      absurd (let none : [] ≡ before ++ y ∷ after = cc in nothing_before before after y none)
  last_or_before (l ∷ log) [] after x y same = let is : l ≡ y = cc in inr (log, ap (λ (z : X). z ∷ log) is)
  last_or_before (l ∷ log) (b ∷ before) after x y same =
      let first : l ≡ b = cc in
      let later : log ++ x ∷ [] ≡ before ++ y ∷ after = cc in
      elim (last_or_before log before after x y later) [
        | inl (is, last) ↦ inl (rw (first, is) refl, last)
        | inr (rest, is) ↦ inr (rest, rw (first, is) refl)
      ]

pub nobody_told : TellsInTurn []
nobody_told before after by ticket is = absurd (nothing_before before after (by, Told ticket) is)

-- one line more, and if by that one is told, one that is due
pub tells_on : (log : History) (n : ℕ) (line : Line) → ((t : ℕ) → line ≡ Told t → IsDueAfter log t)
    → TellsInTurn log → TellsInTurn (log ++ (n, line) ∷ [])
tells_on log n line due tells before after by ticket is =
    elim (last_or_before log before after (n, line) (by, Told ticket) is) [
      | inl (same, last) ↦ rw (← same) (due ticket (ap (λ (x : ℕ × Line). x.1) last))
      | inr (rest, same) ↦ tells before rest by ticket same
    ]

-- a history with nothing but how the pool opened
pub opens_untold : (n limit : ℕ) (mode : QueueMode) (min_idle : ℕ) (max_waiting : Option ℕ)
    → TellsInTurn ((n, Opening limit mode min_idle max_waiting) ∷ [])
opens_untold n limit mode min_idle max_waiting =
    let line : Line = Opening limit mode min_idle max_waiting in
    tells_on [] n line (λ t is. absurd (let no : Opening limit mode min_idle max_waiting ≡ Told t = is in cc))
    nobody_told
