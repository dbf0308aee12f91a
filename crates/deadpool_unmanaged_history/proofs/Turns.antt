-- Who is told was due, as the history grows.
use Rattle.deadpool_unmanaged_history.proofs.Words.{◌≡◌, ◌⊎◌, ℕ, List, [], ◌∷◌, ◌++◌, Option, ap, inl, inr, refl}
use Rattle.deadpool_unmanaged_history.proofs.Words.{IsDueAfter, Line, TellsInTurn, Wake}
use Rattle.deadpool_unmanaged_history.specs.declared.line.Line.TheVariants.{Opening, Told}

module _ {X : Type 0} where
  pub nothing_before : (xs ys : List X) (y : X) → [] ≡ xs ++ y ∷ ys → ⊥
  nothing_before [] ys y same = cc
  nothing_before (x ∷ xs) ys y same = cc

  -- An element of a list with one more at its end is that one, or stands before it.
  pub last_or_before : (log before after : List X) (x y : X) → log ++ x ∷ [] ≡ before ++ y ∷ after
      → ((log ≡ before) × (x ≡ y)) ⊎ ((rest : List X) × (log ≡ before ++ y ∷ rest))
  last_or_before [] [] after x y same = let is : x ≡ y = cc in inl (refl, is)
  last_or_before [] (b ∷ before) after x y same =
      absurd (let none : [] ≡ before ++ y ∷ after = cc in nothing_before before after y none)
  last_or_before (l ∷ log) [] after x y same = let is : l ≡ y = cc in inr (log, ap (λ (z : X). z ∷ log) is)
  last_or_before (l ∷ log) (b ∷ before) after x y same =
      let first : l ≡ b = cc in
      let later : log ++ x ∷ [] ≡ before ++ y ∷ after = cc in
      elim (last_or_before log before after x y later) [
        | inl (is, last) ↦ inl (rw (first, is) refl, last)
        | inr (rest, is) ↦ inr (rest, rw (first, is) refl)
      ]

module _ {T : Type 0} where
  pub nobody_told : TellsInTurn {T = T} []
  nobody_told before after by w is = absurd (nothing_before before after (by, Told w) is)

  -- one line more, and if by that one is told, one that is due
  pub tells_on : (log : List (ℕ × Line T)) (n : ℕ) (line : Line T)
      → ((w : Wake) → line ≡ Told w → IsDueAfter log w)
      → TellsInTurn log → TellsInTurn (log ++ (n, line) ∷ [])
  tells_on log n line due tells before after by w is =
      elim (last_or_before log before after (n, line) (by, Told w) is) [
        | inl (same, last) ↦ rw (← same) (due w (ap (λ (x : ℕ × Line T). x.1) last))
        | inr (rest, same) ↦ tells before rest by w same
      ]

  not_told : (limit : ℕ) (max_waiting : Option ℕ) (w : Wake) (line : Line T) → line ≡ Opening limit max_waiting
      → line ≡ Told w → ⊥
  not_told limit max_waiting w line opening told = cc

  -- a history with nothing but how the pool opened
  pub opens_untold : (n limit : ℕ) (max_waiting : Option ℕ)
      → TellsInTurn {T = T} ((n, Opening limit max_waiting) ∷ [])
  opens_untold n limit max_waiting =
      let line : Line T = Opening limit max_waiting in
      tells_on [] n line
      (λ w is. absurd (not_told limit max_waiting w line refl is)) nobody_told
