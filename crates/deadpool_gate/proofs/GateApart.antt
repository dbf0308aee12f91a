-- Waiters with tickets of their own: who is found by a ticket, and who is not.
use Rattle.std.proofs.Common.{◌≡◌, ◌≢◌, ℕ, eqb, List, [], ◌∷◌, ◌++◌, Some, None, refl, sym, ◌∙◌, inl, inr}
use Rattle.std.proofs.lemmas.Bool.{cases_eq, eq-eqb, ne_eqb, eqb-false}
use Rattle.deadpool_gate.specs.Gate.{Waiter, find_waiter, IsApart}
use Rattle.deadpool_gate.proofs.GateListed.{find_none-head, find_none-tail, find_none-front, find_none-back}
use Rattle.deadpool_gate.proofs.GateListed.{find-behind}

module _ (key : ℕ) where
  -- who is not found has another ticket
  pub other_ticket : (w : Waiter) (ws : List Waiter) → find_waiter key (w ∷ ws) ≡ None → w.ticket ≢ key
  other_ticket w ws none = eqb-false w.ticket key (find_none-head (λ v. eqb v.ticket key) w ws none)

  pub unlisted-front : (xs ys : List Waiter) → find_waiter key (xs ++ ys) ≡ None → find_waiter key xs ≡ None
  unlisted-front xs ys none = find_none-front (λ v. eqb v.ticket key) xs ys none

  pub unlisted-back : (xs ys : List Waiter) → find_waiter key (xs ++ ys) ≡ None → find_waiter key ys ≡ None
  unlisted-back xs ys none = find_none-back (λ v. eqb v.ticket key) xs ys none

  pub unlisted-tail : (w : Waiter) (ws : List Waiter) → find_waiter key (w ∷ ws) ≡ None → find_waiter key ws ≡ None
  unlisted-tail w ws none = find_none-tail (λ v. eqb v.ticket key) w ws none

  -- one with another ticket comes between
  pub unlisted-between : (xs : List Waiter) (w : Waiter) (ys : List Waiter) → w.ticket ≢ key
      → find_waiter key (xs ++ ys) ≡ None → find_waiter key (xs ++ w ∷ ys) ≡ None
  unlisted-between xs w ys differs none =
      find-behind (λ v. eqb v.ticket key) xs (w ∷ ys) (unlisted-front xs ys none)
      ∙ rw (ne_eqb w.ticket key differs) (unlisted-back xs ys none)

  -- one between leaves
  pub unlisted-without : (xs : List Waiter) (w : Waiter) (ys : List Waiter) → find_waiter key (xs ++ w ∷ ys) ≡ None
      → find_waiter key (xs ++ ys) ≡ None
  unlisted-without xs w ys none =
      find-behind (λ v. eqb v.ticket key) xs ys (unlisted-front xs (w ∷ ys) none)
      ∙ unlisted-tail w ys (unlisted-back xs (w ∷ ys) none)

  -- one between becomes another with the same ticket
  pub unlisted-replaced : (xs : List Waiter) (v w : Waiter) (ys : List Waiter) → v.ticket ≡ w.ticket
      → find_waiter key (xs ++ v ∷ ys) ≡ None → find_waiter key (xs ++ w ∷ ys) ≡ None
  unlisted-replaced xs v w ys same none =
      let differs = other_ticket v ys (unlisted-back xs (v ∷ ys) none) in
      unlisted-between xs w ys (λ is. differs (same ∙ is)) (unlisted-without xs v ys none)

pub listed-head : (w : Waiter) (ws : List Waiter) → find_waiter w.ticket (w ∷ ws) ≢ None
listed-head w ws none = other_ticket w.ticket w ws none refl

pub IsApart-front : (xs ys : List Waiter) → IsApart (xs ++ ys) → IsApart xs
IsApart-front [] ys apart = tt
IsApart-front (x ∷ xs) ys apart = (unlisted-front x.ticket xs ys apart.0, IsApart-front xs ys apart.1)

pub IsApart-back : (xs ys : List Waiter) → IsApart (xs ++ ys) → IsApart ys
IsApart-back [] ys apart = apart
IsApart-back (x ∷ xs) ys apart = IsApart-back xs ys apart.1

-- nobody before a waiter has its ticket
pub unlisted-before : (xs : List Waiter) (w : Waiter) (ys : List Waiter) → IsApart (xs ++ w ∷ ys)
    → find_waiter w.ticket xs ≡ None
unlisted-before [] w ys apart = refl
unlisted-before (x ∷ xs) w ys apart =
    let differs = other_ticket x.ticket w ys (unlisted-back x.ticket xs (w ∷ ys) apart.0) in
    rw (ne_eqb x.ticket w.ticket (λ same. differs (sym same))) (unlisted-before xs w ys apart.1)

-- so its ticket finds it
pub find_waiter-between : (xs : List Waiter) (w : Waiter) (ys : List Waiter) → IsApart (xs ++ w ∷ ys)
    → find_waiter w.ticket (xs ++ w ∷ ys) ≡ Some w
find_waiter-between xs w ys apart =
    find-behind (λ v. eqb v.ticket w.ticket) xs (w ∷ ys) (unlisted-before xs w ys apart)
    ∙ rw (eq-eqb w.ticket w.ticket refl) refl

-- who is in the front is not in the back
pub unlisted-behind : (key : ℕ) (xs ys : List Waiter) → IsApart (xs ++ ys) → find_waiter key xs ≢ None
    → find_waiter key ys ≡ None
unlisted-behind key [] ys apart there = absurd (there refl)
unlisted-behind key (x ∷ xs) ys apart there =
    elim (cases_eq x.ticket key) [
      | inl same ↦ let none = unlisted-back x.ticket xs ys apart.0 in rw same at none
      | inr differs ↦ unlisted-behind key xs ys apart.1 (λ none. there (rw (ne_eqb x.ticket key differs) none))
    ]
