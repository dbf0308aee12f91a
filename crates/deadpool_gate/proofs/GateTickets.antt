-- What the callers of a gate need of its two lists of tickets, those with a place and those that wait for one.
use Rattle.std.proofs.Common.{◌≡◌, ℕ, zero, suc, ◌+◌, Bool, true, false, not, eqb, List, [], ◌∷◌, ◌++◌, length, map}
use Rattle.std.proofs.Common.{Option, Some, None, refl, sym, ap, ◌∙◌, inl, inr, arith}
use Rattle.std.specs.List.{filter}
use Rattle.std.specs.Option.{option_map_or}
use Rattle.std.proofs.lemmas.Bool.{cases_Bool, eqb-true, not_from_true, not_from_false}
use Rattle.std.proofs.lemmas.List.{map-append, append-nil, length-map}
use Rattle.std.proofs.lemmas.List.Elements.{filter-append}
use Rattle.std.proofs.lemmas.List.Sums.{length-filter}
use Rattle.std.proofs.lemmas.List.Filters.{length-filter_both}
use Rattle.deadpool_gate.specs.Gate.{Waiter, change_first, with_place, with_word, arrived, find_waiter, without_waiter}
use Rattle.deadpool_gate.specs.Gate.{grant_next, grant, granted_count, waiting_count, granted_tickets, waiting_tickets}
use Rattle.deadpool_gate.specs.Gate.{unnotified_tickets, IsApart}
use Rattle.deadpool_gate.specs.Numbers.{without_number, has_number}
use Rattle.deadpool_gate.proofs.GateListed.{find_none-head, find_none-tail}

module _ (test : Waiter → Bool) where
  -- the tickets of the waiters that pass: both lists are such a one
  abbrev tickets : List Waiter → List ℕ
  tickets ws = map (λ w. w.ticket) (filter test ws)

  has_number_none : (t : ℕ) (ws : List Waiter) → find_waiter t ws ≡ None → has_number t (tickets ws) ≡ false
  has_number_none t [] none = refl
  has_number_none t (w ∷ ws) none =
      let other = find_none-head (λ v. eqb v.ticket t) w ws none in
      let rest = has_number_none t ws (find_none-tail (λ v. eqb v.ticket t) w ws none) in
      elim (cases_Bool (test w)) [
        | inl passes ↦ rw (passes, other) rest
        | inr fails ↦ rw fails rest
      ]

  without_number_none : (t : ℕ) (ws : List Waiter) → find_waiter t ws ≡ None
      → without_number t (tickets ws) ≡ tickets ws
  without_number_none t [] none = refl
  without_number_none t (w ∷ ws) none =
      let other = find_none-head (λ v. eqb v.ticket t) w ws none in
      let rest = without_number_none t ws (find_none-tail (λ v. eqb v.ticket t) w ws none) in
      elim (cases_Bool (test w)) [
        | inl passes ↦ rw (passes, other) (ap (λ us. w.ticket ∷ us) rest)
        | inr fails ↦ rw fails rest
      ]

  tickets-without_waiter : (t : ℕ) (ws : List Waiter) → IsApart ws
      → tickets (without_waiter t ws) ≡ without_number t (tickets ws)
  tickets-without_waiter t [] apart = refl
  tickets-without_waiter t (w ∷ ws) apart =
      elim (cases_Bool (eqb w.ticket t)) [
        | inl here ↦
            let gone : find_waiter t ws ≡ None = rw (eqb-true w.ticket t here) at apart.0 in
            let rest = sym (without_number_none t ws gone) in
            elim (cases_Bool (test w)) [
              | inl passes ↦ rw (here, passes, here) rest
              | inr fails ↦ rw (here, fails) rest
            ]
        | inr other ↦
            let rest = tickets-without_waiter t ws apart.1 in
            elim (cases_Bool (test w)) [
              | inl passes ↦ rw (other, passes, other) (ap (λ us. w.ticket ∷ us) rest)
              | inr fails ↦ rw (other, fails) rest
            ]
      ]

  has_number_passes : (t : ℕ) (ws : List Waiter) (w : Waiter) → find_waiter t ws ≡ Some w → test w ≡ true
      → has_number t (tickets ws) ≡ true
  has_number_passes t [] w found passes = cc
  has_number_passes t (v ∷ ws) w found passes =
      elim (cases_Bool (eqb v.ticket t)) [
        | inl here ↦
            let same : v ≡ w = let first : Some v ≡ Some w = rw here at found in cc in
            let v_passes : test v ≡ true = rw same passes in
            rw (v_passes, here) refl
        | inr other ↦
            let rest = has_number_passes t ws w (rw other at found) passes in
            elim (cases_Bool (test v)) [
              | inl passes ↦ rw (passes, other) rest
              | inr fails ↦ rw fails rest
            ]
      ]

  has_number_fails : (t : ℕ) (ws : List Waiter) (w : Waiter) → IsApart ws → find_waiter t ws ≡ Some w → test w ≡ false
      → has_number t (tickets ws) ≡ false
  has_number_fails t [] w apart found fails = refl
  has_number_fails t (v ∷ ws) w apart found fails =
      elim (cases_Bool (eqb v.ticket t)) [
        | inl here ↦
            let same : v ≡ w = let first : Some v ≡ Some w = rw here at found in cc in
            let v_fails : test v ≡ false = rw same fails in
            let gone : find_waiter t ws ≡ None = rw (eqb-true v.ticket t here) at apart.0 in
            rw v_fails (has_number_none t ws gone)
        | inr other ↦
            let rest = has_number_fails t ws w apart.1 (rw other at found) fails in
            elim (cases_Bool (test v)) [
              | inl passes ↦ rw (passes, other) rest
              | inr fails ↦ rw fails rest
            ]
      ]

-- a waiter that comes waits, behind the others

pub granted_tickets-arrived : (t : ℕ) (ws : List Waiter) → granted_tickets (ws ++ arrived t ∷ []) ≡ granted_tickets ws
granted_tickets-arrived t ws =
    ap (map (λ (w : Waiter). w.ticket)) (filter-append (λ (w : Waiter). w.granted) ws (arrived t ∷ []) ∙ append-nil _)

pub waiting_tickets-arrived : (t : ℕ) (ws : List Waiter)
    → waiting_tickets (ws ++ arrived t ∷ []) ≡ waiting_tickets ws ++ t ∷ []
waiting_tickets-arrived t ws =
    ap (map (λ (w : Waiter). w.ticket)) (filter-append (λ (w : Waiter). not w.granted) ws (arrived t ∷ []))
    ∙ map-append (λ (w : Waiter). w.ticket) (filter (λ (w : Waiter). not w.granted) ws) (arrived t ∷ [])

-- a waiter that leaves takes its ticket out of whichever list had it

pub granted_tickets-without_waiter : (t : ℕ) (ws : List Waiter) → IsApart ws
    → granted_tickets (without_waiter t ws) ≡ without_number t (granted_tickets ws)
granted_tickets-without_waiter t ws apart = tickets-without_waiter (λ w. w.granted) t ws apart

pub waiting_tickets-without_waiter : (t : ℕ) (ws : List Waiter) → IsApart ws
    → waiting_tickets (without_waiter t ws) ≡ without_number t (waiting_tickets ws)
waiting_tickets-without_waiter t ws apart = tickets-without_waiter (λ w. not w.granted) t ws apart

-- which of the lists has the ticket

pub has_number_unlisted : (t : ℕ) (ws : List Waiter) → find_waiter t ws ≡ None
    → (has_number t (granted_tickets ws) ≡ false) × (has_number t (waiting_tickets ws) ≡ false)
has_number_unlisted t ws none =
    (has_number_none (λ w. w.granted) t ws none, has_number_none (λ w. not w.granted) t ws none)

pub has_number_granted : (t : ℕ) (ws : List Waiter) (w : Waiter) → IsApart ws → find_waiter t ws ≡ Some w
    → w.granted ≡ true → (has_number t (granted_tickets ws) ≡ true) × (has_number t (waiting_tickets ws) ≡ false)
has_number_granted t ws w apart found has = (
  has_number_passes (λ v. v.granted) t ws w found has,
  has_number_fails (λ v. not v.granted) t ws w apart found (not_from_true w.granted has),
)

pub has_number_waiting : (t : ℕ) (ws : List Waiter) (w : Waiter) → IsApart ws → find_waiter t ws ≡ Some w
    → w.granted ≡ false → (has_number t (granted_tickets ws) ≡ false) × (has_number t (waiting_tickets ws) ≡ true)
has_number_waiting t ws w apart found lacks = (
  has_number_fails (λ v. v.granted) t ws w apart found lacks,
  has_number_passes (λ v. not v.granted) t ws w found (not_from_false w.granted lacks),
)

-- the list of those with a place has a ticket if what is found under it has one
pub has_number_found : (t : ℕ) (ws : List Waiter) (found : Option Waiter) → IsApart ws → find_waiter t ws ≡ found
    → has_number t (granted_tickets ws) ≡ option_map_or (λ w. w.granted) found false
has_number_found t ws None apart is = (has_number_unlisted t ws is).0
has_number_found t ws (Some w) apart is =
    elim (cases_Bool w.granted) [
      | inl has ↦ (has_number_granted t ws w apart is has).0 ∙ sym has
      | inr lacks ↦ (has_number_waiting t ws w apart is lacks).0 ∙ sym lacks
    ]

-- the counts are the lengths of the lists

pub granted_count-length : (ws : List Waiter) → granted_count ws ≡ length (granted_tickets ws)
granted_count-length ws =
    let waiters : List Waiter = filter (λ w. w.granted) ws in
    sym (length-map waiters (λ (w : Waiter). w.ticket) ∙ length-filter (λ (w : Waiter). w.granted) ws)

pub waiting_count-length : (ws : List Waiter) → waiting_count ws ≡ length (waiting_tickets ws)
waiting_count-length ws =
    let waiters : List Waiter = filter (λ w. not w.granted) ws in
    sym (length-map waiters (λ (w : Waiter). w.ticket) ∙ length-filter (λ (w : Waiter). not w.granted) ws)

pub length-both_tickets : (ws : List Waiter) → length (granted_tickets ws) + length (waiting_tickets ws) ≡ length ws
length-both_tickets ws =
    let has : List Waiter = filter (λ w. w.granted) ws in
    let lacks : List Waiter = filter (λ w. not w.granted) ws in
    omega (
      arith,
      length-map has (λ (w : Waiter). w.ticket),
      length-map lacks (λ (w : Waiter). w.ticket),
      length-filter_both (λ (w : Waiter). w.granted) (λ w. not w.granted) (λ _. refl) ws,
    )

-- the tickets of two lines with heads that are alike
alike : (P : Waiter → Bool) (x y : Waiter) (xs ys : List Waiter) → P x ≡ P y → x.ticket ≡ y.ticket
    → map (λ w. w.ticket) (filter P xs) ≡ map (λ w. w.ticket) (filter P ys)
    → map (λ w. w.ticket) (filter P (x ∷ xs)) ≡ map (λ w. w.ticket) (filter P (y ∷ ys))
alike P x y xs ys same ticket rest =
    elim (cases_Bool (P y)) [
      | inl has ↦ let had = same ∙ has in rw (had, has) cc
      | inr lacks ↦ let lacked = same ∙ lacks in rw (lacked, lacks) rest
    ]

-- a waiter is changed in its place, and keeps its ticket and what the test sees of it
tickets-changed : (P : Waiter → Bool) (change : Waiter → Waiter) → ((w : Waiter) → P (change w) ≡ P w)
    → ((w : Waiter) → (change w).ticket ≡ w.ticket) → (test : Waiter → Bool) (ws : List Waiter)
    → map (λ w. w.ticket) (filter P (change_first test change ws)) ≡ map (λ w. w.ticket) (filter P ws)
tickets-changed P change blind same test [] = refl
tickets-changed P change blind same test (w ∷ ws) =
    elim (cases_Bool (test w)) [
      | inl here ↦ rw here (alike P (change w) w ws ws (blind w) (same w) refl)
      | inr later ↦
          rw later
          (alike P w w (change_first test change ws) ws refl refl (tickets-changed P change blind same test ws))
    ]

-- who was told makes no difference to both lists

pub granted_tickets-told : (test : Waiter → Bool) (ws : List Waiter)
    → granted_tickets (change_first test with_word ws) ≡ granted_tickets ws
granted_tickets-told = tickets-changed (λ w. w.granted) with_word (λ w. refl) (λ w. refl)

pub waiting_tickets-told : (test : Waiter → Bool) (ws : List Waiter)
    → waiting_tickets (change_first test with_word ws) ≡ waiting_tickets ws
waiting_tickets-told = tickets-changed (λ w. not w.granted) with_word (λ w. refl) (λ w. refl)

-- those that were not told: one that comes is the last of them, one that leaves is none of them, and a place changes
-- nothing

pub unnotified_tickets-arrived : (t : ℕ) (ws : List Waiter)
    → unnotified_tickets (ws ++ arrived t ∷ []) ≡ unnotified_tickets ws ++ t ∷ []
unnotified_tickets-arrived t ws =
    ap (map (λ (w : Waiter). w.ticket)) (filter-append (λ (w : Waiter). not w.told) ws (arrived t ∷ []))
    ∙ map-append (λ (w : Waiter). w.ticket) (filter (λ (w : Waiter). not w.told) ws) (arrived t ∷ [])

pub unnotified_tickets-without_waiter : (t : ℕ) (ws : List Waiter) → IsApart ws
    → unnotified_tickets (without_waiter t ws) ≡ without_number t (unnotified_tickets ws)
unnotified_tickets-without_waiter t ws apart = tickets-without_waiter (λ w. not w.told) t ws apart

pub unnotified_tickets-unlisted : (t : ℕ) (ws : List Waiter) → find_waiter t ws ≡ None
    → without_number t (unnotified_tickets ws) ≡ unnotified_tickets ws
unnotified_tickets-unlisted t ws none = without_number_none (λ w. not w.told) t ws none

unnotified_tickets-grant_next : (ws : List Waiter) → unnotified_tickets (grant_next ws) ≡ unnotified_tickets ws
unnotified_tickets-grant_next = tickets-changed (λ w. not w.told) with_place (λ w. refl) (λ w. refl)
    (λ w. not w.granted)

pub unnotified_tickets-grant : (n : ℕ) (ws : List Waiter) → unnotified_tickets (grant n ws) ≡ unnotified_tickets ws
unnotified_tickets-grant zero ws = refl
unnotified_tickets-grant (suc n) ws = unnotified_tickets-grant_next (grant n ws) ∙ unnotified_tickets-grant n ws
