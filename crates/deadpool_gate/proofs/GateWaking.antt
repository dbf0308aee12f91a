-- Who is due to be told, by the tickets alone.
use Rattle.std.proofs.Common.{◌≡◌, ◌≢◌, ℕ, Bool, true, false, not, ◌||◌, eqb, List, [], ◌∷◌, Option, Some, None, refl}
use Rattle.std.proofs.Common.{sym, ap, subst, ◌∙◌, inl, inr}
use Rattle.std.specs.Prelude.{slice_get}
use Rattle.std.specs.List.{find}
use Rattle.std.proofs.lemmas.Bool.{cases_Bool, eq-eqb, ne_eqb, and_parts, not-true}
use Rattle.deadpool_gate.specs.Gate.{Waiter, find_waiter, granted_tickets, unnotified_tickets, is_due, tell_next}
use Rattle.deadpool_gate.specs.Gate.{due_ticket, IsApart}
use Rattle.deadpool_gate.specs.Numbers.{has_number, without_number}
use Rattle.deadpool_gate.specs.Waking.{next_due, still_unnotified}
use Rattle.deadpool_gate.proofs.GateListed.{find_none-head}
use Rattle.deadpool_gate.proofs.GateApart.{other_ticket, unlisted-tail}
use Rattle.deadpool_gate.proofs.GateTickets.{has_number_unlisted, unnotified_tickets-unlisted}
use Rattle.deadpool_gate.proofs.Numbers.{differs_sym}

-- of the waiters those with a place have their ticket in the list
abbrev Marks : List ℕ → List Waiter → Type 0
Marks granted [] = Unit {0}
Marks granted (w ∷ ws) = (has_number w.ticket granted ≡ w.granted) × Marks granted ws

Marks-more : (t : ℕ) (granted : List ℕ) (ws : List Waiter) → find_waiter t ws ≡ None → Marks granted ws
    → Marks (t ∷ granted) ws
Marks-more t granted [] none marks = tt
Marks-more t granted (w ∷ ws) none marks =
    let other : eqb t w.ticket ≡ false = differs_sym w.ticket t (find_none-head (λ v. eqb v.ticket t) w ws none) in
    (rw other marks.0, Marks-more t granted ws (unlisted-tail t w ws none) marks.1)

granted_tickets-mark : (ws : List Waiter) → IsApart ws → Marks (granted_tickets ws) ws
granted_tickets-mark [] apart = tt
granted_tickets-mark (w ∷ ws) apart =
    let rest = granted_tickets-mark ws apart.1 in
    elim (cases_Bool w.granted) [
      | inl has ↦
          let longer : granted_tickets (w ∷ ws) ≡ w.ticket ∷ granted_tickets ws = rw has refl in
          let here : has_number w.ticket (w.ticket ∷ granted_tickets ws) ≡ w.granted =
          rw (has, eq-eqb w.ticket w.ticket refl) refl in
          subst (λ (ts : List ℕ). Marks ts (w ∷ ws)) (sym longer) (
            here,
            Marks-more w.ticket (granted_tickets ws) ws apart.0 rest,
          )
      | inr lacks ↦
          let same : granted_tickets (w ∷ ws) ≡ granted_tickets ws = rw lacks refl in
          let here : has_number w.ticket (granted_tickets ws) ≡ w.granted =
          (has_number_unlisted w.ticket ws apart.0).0 ∙ sym lacks in
          subst (λ (ts : List ℕ). Marks ts (w ∷ ws)) (sym same) (here, rest)
    ]

-- in an open line those with a place are due, and in a closed one all are

due_ticket-open : (granted : List ℕ) (ws : List Waiter) → Marks granted ws
    → due_ticket false ws ≡ find (λ t. has_number t granted) (unnotified_tickets ws)
due_ticket-open granted [] marks = refl
due_ticket-open granted (w ∷ ws) marks =
    let rest = due_ticket-open granted ws marks.1 in
    elim (cases_Bool w.told) [
      | inl told ↦ elim (cases_Bool w.granted) [ inl has ↦ rw (has, told) rest | inr lacks ↦ rw (lacks, told) rest ]
      | inr unnotified ↦
          elim (cases_Bool w.granted) [
            | inl has ↦ let marked : has_number w.ticket granted ≡ true = rw has at marks.0 in
                rw (has, unnotified, marked) refl
            | inr lacks ↦ let unmarked : has_number w.ticket granted ≡ false = rw lacks at marks.0 in
                rw (lacks, unnotified, unmarked) rest
          ]
    ]

due_ticket-closed : (ws : List Waiter) → due_ticket true ws ≡ slice_get (unnotified_tickets ws) 0
due_ticket-closed [] = refl
due_ticket-closed (w ∷ ws) =
    let rest = due_ticket-closed ws in
    elim (cases_Bool w.told) [
      | inl told ↦ elim (cases_Bool w.granted) [ inl has ↦ rw (has, told) rest | inr lacks ↦ rw (lacks, told) rest ]
      | inr unnotified ↦ elim (cases_Bool w.granted) [
        | inl has ↦ rw (has, unnotified) refl
        | inr lacks ↦ rw (lacks, unnotified) refl
      ]
    ]

-- so who is due is the first of the tickets that is
pub due_ticket-next_due : (is_closed : Bool) (ws : List Waiter) → IsApart ws
    → due_ticket is_closed ws ≡ next_due (not is_closed) (granted_tickets ws) (unnotified_tickets ws)
due_ticket-next_due true ws apart = due_ticket-closed ws
due_ticket-next_due false ws apart = due_ticket-open (granted_tickets ws) ws (granted_tickets-mark ws apart)

-- who is due is listed
due_ticket-listed : (is_closed : Bool) (key : ℕ) (ws : List Waiter) → find_waiter key ws ≡ None
    → due_ticket is_closed ws ≢ Some key
due_ticket-listed c key [] none is = cc
due_ticket-listed c key (w ∷ ws) none is =
    elim (cases_Bool (is_due c w)) [
      | inl due ↦ let there : Some w.ticket ≡ Some key = rw due at is in let same : w.ticket ≡ key = cc in
          other_ticket key w ws none same
      | inr later ↦ due_ticket-listed c key ws (unlisted-tail key w ws none) (rw later at is)
    ]

-- and once told it is unnotified no more
pub unnotified_tickets-tell_next : (is_closed : Bool) (ws : List Waiter) → IsApart ws
    → unnotified_tickets (tell_next is_closed ws) ≡ still_unnotified (due_ticket is_closed ws) (unnotified_tickets ws)
unnotified_tickets-tell_next c [] apart = refl
unnotified_tickets-tell_next c (w ∷ ws) apart =
    let rest = unnotified_tickets-tell_next c ws apart.1 in
    elim (cases_Bool (is_due c w)) [
      | inl due ↦
          let unnotified : w.told ≡ false = not-true w.told (and_parts (w.granted || c) (not w.told) due).1 in
          rw (due, unnotified, eq-eqb w.ticket w.ticket refl) (unnotified_sym w.ticket ws apart.0)
      | inr later ↦
          elim (cases_Bool w.told) [
            | inl told ↦ rw (later, told) rest
            | inr unnotified ↦ rw (later, unnotified) (behind (due_ticket c ws) refl rest)
          ]
    ]
  where
    unnotified_sym : (t : ℕ) (vs : List Waiter) → find_waiter t vs ≡ None
        → unnotified_tickets vs ≡ without_number t (unnotified_tickets vs)
    unnotified_sym t vs none = sym (unnotified_tickets-unlisted t vs none)

    behind : (o : Option ℕ) → due_ticket c ws ≡ o → unnotified_tickets (tell_next c ws)
        ≡ still_unnotified o (unnotified_tickets ws)
        → w.ticket ∷ unnotified_tickets (tell_next c ws) ≡ still_unnotified o (w.ticket ∷ unnotified_tickets ws)
    behind None is rest = ap (λ ts. w.ticket ∷ ts) rest
    behind (Some t) is rest =
        let differs : eqb w.ticket t ≡ false =
        ne_eqb w.ticket t (λ same. due_ticket-listed c w.ticket ws apart.0 (is ∙ ap Some (sym same))) in
        rw differs (ap (λ ts. w.ticket ∷ ts) rest)
