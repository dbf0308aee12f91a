-- What a settle does to the two lists of tickets.
use Rattle.std.proofs.Common.{◌≡◌, ℕ, zero, suc, List, [], ◌∷◌, ◌++◌, take, drop, refl, sym, ap, ◌∙◌, inl, inr}
use Rattle.std.proofs.lemmas.Bool.{cases_Bool}
use Rattle.std.proofs.lemmas.List.{append_assoc, append-nil}
use Rattle.deadpool_gate.specs.Gate.{Waiter, grant_next, grant, granted_tickets, waiting_tickets, NonePass, IsFront}
use Rattle.deadpool_gate.proofs.GateLine.{granted_front-grant_next}

granted_tickets_none : (ws : List Waiter) → NonePass (λ w. w.granted) ws → granted_tickets ws ≡ []
granted_tickets_none [] none = refl
granted_tickets_none (w ∷ ws) none = rw none.0 (granted_tickets_none ws none.1)

-- one grant takes the first ticket of those that wait
waiting_tickets-grant_next : (ws : List Waiter) → waiting_tickets (grant_next ws) ≡ drop 1 (waiting_tickets ws)
waiting_tickets-grant_next [] = refl
waiting_tickets-grant_next (w ∷ ws) =
    elim (cases_Bool w.granted) [
      | inl has ↦ rw has (waiting_tickets-grant_next ws)
      | inr lacks ↦ rw lacks refl
    ]

-- and puts it behind those with a place, since they are the front
granted_tickets-grant_next : (ws : List Waiter) → IsFront (λ w. w.granted) ws
    → granted_tickets (grant_next ws) ≡ granted_tickets ws ++ take 1 (waiting_tickets ws)
granted_tickets-grant_next [] front = refl
granted_tickets-grant_next (w ∷ ws) front =
    elim (cases_Bool w.granted) [
      | inl has ↦ rw has (ap (λ ts. w.ticket ∷ ts) (granted_tickets-grant_next ws front.1))
      | inr lacks ↦ rw lacks (let none = granted_tickets_none ws (front.0 lacks) in rw none refl)
    ]

take_one_more : (n : ℕ) (ts : List ℕ) → take n ts ++ take 1 (drop n ts) ≡ take (suc n) ts
take_one_more zero ts = refl
take_one_more (suc n) [] = refl
take_one_more (suc n) (t ∷ ts) = ap (λ us. t ∷ us) (take_one_more n ts)

drop_one_more : (n : ℕ) (ts : List ℕ) → drop 1 (drop n ts) ≡ drop (suc n) ts
drop_one_more zero ts = refl
drop_one_more (suc n) [] = refl
drop_one_more (suc n) (t ∷ ts) = drop_one_more n ts

granted_front-grant : (n : ℕ) (ws : List Waiter) → IsFront (λ w. w.granted) ws → IsFront (λ w. w.granted) (grant n ws)
granted_front-grant zero ws front = front
granted_front-grant (suc n) ws front = granted_front-grant_next (grant n ws) (granted_front-grant n ws front)

pub waiting_tickets-grant : (n : ℕ) (ws : List Waiter) → waiting_tickets (grant n ws) ≡ drop n (waiting_tickets ws)
waiting_tickets-grant zero ws = refl
waiting_tickets-grant (suc n) ws =
    waiting_tickets-grant_next (grant n ws) ∙ ap (drop 1) (waiting_tickets-grant n ws)
    ∙ drop_one_more n (waiting_tickets ws)

pub granted_tickets-grant : (n : ℕ) (ws : List Waiter) → IsFront (λ w. w.granted) ws
    → granted_tickets (grant n ws) ≡ granted_tickets ws ++ take n (waiting_tickets ws)
granted_tickets-grant zero ws front = sym (append-nil _)
granted_tickets-grant (suc n) ws front =
    let had = granted_tickets ws in
    let waited = waiting_tickets ws in
    granted_tickets-grant_next (grant n ws) (granted_front-grant n ws front)
    ∙ rw (granted_tickets-grant n ws front, waiting_tickets-grant n ws)
    (append_assoc had (take n waited) (take 1 (drop n waited)))
    ∙ ap (λ ts. had ++ ts) (take_one_more n waited)
