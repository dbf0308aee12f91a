-- Where each names only its own ticket, each that waits under one is in the queue, and no two have the same.
use Rattle.std.proofs.Common.{◌≡◌, ℕ, List, [], ◌∷◌, ◌++◌, true, false, refl, sym, ap, ◌∙◌, inl, inr}
use Rattle.std.proofs.Common.{Option, Some, None, map}
use Rattle.std.specs.Prelude.{◌⊎◌, ◌==◌}
use Rattle.std.proofs.lemmas.Bool.{cases_Bool, eqb-true, eq-eqb, or_right}
use Rattle.deadpool_parts.specs.declared.config.QueueMode.{QueueMode}
use Rattle.deadpool_desk.specs.DeskState.{DeskState, bounded, new_core}
use Rattle.deadpool_desk.specs.DeskSteps.{Does, is_listed}
use Rattle.deadpool_desk.specs.Replies.{named}
use Rattle.deadpool_desk.specs.declared.step.Held.TheVariants as held
use Rattle.deadpool_desk.specs.declared.step.Reply.{Reply}
use Rattle.deadpool_desk.specs.declared.step.Reply.TheVariants.{Unknown, Waiting}
use Rattle.deadpool_desk.specs.declared.step.Step.{Step}
use Rattle.deadpool_desk.specs.declared.step.Step.TheVariants.{Enter, Ask, Again, Discard, Created, Failed, Refused}
use Rattle.deadpool_desk.specs.declared.step.Step.TheVariants.{Back, Withdraw, Cancel, Take}
use Rattle.deadpool_gate.specs.Numbers.{has_number}
use Rattle.deadpool_gate.proofs.Numbers.{has_number-append}
use Rattle.deadpool_journal.specs.Replay.{IsStep, Runs}
use Rattle.deadpool_journal.specs.declared.entry.Entry.{Entry}
use Rattle.deadpool_journal.specs.declared.entry.Entry.TheVariants.{Made, Owner, Retain}
use Rattle.deadpool_turns.specs.Steps.{named_by}
use Rattle.deadpool_turns.specs.Tickets.{AreTicketsKnown, EachTicketIsKnown, EachWaitsInTheQueue, IsNamed}
use Rattle.deadpool_turns.specs.Tickets.{IsTicketKnown, IsTicketed, NameOwn, Tickets, nobody_waits, tickets_after}
use Rattle.deadpool_turns.specs.Tickets.{tickets_from, told, told_by}
use Rattle.deadpool_turns.specs.Turns.{IsOrderly, IsQueued}
use Rattle.deadpool_turns.proofs.Steps.{keeps_order, queue_keeps}

in_queue : (t : ℕ) (d : DeskState ℕ) → IsQueued t d → is_listed t d ≡ true
in_queue t d queued = sym (has_number-append t d.granted d.waiting) ∙ queued

listed : (t : ℕ) (d : DeskState ℕ) → is_listed t d ≡ true → IsQueued t d
listed t d is = has_number-append t d.granted d.waiting ∙ is

unlisted : (t : ℕ) (d : DeskState ℕ) → is_listed t d ≡ false → IsQueued t d → ⊥
unlisted t d gone queued = let there = in_queue t d queued in let differ : true ≡ false = sym there ∙ gone in cc

has_pushed : (t : ℕ) (xs : List ℕ) → has_number t (xs ++ t ∷ []) ≡ true
has_pushed t xs =
    let self : has_number t (t ∷ []) ≡ true = rw (eq-eqb t t refl) refl in
    has_number-append t xs (t ∷ []) ∙ or_right (has_number t xs) _ self

told_waits : (reply : Reply) (t : ℕ) → told reply ≡ Some t → reply ≡ Waiting t
told_waits (Waiting ticket) t is = ap Waiting (let e : Some ticket ≡ Some t = is in cc)
told_waits _ t is = absurd (let none : None ≡ Some t = is in cc)

-- Who is told a ticket is in the queue under it: it is a new one, or the one that was named.
abbrev IsTold : ℕ → Option ℕ → DeskState ℕ → DeskState ℕ → Type 0
IsTold t asked d d' = IsQueued t d' × ((IsQueued t d → ⊥) ⊎ (asked ≡ Some t))

module _ (d d' : DeskState ℕ) where
  told_queued : (step : Step) (object : Option ℕ) (t : ℕ) → Does d step object (Waiting t) d'
      → IsTold t (named step) d d'
  told_queued (Enter wait) None t h = (
    rw h.5 (has_number-append t d.granted (d.waiting ++ t ∷ []) ∙ or_right _ _ (has_pushed t d.waiting)),
    inl (unlisted t d h.4),
  )
  told_queued (Enter wait) (Some slot) t h = absurd h.2
  told_queued (Ask ticket expired) None t h = (
    rw (h.5, h.4) (has_number-append ticket d.granted d.waiting ∙ or_right _ _ h.2),
    inr (ap Some (sym h.4)),
  )
  told_queued (Ask ticket expired) (Some slot) t h = absurd h.2
  told_queued (Again allowance) None t h = absurd h.1
  told_queued (Again allowance) (Some slot) t h = absurd h.1
  told_queued Discard None t h = absurd h
  told_queued Discard (Some slot) t h = absurd h
  told_queued Created None t h = absurd h
  told_queued Created (Some slot) t h = absurd h
  told_queued Failed None t h = absurd h
  told_queued Failed (Some slot) t h = absurd h
  told_queued Refused None t h = absurd h
  told_queued Refused (Some slot) t h = absurd h
  told_queued Back None t h = absurd h
  told_queued Back (Some slot) t h = absurd h
  told_queued (Withdraw ticket) None t h = absurd h
  told_queued (Withdraw ticket) (Some slot) t h = absurd h
  told_queued (Cancel held.Place) None t h = absurd h
  told_queued (Cancel held.Place) (Some slot) t h = absurd h
  told_queued (Cancel held.Creation) None t h = absurd h
  told_queued (Cancel held.Creation) (Some slot) t h = absurd h
  told_queued (Cancel held.Object) None t h = absurd h
  told_queued (Cancel held.Object) (Some slot) t h = absurd h
  told_queued Take None t h = absurd h
  told_queued Take (Some slot) t h = absurd h

  entry_told : (e : Entry) (t : ℕ) → IsStep d e d' → told_by e ≡ Some t → IsTold t (named_by e) d d'
  entry_told (Made step object reply) t h is = told_queued step object t (rw (told_waits reply t is) at h)
  entry_told (Owner step reply) t h is = absurd (let none : None ≡ Some t = is in cc)
  entry_told (Retain result) t h is = absurd (let none : None ≡ Some t = is in cc)

module _ (c : ℕ) (e : Entry) (d d' : DeskState ℕ) (has : Tickets) (s : IsOrderly d) (h : IsStep d e d')
    (own : IsNamed (named_by e) (has c)) (was : IsTicketed has d) where
  named_has : (t : ℕ) → named_by e ≡ Some t → has c ≡ Some t
  named_has t is = rw is at own

  other_than : (who t : ℕ) → (c == who) ≡ false → has who ≡ Some t → named_by e ≡ Some t → ⊥
  other_than who t other is asked =
      let same : (c == who) ≡ true = eq-eqb c who (was.one c who t (named_has t asked) is) in
      let differ : true ≡ false = sym same ∙ other in cc

  queued_after : (who t : ℕ) → tickets_after c e has who ≡ Some t → IsQueued t d'
  queued_after who t is =
      elim (cases_Bool (c == who)) [
        | inl mine ↦ (entry_told d d' e t h (rw mine at is)).0
        | inr other ↦
            let before : has who ≡ Some t = rw other at is in
            elim (queue_keeps t d d' e s h (was.queued who t before)) [
              | inl stays ↦ stays
              | inr asked ↦ absurd (other_than who t other before asked)
            ]
      ]

  -- who is told a ticket, nobody else has it
  alone : (who t : ℕ) → (c == who) ≡ false → told_by e ≡ Some t → has who ≡ Some t → ⊥
  alone who t other is before =
      elim (entry_told d d' e t h is).1 [
        | inl fresh ↦ fresh (was.queued who t before)
        | inr asked ↦ other_than who t other before asked
      ]

  one_after : (a b t : ℕ) → tickets_after c e has a ≡ Some t → tickets_after c e has b ≡ Some t → a ≡ b
  one_after a b t first second =
      elim (cases_Bool (c == a)) [
        | inl a_mine ↦
            elim (cases_Bool (c == b)) [
              | inl b_mine ↦ sym (eqb-true c a a_mine) ∙ eqb-true c b b_mine
              | inr b_other ↦ absurd (alone b t b_other (rw a_mine at first) (rw b_other at second))
            ]
        | inr a_other ↦
            elim (cases_Bool (c == b)) [
              | inl b_mine ↦ absurd (alone a t a_other (rw b_mine at second) (rw a_other at first))
              | inr b_other ↦ was.one a b t (rw a_other at first) (rw b_other at second)
            ]
      ]

  ticketed : IsTicketed (tickets_after c e has) d'
  ticketed = record { queued = queued_after; one = one_after }

-- a ticket that is named by who has it is in the queue
known_step : (c : ℕ) (d d' : DeskState ℕ) (has : Tickets) (step : Step) (object : Option ℕ) (reply : Reply)
    → Does d step object reply d' → IsNamed (named step) (has c) → IsTicketed has d
    → IsTicketKnown (Made step object reply)
known_step c d d' has (Ask ticket expired) None Unknown h own was = unlisted ticket d h.0 (was.queued c ticket own)
known_step c d d' has (Ask ticket expired) (Some slot) Unknown h own was = h.2
known_step c d d' has (Withdraw ticket) None Unknown h own was = unlisted ticket d h.0 (was.queued c ticket own)
known_step c d d' has (Withdraw ticket) (Some slot) Unknown h own was = h
known_step c d d' has _ _ _ h own was = tt

entry_known : (c : ℕ) (d d' : DeskState ℕ) (has : Tickets) (e : Entry) → IsStep d e d'
    → IsNamed (named_by e) (has c) → IsTicketed has d → IsTicketKnown e
entry_known c d d' has (Made step object reply) h own was = known_step c d d' has step object reply h own was
entry_known c d d' has (Owner step reply) h own was = tt
entry_known c d d' has (Retain result) h own was = tt

known_on : (d d' : DeskState ℕ) (has : Tickets) (log : List (ℕ × Entry)) → IsOrderly d → IsTicketed has d
    → Runs d (map (λ (x : ℕ × Entry). x.1) log) d' → NameOwn has log → AreTicketsKnown log
known_on d d' has [] s was runs own = tt
known_on d d' has ((c, e) ∷ log) s was (next, (step, later)) own = (
  entry_known c d next has e step own.0 was,
  known_on next d' (tickets_after c e has) log (keeps_order d next e s step).0
      (ticketed c e d next has s step own.0 was) later own.1,
)

ticketed_on : (d d' : DeskState ℕ) (has : Tickets) (log : List (ℕ × Entry)) → IsOrderly d → IsTicketed has d
    → Runs d (map (λ (x : ℕ × Entry). x.1) log) d' → NameOwn has log → IsTicketed (tickets_from has log) d'
ticketed_on d d' has [] s was runs own = rw runs was
ticketed_on d d' has ((c, e) ∷ log) s was (next, (step, later)) own =
    ticketed_on next d' (tickets_after c e has) log (keeps_order d next e s step).0
    (ticketed c e d next has s step own.0 was) later own.1

-- nobody waits in a pool that opens
opens_orderly : (limit min_idle : ℕ) (mode : QueueMode) (most : Option ℕ)
    → IsOrderly (bounded {O = ℕ} most (new_core limit mode 0 min_idle))
opens_orderly limit min_idle mode most = record { nobody_waits = λ opens some. refl; once = tt }

-- or under any ticket
none_ticketed : (d : DeskState ℕ) → IsTicketed nobody_waits d
none_ticketed d = record {
  queued = λ who t is. absurd (let none : None ≡ Some t = is in cc);
  one = λ a b t first second. absurd (let none : None ≡ Some t = first in cc);
}

pub tickets_known : EachTicketIsKnown
tickets_known limit min_idle mode most log d runs own =
    known_on _ d nobody_waits log (opens_orderly limit min_idle mode most) (none_ticketed _) runs own

pub waits_in_queue : EachWaitsInTheQueue
waits_in_queue limit min_idle mode most log d runs own =
    ticketed_on _ d nobody_waits log (opens_orderly limit min_idle mode most) (none_ticketed _) runs own
