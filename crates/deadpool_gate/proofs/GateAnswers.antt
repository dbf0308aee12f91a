-- What a gate's answers say of its two lists of tickets, those with a place and those that wait for one.
use Rattle.std.proofs.Common.{◌≡◌, ◌≢◌, ℕ, Bool, true, false, not, ◌||◌, cond, nat_lt, min, List, [], ◌∷◌, ◌++◌, length}
use Rattle.std.proofs.Common.{Option, Some, None, refl, ap, inl, inr, arith}
use Rattle.std.specs.Prelude.{IfSome, IfNone, ◌==◌}
use Rattle.std.proofs.lemmas.Bool.{cases_Bool, ltb-false, or_left, or_right}
use Rattle.deadpool_gate.specs.declared.gate.Ask.TheVariants as ask
use Rattle.deadpool_gate.specs.declared.gate.Entry.TheVariants as entry
use Rattle.deadpool_gate.specs.declared.gate.Withdrawn.TheVariants as withdrawn
use Rattle.deadpool_gate.specs.Gate.{Waiter, arrived, find_waiter, without_waiter, granted_tickets, waiting_tickets}
use Rattle.deadpool_gate.specs.Gate.{grant_count, entry_at_once, Joins, answer_of, asked, withdrawn_as, IsLine}
use Rattle.deadpool_gate.specs.Numbers.{has_number}
use Rattle.deadpool_gate.proofs.GateListed.{find_none-head, find_none-tail}
use Rattle.deadpool_gate.proofs.GateTickets.{has_number_unlisted, has_number_granted, has_number_waiting}
use Rattle.deadpool_gate.proofs.GateTickets.{waiting_count-length}

-- whether a ticket is in one of the two lists
abbrev pub has_ticket : ℕ → List Waiter → Bool
has_ticket t ws = has_number t (granted_tickets ws) || has_number t (waiting_tickets ws)

-- a closed gate grants nothing, and an open one as many as wait and find room
pub grant_count-length : (is_closed : Bool) (room : ℕ) (ws : List Waiter)
    → grant_count is_closed room ws ≡ cond (not is_closed) (min (length (waiting_tickets ws)) room) 0
grant_count-length true room ws = refl
grant_count-length false room ws = rw (← waiting_count-length ws) (omega arith)

-- a ticket under which nobody is found is in no list
pub unlisted : (t : ℕ) (ws : List Waiter) → find_waiter t ws ≡ None → has_ticket t ws ≡ false
unlisted t ws is = let none = has_number_unlisted t ws is in rw (none.0, none.1) refl

-- if nobody has the ticket, nobody leaves
without_waiter-none : (t : ℕ) (ws : List Waiter) → find_waiter t ws ≡ None → without_waiter t ws ≡ ws
without_waiter-none t [] none = refl
without_waiter-none t (w ∷ ws) none =
    let other = find_none-head (λ v. v.ticket == t) w ws none in
    rw other (ap (λ vs. w ∷ vs) (without_waiter-none t ws (find_none-tail (λ v. v.ticket == t) w ws none)))

-- what one that is found is told, by whether the gate is closed and whether it has a place
told_granted : (c granted : Bool) → ask.Granted ≡ cond c ask.Closed (cond granted ask.Granted ask.Waiting)
    → (c ≡ false) × (granted ≡ true)
told_granted true granted answer = cc
told_granted false true answer = (refl, refl)
told_granted false false answer = cc

told_waiting : (c granted : Bool) → ask.Waiting ≡ cond c ask.Closed (cond granted ask.Granted ask.Waiting)
    → (c ≡ false) × (granted ≡ false)
told_waiting true granted answer = cc
told_waiting false true answer = cc
told_waiting false false answer = (refl, refl)

told_closed : (c granted : Bool) → ask.Closed ≡ cond c ask.Closed (cond granted ask.Granted ask.Waiting) → c ≡ true
told_closed true granted answer = refl
told_closed false true answer = cc
told_closed false false answer = cc

told_something : (c granted : Bool) → ask.Unknown ≢ cond c ask.Closed (cond granted ask.Granted ask.Waiting)
told_something true granted = λ answer. cc
told_something false true = λ answer. cc
told_something false false = λ answer. cc

was_something : (granted : Bool) → withdrawn.Unknown ≢ cond granted withdrawn.Granted withdrawn.Waiting
was_something true = λ answer. cc
was_something false = λ answer. cc

module _ (c : Bool) (t : ℕ) (ws : List Waiter) (line : IsLine c ws) where
  -- a ticket under which somebody is found is in one of the lists
  listed : (w : Waiter) → find_waiter t ws ≡ Some w → has_ticket t ws ≡ true
  listed w is =
      elim (cases_Bool w.granted) [
        | inl has ↦ or_left _ _ (has_number_granted t ws w line.apart is has).0
        | inr lacks ↦ or_right _ _ (has_number_waiting t ws w line.apart is lacks).1
      ]

  -- one that is told of its place had one, and leaves
  pub asked-granted : ask.Granted ≡ answer_of c (find_waiter t ws)
      → (c ≡ false) × (has_number t (granted_tickets ws) ≡ true) × (asked c t ws ≡ without_waiter t ws)
  asked-granted answer = by_cases (find_waiter t ws) refl
    where
      by_cases : (o : Option Waiter) → find_waiter t ws ≡ o
          → (c ≡ false) × (has_number t (granted_tickets ws) ≡ true) × (asked c t ws ≡ without_waiter t ws)
      by_cases None is = absurd (let told : ask.Granted ≡ ask.Unknown = rw is at answer in cc)
      by_cases (Some w) is =
          let was = told_granted c w.granted (rw is at answer) in
          (was.0, (has_number_granted t ws w line.apart is was.1).0, rw (is, was.1) refl)

  -- one that is told to wait has no place, and stays
  pub asked-waiting : ask.Waiting ≡ answer_of c (find_waiter t ws) → (c ≡ false)
      × (has_number t (granted_tickets ws) ≡ false) × (has_number t (waiting_tickets ws) ≡ true) × (asked c t ws ≡ ws)
  asked-waiting answer = by_cases (find_waiter t ws) refl
    where
      by_cases : (o : Option Waiter) → find_waiter t ws ≡ o → (c ≡ false) × (has_number t (granted_tickets ws) ≡ false)
          × (has_number t (waiting_tickets ws) ≡ true) × (asked c t ws ≡ ws)
      by_cases None is = absurd (let told : ask.Waiting ≡ ask.Unknown = rw is at answer in cc)
      by_cases (Some w) is =
          let was = told_waiting c w.granted (rw is at answer) in
          let has = has_number_waiting t ws w line.apart is was.1 in
          (was.0, has.0, has.1, rw (is, was.1, was.0) refl)

  -- one that hears that the gate is closed leaves
  pub asked-closed : ask.Closed ≡ answer_of c (find_waiter t ws)
      → (c ≡ true) × (has_ticket t ws ≡ true) × (asked c t ws ≡ without_waiter t ws)
  asked-closed answer = by_cases (find_waiter t ws) refl
    where
      by_cases : (o : Option Waiter) → find_waiter t ws ≡ o
          → (c ≡ true) × (has_ticket t ws ≡ true) × (asked c t ws ≡ without_waiter t ws)
      by_cases None is = absurd (let told : ask.Closed ≡ ask.Unknown = rw is at answer in cc)
      by_cases (Some w) is =
          let was = told_closed c w.granted (rw is at answer) in
          (was, listed w is, rw (is, or_right w.granted c was) refl)

  -- one that is unknown is in no list, and nothing changes
  pub asked-unknown : ask.Unknown ≡ answer_of c (find_waiter t ws) → (has_ticket t ws ≡ false) × (asked c t ws ≡ ws)
  asked-unknown answer = by_cases (find_waiter t ws) refl
    where
      by_cases : (o : Option Waiter) → find_waiter t ws ≡ o → (has_ticket t ws ≡ false) × (asked c t ws ≡ ws)
      by_cases None is = (unlisted t ws is, rw is refl)
      by_cases (Some w) is = absurd (told_something c w.granted (rw is at answer))

  -- one that withdraws and is unknown is in no list, and nothing changes
  pub withdrawn-unknown : withdrawn.Unknown ≡ withdrawn_as (find_waiter t ws)
      → (has_ticket t ws ≡ false) × (without_waiter t ws ≡ ws)
  withdrawn-unknown answer = by_cases (find_waiter t ws) refl
    where
      by_cases : (o : Option Waiter) → find_waiter t ws ≡ o → (has_ticket t ws ≡ false) × (without_waiter t ws ≡ ws)
      by_cases None is = (unlisted t ws is, without_waiter-none t ws is)
      by_cases (Some w) is = absurd (was_something w.granted (rw is at answer))

  -- any other is in one of the lists
  pub withdrawn-known : withdrawn_as (find_waiter t ws) ≢ withdrawn.Unknown → has_ticket t ws ≡ true
  withdrawn-known answer = by_cases (find_waiter t ws) refl
    where
      by_cases : (o : Option Waiter) → find_waiter t ws ≡ o → has_ticket t ws ≡ true
      by_cases None is = absurd (answer (rw is refl))
      by_cases (Some w) is = listed w is

-- what an entry that has to wait rules out
joins_last : (c some_room wait : Bool) (t : ℕ) (before after : List Waiter)
    → IfSome (cond c (Some entry.Closed) (cond some_room (Some entry.Granted) (cond wait None (Some entry.Full))))
    (λ answer. entry.Waiting t ≡ answer)
    → IfNone (cond c (Some entry.Closed) (cond some_room (Some entry.Granted) (cond wait None (Some entry.Full))))
    (Joins before (entry.Waiting t) after)
    → (c ≡ false) × (some_room ≡ false) × (wait ≡ true) × (find_waiter t before ≡ None)
    × (after ≡ before ++ arrived t ∷ [])
joins_last true b wait t before after at_once joins = absurd (let told : entry.Waiting t ≡ entry.Closed = at_once in cc)
joins_last false true wait t before after at_once joins =
    absurd (let told : entry.Waiting t ≡ entry.Granted = at_once in cc)
joins_last false false true t before after at_once joins = (refl, refl, refl, joins.0, joins.1)
joins_last false false false t before after at_once joins =
    absurd (let told : entry.Waiting t ≡ entry.Full = at_once in cc)

-- one that joins the line found an open gate and no room, and is willing to wait
pub entered-waiting : (c : Bool) (room : ℕ) (wait : Bool) (t : ℕ) (before after : List Waiter)
    → IfSome (entry_at_once c room wait) (λ answer. entry.Waiting t ≡ answer)
    → IfNone (entry_at_once c room wait) (Joins before (entry.Waiting t) after)
    → (c ≡ false) × (room ≡ 0) × (wait ≡ true) × (find_waiter t before ≡ None) × (after ≡ before ++ arrived t ∷ [])
entered-waiting c room wait t before after at_once joins =
    let was = joins_last c (nat_lt 0 room) wait t before after at_once joins in
    (was.0, omega (arith, ltb-false 0 room was.1), was.2, was.3, was.4)

-- nor does one that found no memory, and the line is as it was
joins_none : (c some_room wait : Bool) (before after : List Waiter)
    → IfSome (cond c (Some entry.Closed) (cond some_room (Some entry.Granted) (cond wait None (Some entry.Full))))
    (λ answer. entry.OutOfMemory ≡ answer)
    → IfNone (cond c (Some entry.Closed) (cond some_room (Some entry.Granted) (cond wait None (Some entry.Full))))
    (Joins before entry.OutOfMemory after)
    → (c ≡ false) × (some_room ≡ false) × (wait ≡ true) × (after ≡ before)
joins_none true b wait before after at_once joins = absurd (let told : entry.OutOfMemory ≡ entry.Closed = at_once in cc)
joins_none false true wait before after at_once joins =
    absurd (let told : entry.OutOfMemory ≡ entry.Granted = at_once in cc)
joins_none false false true before after at_once joins = (refl, refl, refl, joins)
joins_none false false false before after at_once joins =
    absurd (let told : entry.OutOfMemory ≡ entry.Full = at_once in cc)

pub entered-without_memory : (c : Bool) (room : ℕ) (wait : Bool) (before after : List Waiter)
    → IfSome (entry_at_once c room wait) (λ answer. entry.OutOfMemory ≡ answer)
    → IfNone (entry_at_once c room wait) (Joins before entry.OutOfMemory after)
    → (c ≡ false) × (room ≡ 0) × (wait ≡ true) × (after ≡ before)
entered-without_memory c room wait before after at_once joins =
    let was = joins_none c (nat_lt 0 room) wait before after at_once joins in
    (was.0, omega (arith, ltb-false 0 room was.1), was.2, was.3)
