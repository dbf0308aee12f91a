-- A `Gate` as its callers see it: one list of waiters, the earliest first, and whether it is closed.
use Rattle.std.specs.Prelude.{◌≡◌, ℕ, zero, suc, Bool, true, false, not, ◌==◌, ◌||◌, ◌&&◌, ◌+◌, ◌-◌, ◌≤◌, List, [], ◌∷◌}
use Rattle.std.specs.Prelude.{◌++◌, Option, Some, None, if◌then◌else◌, nat_lt, min, count_by, map, filter}
use Rattle.std.specs.List.{find}
use Rattle.std.specs.Option.{option_map, option_map_or}
use Rattle.deadpool_gate.specs.declared.gate.Ask.{Ask}
use Rattle.deadpool_gate.specs.declared.gate.Ask.TheVariants as ask
use Rattle.deadpool_gate.specs.declared.gate.Entry.{Entry}
use Rattle.deadpool_gate.specs.declared.gate.Entry.TheVariants as entry
use Rattle.deadpool_gate.specs.declared.gate.Withdrawn.{Withdrawn}
use Rattle.deadpool_gate.specs.declared.gate.Withdrawn.TheVariants as withdrawn

-- a listed waiter: the number on its ticket, whether it was given a place, whether it was told that its wait has ended
pub record Waiter : Type 0 where
  pub ticket : ℕ
  pub granted : Bool
  pub told : Bool

-- a gate: its waiters, and how many it can list before it has to find memory; the number on the next ticket; how many
-- accesses to waiters it has made so far, and what that count was when its last call began
pub record Line : Type 0 where
  pub waiters : List Waiter
  pub is_closed : Bool
  pub capacity : ℕ
  pub next_ticket : ℕ
  pub accesses : ℕ
  pub accesses_before : ℕ

-- who has just come holds a ticket and nothing else
abbrev pub arrived : ℕ → Waiter
arrived ticket = record { ticket = ticket; granted = false; told = false }

abbrev pub find_waiter : ℕ → List Waiter → Option Waiter
find_waiter ticket ws = find (λ w. w.ticket == ticket) ws

-- the first waiter that passes the test is dropped, and all others stay as they stand
abbrev pub remove_first : (Waiter → Bool) → List Waiter → List Waiter
remove_first test [] = []
remove_first test (w ∷ ws) = if test w then ws else w ∷ remove_first test ws

-- the first waiter that passes the test is changed in its place
abbrev pub change_first : (Waiter → Bool) → (Waiter → Waiter) → List Waiter → List Waiter
change_first test change [] = []
change_first test change (w ∷ ws) = if test w then change w ∷ ws else w ∷ change_first test change ws

abbrev pub without_waiter : ℕ → List Waiter → List Waiter
without_waiter ticket ws = remove_first (λ w. w.ticket == ticket) ws

abbrev pub with_place : Waiter → Waiter
with_place w = record w { granted = true }

-- a place is given to the earliest waiter without one
abbrev pub grant_next : List Waiter → List Waiter
grant_next ws = change_first (λ w. not w.granted) with_place ws

-- that, so many times over
abbrev pub grant : ℕ → List Waiter → List Waiter
grant zero ws = ws
grant (suc n) ws = grant_next (grant n ws)

abbrev pub granted_count : List Waiter → ℕ
granted_count ws = count_by (λ w. w.granted) ws

abbrev pub waiting_count : List Waiter → ℕ
waiting_count ws = count_by (λ w. not w.granted) ws

-- the tickets of those with a place, the earliest first
abbrev pub granted_tickets : List Waiter → List ℕ
granted_tickets ws = map (λ w. w.ticket) (filter (λ w. w.granted) ws)

-- the tickets of those without
abbrev pub waiting_tickets : List Waiter → List ℕ
waiting_tickets ws = map (λ w. w.ticket) (filter (λ w. not w.granted) ws)

-- the tickets of those that were not told that their wait has ended
abbrev pub unnotified_tickets : List Waiter → List ℕ
unnotified_tickets ws = map (λ w. w.ticket) (filter (λ w. not w.told) ws)

-- how many of the waiters get one of so many free places: a closed gate gives none
abbrev pub grant_count : Bool → ℕ → List Waiter → ℕ
grant_count is_closed room ws = if is_closed then 0 else min room (waiting_count ws)

-- the answer to an entry that does not have to join the list
abbrev pub entry_at_once : Bool → ℕ → Bool → Option Entry
entry_at_once is_closed room wait =
    if is_closed then Some entry.Closed else
    (if nat_lt 0 room then Some entry.Granted else (if wait then None else Some entry.Full))

-- an entry that joins stands last, under a ticket of its own; without memory for it nothing changes
abbrev pub Joins : List Waiter → Entry → List Waiter → Type 0
Joins old (entry.Waiting ticket) new = (find_waiter ticket old ≡ None) × (new ≡ old ++ arrived ticket ∷ [])
Joins old entry.OutOfMemory new = new ≡ old
Joins old entry.Closed new = ⊥
Joins old entry.Granted new = ⊥
Joins old entry.Full new = ⊥

-- what a waiter that asks is told, given what its ticket finds
abbrev pub answer_of : Bool → Option Waiter → Ask
answer_of is_closed None = ask.Unknown
answer_of is_closed (Some w) = if is_closed then ask.Closed else (if w.granted then ask.Granted else ask.Waiting)

-- who asks leaves the list, unless it has to wait on
abbrev pub asked : Bool → ℕ → List Waiter → List Waiter
asked is_closed ticket ws =
    if option_map_or (λ w. w.granted || is_closed) (find_waiter ticket ws) false then without_waiter ticket ws else ws

-- what a waiter that withdraws was, given what its ticket finds
abbrev pub withdrawn_as : Option Waiter → Withdrawn
withdrawn_as None = withdrawn.Unknown
withdrawn_as (Some w) = if w.granted then withdrawn.Granted else withdrawn.Waiting

-- the wait of this waiter has ended, and it was not told so
abbrev pub is_due : Bool → Waiter → Bool
is_due is_closed w = (w.granted || is_closed) && not w.told

abbrev pub with_word : Waiter → Waiter
with_word w = record w { told = true }

-- the earliest of them is told
abbrev pub tell_next : Bool → List Waiter → List Waiter
tell_next is_closed ws = change_first (is_due is_closed) with_word ws

-- its ticket
abbrev pub due_ticket : Bool → List Waiter → Option ℕ
due_ticket is_closed ws = option_map (λ w. w.ticket) (find (is_due is_closed) ws)

-- a count has risen, by at most so much
abbrev pub RisesAtMost : ℕ → ℕ → ℕ → Type 0
RisesAtMost most old new = (old ≤ new) × (new ≤ old + most)

-- how many accesses the last call made
abbrev pub touched : Line → ℕ
touched line = line.accesses - line.accesses_before

-- each waiter has a ticket of its own
abbrev pub IsApart : List Waiter → Type 0
IsApart [] = Unit {0}
IsApart (w ∷ ws) = (find_waiter w.ticket ws ≡ None) × IsApart ws

abbrev pub NonePass : (Waiter → Bool) → List Waiter → Type 0
NonePass test [] = Unit {0}
NonePass test (w ∷ ws) = (test w ≡ false) × NonePass test ws

-- nobody passes behind one that does not
abbrev pub IsFront : (Waiter → Bool) → List Waiter → Type 0
IsFront test [] = Unit {0}
IsFront test (w ∷ ws) = (test w ≡ false → NonePass test ws) × IsFront test ws

-- who was told of the end of its wait has a place, unless the gate is closed
abbrev pub ToldAreDone : Bool → List Waiter → Type 0
ToldAreDone is_closed [] = Unit {0}
ToldAreDone is_closed (w ∷ ws) = (w.told ≡ true → (w.granted || is_closed) ≡ true) × ToldAreDone is_closed ws

-- what is true of the list of any gate
pub record IsLine (is_closed : Bool) (ws : List Waiter) : Type 0 where
  pub apart : IsApart ws
  pub granted_front : IsFront (λ w. w.granted) ws
  pub told_front : IsFront (λ w. w.told) ws
  pub told_done : ToldAreDone is_closed ws
