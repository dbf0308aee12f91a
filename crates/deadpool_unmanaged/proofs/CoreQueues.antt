-- What the steps of a gate do to the queue that its waiters are.
use Rattle.deadpool_unmanaged.proofs.Words.{◌≡◌, ℕ, ◌+◌, ◌-◌, ◌≤◌, Bool, not, List, [], ◌∷◌, ◌++◌, length, refl, ap}
use Rattle.deadpool_unmanaged.proofs.Words.{◌∙◌, arith, true, false, Option, None, Some, IsSome, zero, suc, slice_get}
use Rattle.deadpool_unmanaged.proofs.Words.{Waiter, Line, arrived, without_waiter, granted_tickets, waiting_tickets}
use Rattle.deadpool_unmanaged.proofs.Words.{unnotified_tickets, IsApart, served}
use Rattle.deadpool_unmanaged.proofs.Words.{still_unnotified, unnotified_tickets-arrived}
use Rattle.deadpool_unmanaged.proofs.Words.{unnotified_tickets-without_waiter, queue_of, queue-without, queue-joined}
use Rattle.deadpool_unmanaged.proofs.Words.{queue-length, free_of, NobodyWaits, state_of, IsFull, KeepsRoom, listed}
use Rattle.deadpool_unmanaged.proofs.Words.{free_objects, ◌<◌}
use Rattle.deadpool_unmanaged.proofs.Words.{settled, last_idle, without_get, without_add, with_get, with_add, subst}
use Rattle.deadpool_unmanaged.proofs.Words.{free_room, sym, State, Inside}
use Rattle.std.specs.Option.{option_to_list}
use Rattle.deadpool_unmanaged.proofs.Kept.{settled-gets, settled-adds}

-- what a line knows of its room, the queue does
pub queue-full : (room : ℕ) (ws : List Waiter) → IsFull room (length ws) → IsFull room (listed (queue_of ws))
queue-full room ws full = rw (queue-length ws) full

pub queue-below : (room ticket : ℕ) (ws : List Waiter) → (length ws < room → ticket < room)
    → listed (queue_of ws) < room → ticket < room
queue-below room ticket ws below = rw (queue-length ws) below

pub queue-keeps : (room after : ℕ) (ws : List Waiter) → KeepsRoom (length ws) room after
    → KeepsRoom (listed (queue_of ws)) room after
queue-keeps room after ws keeps = rw (queue-length ws) keeps

-- nothing stands past the end
pub past_end : {T : Type 0} (xs : List T) (n : ℕ) → slice_get xs n ≡ None → length xs ≤ n
past_end [] n none = omega arith
past_end (x ∷ xs) zero none = cc
past_end (x ∷ xs) (suc n) none = let rest = past_end xs n none in omega (arith, rest)

-- so nothing goes out only if nothing is idle
pub none_idle : {T : Type 0} (idle : List T) → last_idle idle ≡ None → idle ≡ []
none_idle [] none = refl
none_idle (x ∷ xs) none = let past = past_end (x ∷ xs) (length (x ∷ xs) - 1) none in
    absurd (let least : length xs + 1 ≤ length xs = omega (arith, past) in omega arith)

-- a closed line is not open
pub closed_or_open : (c : Bool) → c ≡ true → not c ≡ true → ⊥
closed_or_open true closed is_open = cc
closed_or_open false closed is_open = cc

-- what is in a hand that is not empty
pub in_hand : {T : Type 0} (hand : Option T) → IsSome hand → (value : T) × (hand ≡ Some value)
in_hand None some = cc
in_hand (Some value) some = (value, refl)

pub joined_idle : {T : Type 0} (idle after : List T) (hand : Option T) (value : T) → hand ≡ Some value
    → after ≡ idle ++ option_to_list hand → after ≡ idle ++ value ∷ []
joined_idle idle after hand value has joins = joins ∙ ap (λ o. idle ++ option_to_list o) has

module _ {T : Type 0} (core : Inside T) (gate : Line) where
  abbrev with_gets : Inside T
  with_gets = record core { gets = gate }

  abbrev with_adds : Inside T
  with_adds = record core { adds = gate }

  -- the line of the gets is as it was, or a get has left it, or has joined it, or was told
  pub gets-same : gate.waiters ≡ core.gets.waiters → gate.is_closed ≡ core.gets.is_closed
      → state_of with_gets ≡ state_of core
  gets-same same closed = rw (same, closed) refl

  pub gets-without : (t : ℕ) → IsApart core.gets.waiters → gate.waiters ≡ without_waiter t core.gets.waiters
      → gate.is_closed ≡ core.gets.is_closed
      → state_of with_gets ≡ without_get t (state_of core)
  gets-without t apart gone closed =
      rw (
        gone,
        closed,
        queue-without t core.gets.waiters apart,
        unnotified_tickets-without_waiter t core.gets.waiters apart,
      ) refl

  pub gets-joined : (t : ℕ) → gate.waiters ≡ core.gets.waiters ++ arrived t ∷ [] → gate.is_closed ≡ core.gets.is_closed
      → state_of with_gets ≡ with_get t (state_of core)
  gets-joined t longer closed =
      rw (longer, closed, queue-joined t core.gets.waiters, unnotified_tickets-arrived t core.gets.waiters) refl

  pub gets-told : (named : Option ℕ) → granted_tickets gate.waiters ≡ granted_tickets core.gets.waiters
      → waiting_tickets gate.waiters ≡ waiting_tickets core.gets.waiters
      → unnotified_tickets gate.waiters ≡ still_unnotified named (unnotified_tickets core.gets.waiters)
      → gate.is_closed ≡ core.gets.is_closed
      → state_of with_gets ≡ record (state_of core)
      { unnotified_gets = still_unnotified named (unnotified_tickets core.gets.waiters) }
  gets-told named granted waiting unnotified closed = rw (granted, waiting, unnotified, closed) refl

  -- the same of the adds
  pub adds-same : gate.waiters ≡ core.adds.waiters → state_of with_adds ≡ state_of core
  adds-same same = rw same refl

  pub adds-without : (t : ℕ) → IsApart core.adds.waiters → gate.waiters ≡ without_waiter t core.adds.waiters
      → state_of with_adds ≡ without_add t (state_of core)
  adds-without t apart gone =
      rw (gone, queue-without t core.adds.waiters apart, unnotified_tickets-without_waiter t core.adds.waiters apart)
      refl

  pub adds-joined : (t : ℕ) → gate.waiters ≡ core.adds.waiters ++ arrived t ∷ []
      → state_of with_adds ≡ with_add t (state_of core)
  adds-joined t longer = rw (longer, queue-joined t core.adds.waiters, unnotified_tickets-arrived t core.adds.waiters)
      refl

  pub adds-told : (named : Option ℕ) → granted_tickets gate.waiters ≡ granted_tickets core.adds.waiters
      → waiting_tickets gate.waiters ≡ waiting_tickets core.adds.waiters
      → unnotified_tickets gate.waiters ≡ still_unnotified named (unnotified_tickets core.adds.waiters)
      → state_of with_adds ≡ record (state_of core)
      { unnotified_adds = still_unnotified named (unnotified_tickets core.adds.waiters) }
  adds-told named granted waiting unnotified = rw (granted, waiting, unnotified) refl

  -- one line is settled, where nobody in the other waits for what is free
  pub gets-settled : (after : Line) (total : ℕ) (d : State T) → total ≡ length core.idle.items → state_of with_gets ≡ d
      → queue_of after.waiters
      ≡ served (not gate.is_closed) (free_of total 0 (queue_of gate.waiters)) (queue_of gate.waiters)
      → unnotified_tickets after.waiters ≡ unnotified_tickets gate.waiters → after.is_closed ≡ gate.is_closed
      → NobodyWaits d.is_open (free_room d) d.adds → state_of (record core { gets = after }) ≡ settled d
  gets-settled after total d all is queue unnotified closed room =
      let quiet = subst (λ e. NobodyWaits e.is_open (free_room e) e.adds) (sym is) room in
      let whole : total - 0 ≡ length core.idle.items = omega (arith, all) in
      subst (λ e. state_of (record core { gets = after }) ≡ settled e) is
      (rw (queue, unnotified, closed, whole) (settled-gets (state_of with_gets) quiet))

  pub adds-settled : (after : Line) (total : ℕ) (d : State T)
      → total ≡ core.limit - (length core.idle.items + core.outside) → state_of with_adds ≡ d
      → gate.is_closed ≡ core.gets.is_closed
      → queue_of after.waiters
      ≡ served (not gate.is_closed) (free_of total 0 (queue_of gate.waiters)) (queue_of gate.waiters)
      → unnotified_tickets after.waiters ≡ unnotified_tickets gate.waiters
      → NobodyWaits d.is_open (free_objects d) d.gets
      → state_of (record core { adds = after }) ≡ settled d
  adds-settled after total d all is closed queue unnotified objects =
      let quiet = subst (λ e. NobodyWaits e.is_open (free_objects e) e.gets) (sym is) objects in
      let whole : total - 0 ≡ core.limit - (length core.idle.items + core.outside) = omega (arith, all) in
      subst (λ e. state_of (record core { adds = after }) ≡ settled e) is
      (rw (queue, unnotified, closed, whole) (settled-adds (state_of with_adds) quiet))
