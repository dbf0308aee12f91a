-- What the steps of a gate do to the core that holds it, which stays settled.
use Rattle.deadpool_desk.proofs.Names.{◌≡◌, ℕ, ◌+◌, ◌-◌, ◌≤◌, true, false, not, [], ◌∷◌, ◌++◌, length, take, drop}
use Rattle.deadpool_desk.proofs.Names.{max, refl, arith, Line, arrived, without_waiter, granted_tickets}
use Rattle.deadpool_desk.proofs.Names.{waiting_tickets, unnotified_tickets, IsLine, has_number, without_number}
use Rattle.deadpool_desk.proofs.Names.{granted_tickets-arrived, waiting_tickets-arrived, granted_tickets-without_waiter}
use Rattle.deadpool_desk.proofs.Names.{waiting_tickets-without_waiter, unnotified_tickets-arrived}
use Rattle.deadpool_desk.proofs.Names.{unnotified_tickets-without_waiter, length-both_tickets, without_number-shorter}
use Rattle.deadpool_desk.proofs.Names.{without_number-fewer, desk_of, CoreInvariant, settled}
use Rattle.deadpool_desk.proofs.Names.{is_listed, unqueued, grants_at}
use Rattle.deadpool_desk.proofs.Names.{held_at, IsSettled, Inside, ap}
use Rattle.deadpool_desk.proofs.Names.{without_number-same, without_number-one}
use Rattle.deadpool_desk.proofs.Names.{IsOnce-front, DeskState, places, joined_served, left_served, once-without}
use Rattle.deadpool_desk.proofs.Names.{NobodyWaits, queue_of, length-append, ◌<◌, IsFull, KeepsRoom}

-- What comes to a queue, and what leaves it, leaves a settled state settled.
module _ {O : Type 0} (d : DeskState O) (ticket : ℕ) (s : IsSettled d) where
  -- if a get joins the queue, where no place is free
  joined_settled : d.limit ≤ places d → length d.waiting < d.max_waiting → is_listed ticket d ≡ false
      → IsSettled (record d { waiting = d.waiting ++ ticket ∷ [] })
  joined_settled full roomy new = record {
    within = s.within;
    served = joined_served _ _ _ s.served ticket (omega (arith, full)) new;
    few = omega (arith, length-append d.waiting (ticket ∷ []), roomy);
  }

  -- no more wait once one has left
  few-unqueued : length (without_number ticket d.waiting) ≤ d.max_waiting
  few-unqueued = omega (arith, without_number-shorter ticket d.waiting, s.few)

  -- if a get leaves the queue that has no place
  left_settled : has_number ticket d.granted ≡ false → IsSettled (unqueued ticket d)
  left_settled has =
      let same = ap length (without_number-same ticket d.granted has) in
      record {
        within = s.within;
        served = left_served _ _ _ s.served ticket _ (λ is_open free. omega (arith, same, free));
        few = few-unqueued;
      }

  -- or if the pool has closed
  closed_settled : d.is_open ≡ false → IsSettled (unqueued ticket d)
  closed_settled shut = record {
    within = s.within;
    served = left_served _ _ _ s.served ticket _ (λ is_open free. cc);
    few = few-unqueued;
  }

  -- if a get leaves the queue that has a place, which then is one of those going
  granted_settled : IsSettled (record (unqueued ticket d) { going = d.going + 1 })
  granted_settled =
      let one = without_number-one ticket d.granted (IsOnce-front d.granted d.waiting s.served.once) in
      record {
        within = s.within;
        served = left_served _ _ _ s.served ticket _ (λ is_open free. omega (arith, one, free));
        few = few-unqueued;
      }

module _ {T : Type 0} (core : Inside T) (gate : Line) where
  abbrev with_gate : Inside T
  with_gate = record core { gate = gate }

  -- one more place is of a get that goes on
  abbrev with_going : Inside T
  with_going = record with_gate { places = record core.places { going = core.places.going + 1 } }

  -- the state when the line is as it was
  pub desk_of-same : gate.waiters ≡ core.gate.waiters → gate.is_closed ≡ core.gate.is_closed
      → desk_of with_gate ≡ desk_of core
  desk_of-same same closed = rw (same, closed) refl

  -- a core keeps what it has to
  pub CoreInvariant-same : CoreInvariant core → gate.waiters ≡ core.gate.waiters → gate.is_closed ≡ core.gate.is_closed
      → CoreInvariant with_gate
  CoreInvariant-same sound same closed =
      record {
        within = sound.within;
        small = sound.small;
        held = rw same sound.held;
        numbered = sound.numbered;
        settled = rw (same, closed) sound.settled;
      }

  -- when a waiter came
  pub desk_of-arrived : (t : ℕ) → gate.waiters ≡ core.gate.waiters ++ arrived t ∷ []
      → gate.is_closed ≡ core.gate.is_closed
      → desk_of with_gate ≡ record (desk_of core) { waiting = waiting_tickets core.gate.waiters ++ t ∷ [] }
  desk_of-arrived t longer closed =
      rw (longer, closed, granted_tickets-arrived t core.gate.waiters, waiting_tickets-arrived t core.gate.waiters) refl

  pub CoreInvariant-joined : (t : ℕ) → gate.waiters ≡ core.gate.waiters ++ arrived t ∷ []
      → gate.is_closed ≡ core.gate.is_closed → CoreInvariant core
      → core.places.limit ≤ held_at core.gate core.places
      → length (waiting_tickets core.gate.waiters) < core.max_waiting → is_listed t (desk_of core) ≡ false
      → CoreInvariant with_gate
  CoreInvariant-joined t longer closed sound full roomy new = record {
    within = sound.within;
    small = sound.small;
    held = rw (longer, granted_tickets-arrived t core.gate.waiters) sound.held;
    numbered = sound.numbered;
    settled = rw (
      longer,
      closed,
      granted_tickets-arrived t core.gate.waiters,
      waiting_tickets-arrived t core.gate.waiters,
    ) (joined_settled (desk_of core) t sound.settled full roomy new);
  }

  -- what becomes of those that were not told: one that comes is the last of them
  pub unnotified-arrived : (t : ℕ) → gate.waiters ≡ core.gate.waiters ++ arrived t ∷ []
      → unnotified_tickets gate.waiters ≡ unnotified_tickets core.gate.waiters ++ t ∷ []
  unnotified-arrived t longer = rw longer (unnotified_tickets-arrived t core.gate.waiters)

  -- a line with no room for one more is as long as the two lists of tickets
  pub no_room : IsFull gate.capacity (length gate.waiters)
      → IsFull gate.capacity (length (granted_tickets gate.waiters) + length (waiting_tickets gate.waiters))
  no_room full = rw (length-both_tickets gate.waiters) full

  -- what a queue keeps of its room, by the two lists
  pub room_kept : (room : ℕ) → KeepsRoom (length gate.waiters) gate.capacity room
      → KeepsRoom (length (granted_tickets gate.waiters) + length (waiting_tickets gate.waiters)) gate.capacity room
  room_kept room keeps = rw (length-both_tickets gate.waiters) keeps

  pub below_room : (ticket : ℕ) → (length gate.waiters < gate.capacity → ticket < gate.capacity)
      → length (granted_tickets gate.waiters) + length (waiting_tickets gate.waiters) < gate.capacity
      → ticket < gate.capacity
  below_room ticket below = rw (length-both_tickets gate.waiters) below

  -- when the free places are granted
  pub desk_of-settled : (after : Line) → granted_tickets after.waiters
      ≡ granted_tickets gate.waiters ++ take (grants_at gate core.places) (waiting_tickets gate.waiters)
      → waiting_tickets after.waiters ≡ drop (grants_at gate core.places) (waiting_tickets gate.waiters)
      → after.is_closed ≡ gate.is_closed
      → desk_of (record core { gate = after }) ≡ settled (desk_of with_gate)
  desk_of-settled after granted waiting closed = rw (granted, waiting, closed) refl

  -- when a waiter left
  module _ (t : ℕ) (line : IsLine core.gate.is_closed core.gate.waiters)
      (gone : gate.waiters ≡ without_waiter t core.gate.waiters) where
    granted_left : granted_tickets gate.waiters ≡ without_number t (granted_tickets core.gate.waiters)
    granted_left = rw gone (granted_tickets-without_waiter t core.gate.waiters line.apart)

    waiting_left : waiting_tickets gate.waiters ≡ without_number t (waiting_tickets core.gate.waiters)
    waiting_left = rw gone (waiting_tickets-without_waiter t core.gate.waiters line.apart)

    pub desk_of-unqueued : gate.is_closed ≡ core.gate.is_closed → desk_of with_gate ≡ unqueued t (desk_of core)
    desk_of-unqueued closed = rw (closed, granted_left, waiting_left) refl

    -- it is none of those that were not told
    pub unnotified-without : unnotified_tickets gate.waiters ≡ without_number t (unnotified_tickets core.gate.waiters)
    unnotified-without = rw gone (unnotified_tickets-without_waiter t core.gate.waiters line.apart)

    pub held-without : CoreInvariant core → held_at gate core.places ≤ core.ring.capacity
    held-without sound =
        let fewer = without_number-shorter t (granted_tickets core.gate.waiters) in
        rw granted_left (omega (arith, fewer, sound.held))

    CoreInvariant-without : CoreInvariant core → gate.is_closed ≡ core.gate.is_closed
        → IsSettled (unqueued t (desk_of core))
        → CoreInvariant with_gate
    CoreInvariant-without sound closed settled = record {
      within = sound.within;
      small = sound.small;
      held = held-without sound;
      numbered = sound.numbered;
      settled = rw (closed, granted_left, waiting_left) settled;
    }

    pub CoreInvariant-left : CoreInvariant core → gate.is_closed ≡ core.gate.is_closed
        → has_number t (granted_tickets core.gate.waiters) ≡ false → CoreInvariant with_gate
    CoreInvariant-left sound closed has = CoreInvariant-without sound closed
        (left_settled (desk_of core) t sound.settled has)

    pub CoreInvariant-closed : CoreInvariant core → gate.is_closed ≡ core.gate.is_closed → (desk_of core).is_open
        ≡ false
        → CoreInvariant with_gate
    CoreInvariant-closed sound closed shut = CoreInvariant-without sound closed
        (closed_settled (desk_of core) t sound.settled shut)

    pub CoreInvariant-going : CoreInvariant core → gate.is_closed ≡ core.gate.is_closed
        → has_number t (granted_tickets core.gate.waiters) ≡ true → CoreInvariant with_going
    CoreInvariant-going sound closed has =
        let fewer = without_number-fewer t (granted_tickets core.gate.waiters) has in
        record {
          within = sound.within;
          small = sound.small;
          held = rw granted_left (omega (arith, fewer, sound.held));
          numbered = sound.numbered;
          settled = rw (closed, granted_left, waiting_left) (granted_settled (desk_of core) t sound.settled);
        }

    -- the get that had the place is then one of those going, and the state without it is that without the waiter
    pub desk_of-going : gate.is_closed ≡ core.gate.is_closed
        → record (desk_of with_going) { going = core.places.going + 1 - 1 } ≡ unqueued t (desk_of core)
    desk_of-going closed =
        let one_less : core.places.going + 1 - 1 ≡ core.places.going = omega arith in
        rw (closed, granted_left, waiting_left, one_less) refl

    -- a core keeps what it has to once the free places are granted
    pub CoreInvariant-settled : CoreInvariant core → (after : Line)
        → held_at after core.places ≤ max (held_at gate core.places) core.places.limit
        → granted_tickets after.waiters ++ waiting_tickets after.waiters
        ≡ granted_tickets gate.waiters ++ waiting_tickets gate.waiters
        → length (waiting_tickets after.waiters) ≤ length (waiting_tickets gate.waiters)
        → NobodyWaits (not after.is_closed) (core.places.limit - held_at after core.places) (queue_of after.waiters)
        → CoreInvariant (record core { gate = after })
    CoreInvariant-settled sound after held queue fewer_wait nobody_waits =
        let fewer = held-without sound in
        let left = without_number-shorter t (waiting_tickets core.gate.waiters) in
        let few : length (waiting_tickets gate.waiters) ≤ core.max_waiting =
        rw waiting_left (omega (arith, left, sound.settled.few)) in
        record {
          within = sound.within;
          small = sound.small;
          held = omega (arith, fewer, held, sound.within);
          numbered = sound.numbered;
          settled = record {
            within = sound.settled.within;
            served = record {
              nobody_waits = nobody_waits;
              once = rw (queue, granted_left, waiting_left)
                  (once-without t (queue_of core.gate.waiters) sound.settled.served.once);
            };
            few = omega (arith, fewer_wait, few);
          };
        }
