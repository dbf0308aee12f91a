-- The state of a core: its desk, and beside it what its queue knows that the desk does not.
use Rattle.std.specs.Prelude.{ℕ, ◌+◌, ◌-◌, ◌≤◌, ◌^◌, List, length, min}
use Rattle.deadpool_gate.specs.Room.{most_next}
use Rattle.deadpool_desk.specs.DeskState.{DeskState}
use Rattle.deadpool_desk.specs.declared.slot.Slot.{Slot}

pub record CoreState (T : Type 0) : Type 0 where
  pub desk : DeskState (Slot T)
  -- tickets of gets in the queue that were not told that their wait has ended, in order of arrival
  pub unnotified : List ℕ
  -- how many gets the queue can list before it has to find memory
  pub queue_room : ℕ
  -- the number of the ticket that the next get in the queue has
  pub next_ticket : ℕ

module _ {T : Type 0} where
  -- how many gets the queue lists
  abbrev pub listed : CoreState T → ℕ
  listed c = length c.desk.granted + length c.desk.waiting

  -- the greatest number that the ticket of the next get in the queue may have
  abbrev pub most_next_ticket : CoreState T → ℕ
  most_next_ticket c = most_next c.queue_room (listed c) c.next_ticket

  -- The queue has room for all that may wait in it, and for all that may have been granted a place.
  abbrev pub HasRoom : CoreState T → Type 0
  HasRoom c = c.desk.max_waiting + c.desk.reserve ≤ min c.queue_room (2 ^ 63 - 1)
