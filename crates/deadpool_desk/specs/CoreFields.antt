-- The state that the fields of a `Core` are, and what they keep.
use Rattle.std.specs.Prelude.{◌+◌, ◌<◌, ◌≤◌, ◌^◌, not}
use Rattle.deadpool_gate.specs.Gate.{granted_tickets, waiting_tickets, unnotified_tickets}
use Rattle.deadpool_desk.specs.CoreState.{CoreState}
use Rattle.deadpool_desk.specs.DeskState.{DeskState, places}
use Rattle.deadpool_desk.specs.Settled.{IsSettled}
use Rattle.deadpool_desk.specs.declared.slot.Slot.{Slot}
use Rattle.deadpool_desk.specs.declared.state.Core.TheInside.{Inside}

module _ {T : Type 0} where
  abbrev pub desk_of : Inside T → DeskState (Slot T)
  desk_of c = record {
    limit = c.places.limit;
    is_open = not c.gate.is_closed;
    mode = c.mode;
    min_idle = c.min_idle;
    max_waiting = c.max_waiting;
    next = c.next;
    handles = c.handles;
    reserve = c.ring.capacity;
    idle = c.ring.items;
    granted = granted_tickets c.gate.waiters;
    waiting = waiting_tickets c.gate.waiters;
    going = c.places.going;
    creations = c.places.creations;
    outside = c.places.outside;
  }

  abbrev pub core_of : Inside T → CoreState T
  core_of c = record {
    desk = desk_of c;
    unnotified = unnotified_tickets c.gate.waiters;
    queue_room = c.gate.capacity;
    next_ticket = c.gate.next_ticket;
  }

  -- No count can wrap: each place that is held has room in the ring, and each creation under way has a number. The
  -- state is settled.
  pub record CoreInvariant (c : Inside T) : Type 0 where
    pub within : c.places.limit ≤ c.ring.capacity
    pub small : c.ring.capacity < 2 ^ 63
    pub held : places (desk_of c) ≤ c.ring.capacity
    pub numbered : c.next + c.places.creations < 2 ^ 64
    pub settled : IsSettled (desk_of c)
