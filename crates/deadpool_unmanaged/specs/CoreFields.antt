-- The state that the fields of a core are, and what they keep.
use Rattle.std.specs.Prelude.{◌≡◌, ◌≤◌, not, vec_capacity}
use Rattle.deadpool_gate.specs.Gate.{unnotified_tickets}
use Rattle.deadpool_gate.specs.Served.{queue_of}
use Rattle.deadpool_unmanaged.specs.Kept.{IsKept}
use Rattle.deadpool_unmanaged.specs.State.{State, CoreState}
use Rattle.deadpool_unmanaged.specs.declared.state.Core.TheInside.{Inside}

module _ {T : Type 0} where
  abbrev pub state_of : Inside T → State T
  state_of c = record {
    limit = c.limit;
    is_open = not c.gets.is_closed;
    handles = c.handles;
    max_waiting = c.max_waiting;
    idle = c.idle.items;
    outside = c.outside;
    gets = queue_of c.gets.waiters;
    adds = queue_of c.adds.waiters;
    unnotified_gets = unnotified_tickets c.gets.waiters;
    unnotified_adds = unnotified_tickets c.adds.waiters;
  }

  abbrev pub core_of : Inside T → CoreState T
  core_of c = record {
    pool = state_of c;
    gets_room = c.gets.capacity;
    adds_room = c.adds.capacity;
    next_get = c.gets.next_ticket;
    next_add = c.adds.next_ticket;
  }

  -- the two lines close together, there is room for each object and for each that may come, and the state is settled
  pub record CoreInvariant (c : Inside T) : Type 0 where
    pub together : c.adds.is_closed ≡ c.gets.is_closed
    pub reserve : c.limit ≤ vec_capacity c.idle
    pub kept : IsKept (state_of c)
