-- How a gate's fields are seen as a line, and what they keep.
use Rattle.std.specs.Prelude.{◌≡◌, ◌+◌, ◌<◌, ◌^◌, List, length, None}
use Rattle.deadpool_gate.specs.Gate.{Waiter, Line, IsLine, granted_count, waiting_count}
use Rattle.deadpool_gate.specs.GateLinks.{follow, first_ticket, last_ticket, first_failing, Stores}
use Rattle.deadpool_gate.specs.declared.gate.Gate.TheInside.{Inside}

abbrev pub waiters_of : Inside → List Waiter
waiters_of gate = follow (gate.granted + gate.waiting) gate.store.nodes gate.first

abbrev pub line_of : Inside → Line
line_of gate = record {
  waiters = waiters_of gate;
  is_closed = gate.is_closed;
  capacity = gate.store.nodes.capacity;
  next_ticket = gate.store.nodes.vacant_key;
  accesses = gate.store.accesses;
  accesses_before = gate.accesses_before;
}

-- the fields are those of this line
pub record Shows (gate : Inside) (ws : List Waiter) : Type 0 where
  pub stores : Stores gate.store.nodes ws
  pub few : length ws < 2 ^ 63
  pub line : IsLine gate.is_closed ws
  pub first : gate.first ≡ first_ticket ws None
  pub last : gate.last ≡ last_ticket ws None
  pub first_waiting : gate.first_waiting ≡ first_failing (λ w. w.granted) ws
  pub first_unnotified : gate.first_unnotified ≡ first_failing (λ w. w.told) ws
  pub granted : gate.granted ≡ granted_count ws
  pub waiting : gate.waiting ≡ waiting_count ws

abbrev pub GateInvariant : Inside → Type 0
GateInvariant gate = Shows gate (waiters_of gate)
