-- The state of an unmanaged pool, in lists. Every count is a length, but for the handles and the numbers that were
-- drawn.
use Rattle.std.specs.Prelude.{ℕ, ◌+◌, ◌-◌, Bool, true, List, [], length, Option, unwrap_or}
use Rattle.deadpool_gate.specs.Numbers.{largest_usize}
use Rattle.std.specs.declared.time.Duration.{Duration}
use Rattle.deadpool_parts.specs.declared.moment.Moment.{Moment}
use Rattle.deadpool_parts.specs.declared.moment.Runtime.{Runtime}
use Rattle.deadpool_parts.specs.declared.status.Status.{Status}
use Rattle.deadpool_gate.specs.Queue.{Queue, nobody, served}
use Rattle.deadpool_trial.specs.declared.unmanaged.moves.Item.{Item}

-- What a party is, and how far. V: the objects' values
pub data Party (V : Type 0) : Type 0 where
  -- a get that was not polled yet, and how long it may wait
  new_get : Option Duration → Party V
  -- a get that waits for an object or was granted one, until a deadline
  queued_get : Option Moment → Party V
  -- an add that was not polled yet, with its object
  new_add : Item V → Party V
  -- an add that waits for room or was granted it, with its object
  queued_add : Item V → Party V
  finished : Party V

pub record Pool (V : Type 0) : Type 0 where
  pub limit : ℕ
  pub is_open : Bool
  pub handles : ℕ
  -- how many gets may wait, and how many adds
  pub max_waiting : ℕ
  pub runtime : Option Runtime
  -- the number that the next object gets: so many were drawn
  pub next : ℕ
  pub most_parties : ℕ
  -- by number, from 0; none if it was cancelled
  pub parties : List (Option (Party V))
  -- the last is the next to go out
  pub idle : List (Item V)
  -- by rising number
  pub out : List (Item V)
  -- parties by number: the gets ask for an object, and the adds for room
  pub gets : Queue
  pub adds : Queue

module _ {V : Type 0} where
  -- a new pool: nothing idle, nobody there, and one handle
  abbrev pub opened : ℕ → Option Runtime → ℕ → Pool V
  opened limit runtime most_parties =
      record {
        limit = limit;
        is_open = true;
        handles = 1;
        max_waiting = largest_usize;
        runtime = runtime;
        next = 0;
        most_parties = most_parties;
        parties = [];
        idle = [];
        out = [];
        gets = nobody;
        adds = nobody;
      }

  -- with a bound on those that wait, or with none
  abbrev pub bounded : Option ℕ → Pool V → Pool V
  bounded most p = record p { max_waiting = unwrap_or most largest_usize }

  -- objects of the pool
  abbrev pub size : Pool V → ℕ
  size p = length p.idle + length p.out

  -- idle objects that no get was granted
  abbrev pub free_objects : Pool V → ℕ
  free_objects p = length p.idle - length p.gets.granted

  -- room that no add was granted
  abbrev pub free_room : Pool V → ℕ
  free_room p = p.limit - size p - length p.adds.granted

  -- the earliest that ask are granted an object or room, in order, until none is free
  abbrev pub settle : Pool V → Pool V
  settle p = record p { gets = served p.is_open (free_objects p) p.gets; adds = served p.is_open (free_room p) p.adds }

  abbrev pub status_of : Pool V → Status
  status_of p = record {
    max_size = p.limit;
    size = size p;
    available = length p.idle;
    waiting = length p.gets.waiting + length p.gets.granted;
  }
