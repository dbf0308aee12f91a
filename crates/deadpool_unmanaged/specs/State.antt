-- The state of an unmanaged pool without names: tickets in its queues, and a count of the objects that are out.
use Rattle.std.specs.Prelude.{ℕ, ◌+◌, ◌-◌, Bool, true, ◌||◌, ◌&&◌, ◌==◌, List, [], length, take, slice_get, Option}
use Rattle.std.specs.Prelude.{is_some, nat_lt, unwrap_or}
use Rattle.deadpool_gate.specs.Numbers.{largest_usize}
use Rattle.deadpool_gate.specs.Waking.{next_due}
use Rattle.deadpool_parts.specs.declared.status.Status.{Status}
use Rattle.deadpool_gate.specs.Queue.{Queue, nobody, members, served}

pub record State (T : Type 0) : Type 0 where
  pub limit : ℕ
  pub is_open : Bool
  pub handles : ℕ
  -- how many gets may wait, and how many adds
  pub max_waiting : ℕ
  -- the last is the next to go out
  pub idle : List T
  -- how many objects are out
  pub outside : ℕ
  -- tickets: the gets ask for an object, and the adds for room
  pub gets : Queue
  pub adds : Queue
  -- of these, in order of arrival, those that were not told that their wait has ended
  pub unnotified_gets : List ℕ
  pub unnotified_adds : List ℕ

-- a core: its pool; of each queue how many it can list before it has to find memory, and the number on its next ticket
pub record CoreState (T : Type 0) : Type 0 where
  pub pool : State T
  pub gets_room : ℕ
  pub adds_room : ℕ
  pub next_get : ℕ
  pub next_add : ℕ

-- how many a queue lists
abbrev pub listed : Queue → ℕ
listed q = length (members q)

module _ {T : Type 0} where
  -- an open pool with these objects, one handle, nobody in its queues, and no bound on those that wait
  abbrev pub opened : ℕ → List T → State T
  opened limit idle = record {
    limit = limit;
    is_open = true;
    handles = 1;
    max_waiting = largest_usize;
    idle = idle;
    outside = 0;
    gets = nobody;
    adds = nobody;
    unnotified_gets = [];
    unnotified_adds = [];
  }

  -- with a bound on those that wait, or with none
  abbrev pub bounded : Option ℕ → State T → State T
  bounded most d = record d { max_waiting = unwrap_or most largest_usize }

  -- the object that goes out next, and the others
  abbrev pub last_idle : List T → Option T
  last_idle idle = slice_get idle (length idle - 1)

  abbrev pub other_idle : List T → List T
  other_idle idle = take (length idle - 1) idle

  abbrev pub size : State T → ℕ
  size d = length d.idle + d.outside

  -- idle objects that no get was granted
  abbrev pub free_objects : State T → ℕ
  free_objects d = length d.idle - length d.gets.granted

  -- room that no add was granted
  abbrev pub free_room : State T → ℕ
  free_room d = d.limit - size d - length d.adds.granted

  -- the earliest that ask are granted an object or room, in order, until none is free
  abbrev pub settled : State T → State T
  settled d = record d { gets = served d.is_open (free_objects d) d.gets; adds = served d.is_open (free_room d) d.adds }

  abbrev pub status_of : State T → Status
  status_of d = record {
    max_size = d.limit;
    size = size d;
    available = length d.idle;
    waiting = length d.gets.waiting + length d.gets.granted;
  }

  -- the get, or the add, that is to be told next
  abbrev pub due_get : State T → Option ℕ
  due_get d = next_due d.is_open d.gets.granted d.unnotified_gets

  abbrev pub due_add : State T → Option ℕ
  due_add d = next_due d.is_open d.adds.granted d.unnotified_adds

  -- somebody is to be told
  abbrev pub has_due : State T → Bool
  has_due d = is_some (due_get d) || is_some (due_add d)

  -- one that enters now and wants to wait joins the queue
  abbrev pub get_would_queue : State T → Bool
  get_would_queue d = d.is_open && (free_objects d == 0) && nat_lt (length d.gets.waiting) d.max_waiting

  abbrev pub add_would_queue : State T → Bool
  add_would_queue d = d.is_open && (free_room d == 0) && nat_lt (length d.adds.waiting) d.max_waiting
