-- The state of a managed pool, in lists. Every count is a length.
use Rattle.std.specs.Prelude.{ℕ, ◌+◌, ◌-◌, min, max, Bool, true, false, List, [], length, ◌++◌, take, drop, Option}
use Rattle.std.specs.Prelude.{Some, None, if◌then◌else◌, unwrap_or}
use Rattle.std.specs.List.{filter, filter_map}
use Rattle.deadpool_gate.specs.Numbers.{largest_usize}
use Rattle.deadpool_parts.specs.declared.moment.Moment.{Moment}
use Rattle.deadpool_parts.specs.declared.moment.Runtime.{Runtime}
use Rattle.deadpool_parts.specs.declared.config.QueueMode.{QueueMode}
use Rattle.deadpool_parts.specs.declared.config.Timeouts.{Timeouts}
use Rattle.deadpool_parts.specs.declared.status.Status.{Status}
use Rattle.deadpool_managed.specs.HookLists.{HookLists}
use Rattle.deadpool_managed.specs.Prepare.{object_of}
use Rattle.deadpool_managed.specs.Slots.{Slot}
use Rattle.deadpool_managed.specs.declared.calls.Position.{Position}
use Rattle.deadpool_managed.specs.Stages.{Preparation}

-- Where a party stands. V: the objects' values; C, R: the states of a creation and of a recycling; S: the state of a
-- hook
pub data Standing (V C R S : Type 0) : Type 0 where
  unpolled : Standing V C R S
  -- among those that wait or were granted a place, until a deadline
  queued : Option Moment → Standing V C R S
  -- with a place and nothing else, and how many idle objects it may take in this poll
  going : Option ℕ → Standing V C R S
  -- with a creation under way: its state, once begun, and its deadline
  creating : Option C → Option Moment → Standing V C R S
  -- with an idle object under preparation, and how many more it may take in this poll
  recycling : Preparation V R S → Option ℕ → Standing V C R S
  -- with a new object that the hooks see
  checking : Slot V → Position S → Standing V C R S
  finished : Standing V C R S

pub record Party (V C R S : Type 0) : Type 0 where
  pub timeouts : Timeouts
  pub standing : Standing V C R S

-- F, A: the hooks
pub record Pool (V C R S F A : Type 0) : Type 0 where
  pub limit : ℕ
  pub is_open : Bool
  pub mode : QueueMode
  pub runtime : Option Runtime
  pub hooks : HookLists F A
  -- how many objects a smaller limit and a retain leave idle, if as many are
  pub min_idle : ℕ
  -- how many parties may wait
  pub max_waiting : ℕ
  pub handles : ℕ
  -- the number that the first object got, and the one that the next object gets
  pub first : ℕ
  pub next : ℕ
  -- the largest limit that there was, and at least 1
  pub reserve : ℕ
  -- the configured ones
  pub timeouts : Timeouts
  pub most_parties : ℕ
  -- by number, from 0; none if it was cancelled
  pub parties : List (Option (Party V C R S))
  -- front to back
  pub idle : List (Slot V)
  -- parties by number, in order of arrival
  pub waiting : List ℕ
  pub granted : List ℕ
  -- by rising number
  pub out : List (Slot V)

module _ {V C R S : Type 0} where
  abbrev pub goes : Standing V C R S → Bool
  goes (going allowance) = true
  goes _ = false

  abbrev pub creates : Standing V C R S → Bool
  creates (creating begun deadline) = true
  creates _ = false

  abbrev pub prepared_at : Standing V C R S → Option (Slot V)
  prepared_at (recycling preparation allowance) = Some (object_of preparation)
  prepared_at (checking slot at) = Some slot
  prepared_at _ = None

  -- the party holds a place and nothing else
  abbrev pub is_going : Option (Party V C R S) → Bool
  is_going None = false
  is_going (Some party) = goes party.standing

  -- the party has a creation under way
  abbrev pub is_creating : Option (Party V C R S) → Bool
  is_creating None = false
  is_creating (Some party) = creates party.standing

  -- the object that the party prepares
  abbrev pub prepared_by : Option (Party V C R S) → Option (Slot V)
  prepared_by None = None
  prepared_by (Some party) = prepared_at party.standing

module _ {V C R S F A : Type 0} where
  -- a new pool: nothing idle or asked for, one handle, and no bound on those that wait
  abbrev pub opened : ℕ → QueueMode → Option Runtime → HookLists F A → Timeouts → ℕ → ℕ → ℕ → Pool V C R S F A
  opened limit mode runtime hooks timeouts first most_parties min_idle =
      record {
        limit = limit;
        is_open = true;
        mode = mode;
        runtime = runtime;
        hooks = hooks;
        min_idle = min_idle;
        max_waiting = largest_usize;
        handles = 1;
        first = first;
        next = first;
        reserve = max 1 limit;
        timeouts = timeouts;
        most_parties = most_parties;
        parties = [];
        idle = [];
        waiting = [];
        granted = [];
        out = [];
      }

  -- with a bound on those that wait, or with none
  abbrev pub bounded : Option ℕ → Pool V C R S F A → Pool V C R S F A
  bounded most p = record p { max_waiting = unwrap_or most largest_usize }

  abbrev pub going_count : Pool V C R S F A → ℕ
  going_count p = length (filter is_going p.parties)

  abbrev pub creating_count : Pool V C R S F A → ℕ
  creating_count p = length (filter is_creating p.parties)

  -- the objects under preparation
  abbrev pub preparing : Pool V C R S F A → List (Slot V)
  preparing p = filter_map prepared_by p.parties

  -- places that are held
  abbrev pub places : Pool V C R S F A → ℕ
  places p = length p.granted + going_count p + creating_count p + (length (preparing p) + length p.out)

  -- objects of the pool
  abbrev pub size : Pool V C R S F A → ℕ
  size p = length p.idle + (length (preparing p) + length p.out)

  -- how many objects stay idle at this limit, if as many are
  abbrev pub least_idle : ℕ → Pool V C R S F A → ℕ
  least_idle n p = min p.min_idle n

  -- gets that were polled and hold no object
  abbrev pub pending : Pool V C R S F A → ℕ
  pending p = length p.waiting + length p.granted + going_count p + creating_count p

  -- how large the pool becomes if each place that was given leads to an object
  abbrev pub reach : Pool V C R S F A → ℕ
  reach p = size p + creating_count p + (length p.granted + going_count p - length p.idle)

  -- how many of those that wait are granted a place: as many as are free
  abbrev pub grants : Pool V C R S F A → ℕ
  grants p = if p.is_open then min (length p.waiting) (p.limit - places p) else 0

  -- the earliest that wait have a place, in order, until none is free
  abbrev pub settle : Pool V C R S F A → Pool V C R S F A
  settle p = record p { granted = p.granted ++ take (grants p) p.waiting; waiting = drop (grants p) p.waiting }

  abbrev pub status_of : Pool V C R S F A → Status
  status_of p = record {
    max_size = p.limit;
    size = size p;
    available = length p.idle - pending p;
    waiting = min (pending p - length p.idle) largest_usize;
  }
