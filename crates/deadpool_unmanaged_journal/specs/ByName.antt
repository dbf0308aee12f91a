-- A pool, with a name for each of its objects, and without whom it has told.
use Rattle.std.specs.Prelude.{map, [], Option, option_map}
use Rattle.deadpool_unmanaged.specs.State.{State}

module _ {T O : Type 0} (name : T → O) where
  abbrev pub name_in : Option T → Option O
  name_in hand = option_map name hand

  abbrev pub by_name : State T → State O
  by_name d = record {
    limit = d.limit;
    is_open = d.is_open;
    handles = d.handles;
    max_waiting = d.max_waiting;
    idle = map name d.idle;
    outside = d.outside;
    gets = d.gets;
    adds = d.adds;
    unnotified_gets = d.unnotified_gets;
    unnotified_adds = d.unnotified_adds;
  }

module _ {O : Type 0} where
  -- the pool, without those in its queues that were not told yet
  abbrev pub silent : State O → State O
  silent d = record d { unnotified_gets = []; unnotified_adds = [] }
