-- The steps of an unmanaged pool, before anybody is granted anything.
use Rattle.std.specs.Prelude.{ℕ, ◌+◌, ◌-◌, min, Bool, false, not, ◌==◌, List, [], ◌∷◌, ◌++◌, Option, Some, None}
use Rattle.std.specs.Prelude.{if◌then◌else◌, length, nat_le, nat_lt, slice_set}
use Rattle.deadpool_parts.specs.Numbered.{with_numbered, find_numbered, without_numbered}
use Rattle.std.specs.declared.time.Duration.{Duration}
use Rattle.deadpool_parts.specs.Moments.{deadline_after, is_reached, cannot_wait}
use Rattle.deadpool_gate.specs.Numbers.{has_number, most_handles}
use Rattle.deadpool_parts.specs.declared.moment.Moment.{Moment}
use Rattle.deadpool_gate.specs.Queue.{joined, without}
use Rattle.deadpool_unmanaged.specs.State.{last_idle, other_idle}
use Rattle.deadpool_trial.specs.Unmanaged.Pool.{Pool, Party, new_get, queued_get, new_add, queued_add, finished}
use Rattle.deadpool_trial.specs.Unmanaged.Pool.{free_objects, free_room}
use Rattle.deadpool_unmanaged.specs.declared.error.PoolError.TheVariants.{Timeout, Closed, NoRuntimeSpecified}
use Rattle.deadpool_unmanaged.specs.declared.error.PoolError.TheVariants.{Crowded, OutOfMemory}
use Rattle.deadpool_trial.specs.declared.unmanaged.moves.Item.{Item}
use Rattle.deadpool_trial.specs.declared.unmanaged.moves.Reply.{Reply}
use Rattle.deadpool_trial.specs.declared.unmanaged.moves.Reply.TheVariants as reply

module _ {V : Type 0} where
  abbrev pub item_number : Item V → ℕ
  item_number s = s.number

  -- a list by rising number, with one more object
  abbrev pub with_item : Item V → List (Item V) → List (Item V)
  with_item s items = with_numbered item_number s items

  -- the object with the number
  abbrev pub find_item : ℕ → List (Item V) → Option (Item V)
  find_item n items = find_numbered item_number n items

  -- the objects without the one that has the number
  abbrev pub without_item : ℕ → List (Item V) → List (Item V)
  without_item n items = without_numbered item_number n items

  -- the party stands elsewhere
  abbrev pub to : ℕ → Party V → Pool V → Pool V
  to n party p = record p { parties = slice_set p.parties n (Some party) }

  -- the party asks for nothing any more
  abbrev pub left : ℕ → Pool V → Pool V
  left n p = record p { gets = without n p.gets; adds = without n p.adds }

  abbrev pub ended : ℕ → Pool V → Pool V
  ended n p = to n finished (left n p)

  -- the party is no more, nor the object that it was to add
  abbrev pub cancelled : ℕ → Pool V → Pool V
  cancelled n p = let q = left n p in record q { parties = slice_set p.parties n None }

  -- an object goes out
  abbrev pub handed : Option (Item V) → Pool V → Reply V × Pool V
  handed (Some item) p = (reply.Object item.number, record p { idle = other_idle p.idle; out = with_item item p.out })
  handed None p = (reply.Failed Closed, p)

  -- the last that is idle
  abbrev pub hand_out : Pool V → Reply V × Pool V
  hand_out p = handed (last_idle p.idle) p

  -- an object is in the pool
  abbrev pub store : Item V → Pool V → Reply V × Pool V
  store item p = (reply.Added item.number, record p { idle = p.idle ++ item ∷ [] })

  -- A get's first poll. A free object goes out at once. With none the get joins the queue, if it may wait and memory is
  -- found.
  abbrev pub enter_get : Bool → ℕ → Option Duration → Moment → Pool V → Reply V × Pool V
  enter_get found n wait now p =
      let deadline = deadline_after now wait in
      if cannot_wait p.runtime wait then (reply.Failed NoRuntimeSpecified, ended n p)
      else if not p.is_open then (reply.Failed Closed, ended n p)
      else if nat_lt 0 (free_objects p) then hand_out (ended n p)
      else if is_reached deadline now then (reply.Failed Timeout, ended n p)
      else if nat_le p.max_waiting (length p.gets.waiting) then (reply.Failed Crowded, ended n p)
      else if found then (reply.Pending, to n (queued_get deadline) (record p { gets = joined n p.gets }))
      else (reply.Failed OutOfMemory, ended n p)

  -- A later poll of a get. One that was granted an object finds none only if the last handle took it.
  abbrev pub inquire_get : ℕ → Option Moment → Moment → Pool V → Reply V × Pool V
  inquire_get n deadline now p =
      if not p.is_open then (reply.Failed Closed, ended n p)
      else if has_number n p.gets.granted then hand_out (ended n p)
      else if is_reached deadline now then (reply.Failed Timeout, ended n p)
      else (reply.Pending, p)

  -- An add's first poll. With room its object is in the pool at once. With none it joins the queue, if memory is found.
  abbrev pub enter_add : Bool → ℕ → Item V → Pool V → Reply V × Pool V
  enter_add found n item p =
      if not p.is_open then (reply.Refused Closed item.value, ended n p)
      else if nat_lt 0 (free_room p) then store item (ended n p)
      else if nat_le p.max_waiting (length p.adds.waiting) then (reply.Refused Crowded item.value, ended n p)
      else if found then (reply.Pending, to n (queued_add item) (record p { adds = joined n p.adds }))
      else (reply.Refused OutOfMemory item.value, ended n p)

  -- a later poll of an add
  abbrev pub inquire_add : ℕ → Item V → Pool V → Reply V × Pool V
  inquire_add n item p =
      if not p.is_open then (reply.Refused Closed item.value, ended n p)
      else if has_number n p.adds.granted then store item (ended n p)
      else (reply.Pending, p)

  abbrev pub poll : Bool → ℕ → Moment → Party V → Pool V → Reply V × Pool V
  poll found n now (new_get wait) p = enter_get found n wait now p
  poll found n now (queued_get deadline) p = inquire_get n deadline now p
  poll found n now (new_add item) p = enter_add found n item p
  poll found n now (queued_add item) p = inquire_add n item p
  poll found n now finished p = (reply.Pending, p)

  -- an object, if one is free
  abbrev pub try_get : Pool V → Reply V × Pool V
  try_get p =
      if not p.is_open then (reply.Failed Closed, p)
      else if nat_lt 0 (free_objects p) then hand_out p
      else (reply.Failed Timeout, p)

  -- an object that is handed in now, if there is room for it
  abbrev pub try_store : Item V → Pool V → Reply V × Pool V
  try_store item p =
      if not p.is_open then (reply.Refused Closed item.value, p)
      else if nat_lt 0 (free_room p) then store item p
      else (reply.Refused Timeout item.value, p)

  -- An object comes back. A closed pool has no use for it, nor has one without a handle.
  abbrev pub back : Option (Item V) → ℕ → Pool V → Reply V × Pool V
  back None n p = (reply.NoSuch, p)
  back (Some item) n p =
      let q = record p { out = without_item n p.out } in
      if not p.is_open then (reply.Dropped, q)
      else if p.handles == 0 then (reply.Dropped, q)
      else (reply.Kept, record q { idle = p.idle ++ item ∷ [] })

  -- an object leaves for good
  abbrev pub take_out : Option (Item V) → ℕ → Pool V → Reply V × Pool V
  take_out None n p = (reply.NoSuch, p)
  take_out (Some item) n p = (reply.Taken item.value, record p { out = without_item n p.out })

  -- a closed pool keeps its limit
  abbrev pub closed : Pool V → Pool V
  closed p = record p { is_open = false; idle = [] }

  abbrev pub cloned : Pool V → Pool V
  cloned p = record p { handles = min (p.handles + 1) most_handles }

  -- the last handle takes the idle objects with it
  abbrev pub handle_dropped : Pool V → Pool V
  handle_dropped p =
      let handles = if p.handles == most_handles then most_handles else p.handles - 1 in
      record p { handles = handles; idle = if handles == 0 then [] else p.idle }
