-- The steps of a managed pool that ask nobody.
use Rattle.std.specs.Prelude.{ℕ, ◌+◌, ◌-◌, min, max, false, List, [], ◌∷◌, length, drop, Option, Some, None}
use Rattle.std.specs.Prelude.{if◌then◌else◌, nat_lt, ◌==◌, slice_set, unwrap_or}
use Rattle.deadpool_parts.specs.Numbered.{with_numbered, find_numbered, without_numbered}
use Rattle.deadpool_gate.specs.Numbers.{without_number, largest_usize, most_handles}
use Rattle.deadpool_parts.specs.declared.errors.PoolError.{PoolError}
use Rattle.deadpool_parts.specs.declared.errors.PoolError.TheVariants.{NumbersExhausted}
use Rattle.deadpool_managed.specs.Calls.{start}
use Rattle.deadpool_desk.specs.DeskState.{next_idle, other_idle}
use Rattle.deadpool_trial.specs.Pool.{Pool, Party, Standing, going, creating, recycling, finished, creating_count}
use Rattle.deadpool_trial.specs.Pool.{size, least_idle, settle}
use Rattle.deadpool_managed.specs.Slots.{Slot}
use Rattle.deadpool_managed.specs.Prepare.{with_value}
use Rattle.deadpool_managed.specs.Stages.{PreRecycle}
use Rattle.deadpool_trial.specs.declared.moves.Reply.{Reply}
use Rattle.deadpool_trial.specs.declared.moves.Reply.TheVariants.{More, Pending, Failed}

module _ {V : Type 0} where
  abbrev pub slot_number : Slot V → ℕ
  slot_number s = s.number

  -- a list by rising number, with one more object
  abbrev pub with_slot : Slot V → List (Slot V) → List (Slot V)
  with_slot s xs = with_numbered slot_number s xs

  -- the object with the number
  abbrev pub find_slot : ℕ → List (Slot V) → Option (Slot V)
  find_slot n xs = find_numbered slot_number n xs

  -- the objects without the one that has the number
  abbrev pub without_slot : ℕ → List (Slot V) → List (Slot V)
  without_slot n xs = without_numbered slot_number n xs

  -- the objects, once the one with the number has another value
  abbrev pub with_put : ℕ → V → List (Slot V) → List (Slot V)
  with_put n v [] = []
  with_put n v (s ∷ ss) = if s.number == n then with_value v s ∷ ss else s ∷ with_put n v ss

module _ {V C R S F A : Type 0} where
  -- the party stands elsewhere
  abbrev pub to : ℕ → Party V C R S → Standing V C R S → Pool V C R S F A → Pool V C R S F A
  to n party standing p = record p { parties = slice_set p.parties n (Some (record party { standing = standing })) }

  -- the party is queued no more
  abbrev pub unqueued : ℕ → Pool V C R S F A → Pool V C R S F A
  unqueued n p = record p { waiting = without_number n p.waiting; granted = without_number n p.granted }

  -- the party has ended, and what it held is free
  abbrev pub ended : ℕ → Party V C R S → Pool V C R S F A → Pool V C R S F A
  ended n party p = settle (to n party finished (unqueued n p))

  -- the party is no more, and what it held is free
  abbrev pub removed : ℕ → Pool V C R S F A → Pool V C R S F A
  removed n p = settle (record (unqueued n p) { parties = slice_set p.parties n None })

  -- how many idle objects are given up for another limit: as many as are above it, of those that need not stay
  abbrev pub given_up : ℕ → Pool V C R S F A → ℕ
  given_up n p = min (size p - n) (length p.idle - least_idle n p)

  -- a smaller limit gives up idle objects from the front
  abbrev pub resized : ℕ → Pool V C R S F A → Pool V C R S F A
  resized n p = settle (record p { limit = n; reserve = max p.reserve n; idle = drop (given_up n p) p.idle })

  abbrev pub closed : Pool V C R S F A → Pool V C R S F A
  closed p = record (resized 0 p) { is_open = false }

  abbrev pub cloned : Pool V C R S F A → Pool V C R S F A
  cloned p = record p { handles = min (p.handles + 1) most_handles }

  -- the last handle takes the idle objects with it
  abbrev pub handle_dropped : Pool V C R S F A → Pool V C R S F A
  handle_dropped p =
      let left = if p.handles == most_handles then most_handles else p.handles - 1 in
      record p { handles = left; idle = if left == 0 then [] else p.idle }

module _ {V E C R S F A : Type 0} where
  -- the party ends without an object
  abbrev pub fail : ℕ → Party V C R S → PoolError E → Pool V C R S F A → Reply V E × Pool V C R S F A
  fail n party cause p = (Failed cause, ended n party p)

  -- the party stands so until its next poll
  abbrev pub rest : ℕ → Party V C R S → Standing V C R S → Pool V C R S F A → Reply V E × Pool V C R S F A
  rest n party standing p = (Pending, to n party standing p)

  -- there is more to do for the party, at once
  abbrev pub go_on : ℕ → Party V C R S → Standing V C R S → Pool V C R S F A → Reply V E × Pool V C R S F A
  go_on n party standing p = (More, to n party standing p)

  -- how a party that holds a place is served, by the next idle object and how many it may take
  abbrev pub serve_from : Option (Slot V) → ℕ → ℕ → Party V C R S → Pool V C R S F A → Reply V E × Pool V C R S F A
  serve_from (Some slot) allowed n party p =
      if nat_lt 0 allowed
      then go_on n party (recycling (PreRecycle slot start) (Some (allowed - 1)))
      (record p { idle = other_idle p.mode p.idle })
      else rest n party (going None) p
  serve_from None allowed n party p =
      if nat_lt (p.next + creating_count p) largest_usize then go_on n party
      (creating None None) p else fail n party NumbersExhausted p

  -- A party that holds a place, and stands in no list, is served: an idle object, if one is there and allowed, or a
  -- creation. An allowance of none is as many as are idle.
  abbrev pub serve : ℕ → Party V C R S → Option ℕ → Pool V C R S F A → Reply V E × Pool V C R S F A
  serve n party allowance p = serve_from (next_idle p.mode p.idle) (unwrap_or allowance (length p.idle)) n party p
