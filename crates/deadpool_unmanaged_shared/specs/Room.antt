-- What the lock of a pool has room for.
use Rattle.std.specs.Prelude.{◌≤◌, List, Option, length}
use Rattle.futures.specs.declared.task.waker.Waker.{Waker}
use Rattle.deadpool_unmanaged.specs.Room.{HasRoom}
use Rattle.deadpool_unmanaged.specs.State.{CoreState}

module _ {T : Type 0} where
  -- Each queue has room for all that it may ever list, and each of these a place for its waker.
  abbrev pub IsRoomy : CoreState T → List (Option Waker) → List (Option Waker) → Type 0
  IsRoomy c of_gets of_adds = HasRoom c × (c.gets_room ≤ length of_gets) × (c.adds_room ≤ length of_adds)

  -- where it is so before, it is so after
  abbrev pub StaysRoomy : CoreState T → List (Option Waker) → List (Option Waker) → CoreState T
      → List (Option Waker) → List (Option Waker) → Type 0
  StaysRoomy c of_gets of_adds c' of_gets' of_adds' = IsRoomy c of_gets of_adds → IsRoomy c' of_gets' of_adds'
