-- How many the queues of a core can list before it has to find memory.
use Rattle.std.specs.Prelude.{◌≡◌, ◌≢◌, ◌+◌, ◌-◌, ◌<◌, ◌≤◌, ◌^◌, ℕ, min}
use Rattle.deadpool_gate.specs.Room.{IsFull, KeepsRoom, most_next}
use Rattle.deadpool_unmanaged.specs.State.{CoreState, listed}
use Rattle.deadpool_unmanaged.specs.declared.step.Reply.{Reply}
use Rattle.deadpool_unmanaged.specs.declared.step.Reply.TheVariants.{Waiting, OutOfMemory}
use Rattle.deadpool_unmanaged.specs.declared.step.Step.{Step}
use Rattle.deadpool_unmanaged.specs.declared.step.Step.TheVariants.{GetEnter, AddEnter}

module _ {T : Type 0} where
  -- the greatest number that the ticket of the next get may have, and of the next add
  abbrev pub most_next_get : CoreState T → ℕ
  most_next_get c = most_next c.gets_room (listed c.pool.gets) c.next_get

  abbrev pub most_next_add : CoreState T → ℕ
  most_next_add c = most_next c.adds_room (listed c.pool.adds) c.next_add

  -- how many a queue lists at most: as many wait as may, and each object, or each place for one, was granted
  abbrev pub most_listed : CoreState T → ℕ
  most_listed c = c.pool.max_waiting + c.pool.limit

  -- Each of the two queues has room for all that it may ever list.
  abbrev pub HasRoom : CoreState T → Type 0
  HasRoom c = (most_listed c ≤ min c.gets_room (2 ^ 63 - 1)) × (most_listed c ≤ min c.adds_room (2 ^ 63 - 1))

  abbrev pub SameGetsRoom : CoreState T → CoreState T → Type 0
  SameGetsRoom c c' = c'.gets_room ≡ c.gets_room

  abbrev pub SameAddsRoom : CoreState T → CoreState T → Type 0
  SameAddsRoom c c' = c'.adds_room ≡ c.adds_room

  -- the room of both is as it was
  abbrev pub SameRoom : CoreState T → CoreState T → Type 0
  SameRoom c c' = SameGetsRoom c c' × SameAddsRoom c c'

  -- Who joins a queue has its next ticket, whose number is below the room if there was some. Memory is wanting only
  -- where that queue had no room. Nothing else touches the room of either.
  abbrev pub Queues : CoreState T → Step → Reply → CoreState T → Type 0
  Queues c (GetEnter wait) (Waiting ticket) c' =
      (ticket ≡ c.next_get) × (listed c.pool.gets < c.gets_room → ticket < c.gets_room)
      × KeepsRoom (listed c.pool.gets) c.gets_room c'.gets_room × SameAddsRoom c c'
  Queues c (GetEnter wait) OutOfMemory c' =
      IsFull c.gets_room (listed c.pool.gets)
      × KeepsRoom (listed c.pool.gets) c.gets_room c'.gets_room × SameAddsRoom c c'
  Queues c (AddEnter wait) (Waiting ticket) c' =
      (ticket ≡ c.next_add) × (listed c.pool.adds < c.adds_room → ticket < c.adds_room)
      × KeepsRoom (listed c.pool.adds) c.adds_room c'.adds_room × SameGetsRoom c c'
  Queues c (AddEnter wait) OutOfMemory c' =
      IsFull c.adds_room (listed c.pool.adds)
      × KeepsRoom (listed c.pool.adds) c.adds_room c'.adds_room × SameGetsRoom c c'
  Queues c _ _ c' = SameRoom c c'

  -- With room for all that the queues may list no memory is wanting, and that room stays.
  abbrev pub RoomLasts : CoreState T → Reply → CoreState T → Type 0
  RoomLasts c reply c' = HasRoom c → (reply ≢ OutOfMemory) × SameRoom c c' × HasRoom c'
