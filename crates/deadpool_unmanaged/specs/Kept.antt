-- What is true of a pool between any two of its steps.
use Rattle.std.specs.Prelude.{◌+◌, ◌≤◌, length}
use Rattle.deadpool_gate.specs.Served.{IsServed}
use Rattle.deadpool_unmanaged.specs.State.{State, size, free_objects, free_room}

module _ {T : Type 0} where
  -- In an open pool no get waits for an object that is free, and no add for room. No ticket stands twice in a queue.
  -- The objects, and those that may come, are within the limit, and so are the gets that were granted one. No more gets
  -- wait than may, nor adds.
  pub record IsKept (d : State T) : Type 0 where
    pub gets : IsServed d.is_open (free_objects d) d.gets
    pub adds : IsServed d.is_open (free_room d) d.adds
    pub few_gets : length d.gets.waiting ≤ d.max_waiting
    pub few_adds : length d.adds.waiting ≤ d.max_waiting
    pub within : size d + length d.adds.granted ≤ d.limit
    pub objects : length d.gets.granted ≤ d.limit
