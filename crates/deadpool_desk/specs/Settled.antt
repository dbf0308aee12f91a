-- What holds of a pool between any two of its steps.
use Rattle.std.specs.Prelude.{ℕ, ◌-◌, ◌≤◌, length}
use Rattle.deadpool_gate.specs.Queue.{Queue}
use Rattle.deadpool_gate.specs.Served as gate
use Rattle.deadpool_gate.specs.Served.{IsServed}
use Rattle.deadpool_desk.specs.DeskState.{DeskState, places}

module _ {O : Type 0} where
  abbrev pub queue : DeskState O → Queue
  queue d = record { granted = d.granted; waiting = d.waiting }

  abbrev pub free_places : DeskState O → ℕ
  free_places d = d.limit - places d

  -- nobody waits while a place is free
  abbrev pub NobodyWaits : DeskState O → Type 0
  NobodyWaits d = gate.NobodyWaits d.is_open (free_places d) (queue d)

  pub record IsSettled (d : DeskState O) : Type 0 where
    pub within : length d.idle ≤ d.limit
    -- all places that are free are granted, and no ticket stands in the queue twice
    pub served : IsServed d.is_open (free_places d) (queue d)
    -- no more wait than may
    pub few : length d.waiting ≤ d.max_waiting
