-- What is true of every state of every run.
use Rattle.std.specs.Prelude.{ℕ, ◌≡◌, ◌++◌, List, Bool, true, false, Option, Some, slice_get}
use Rattle.deadpool_gate.specs.Numbers.{has_number}
use Rattle.deadpool_gate.specs.Orders.{IsOnce}
use Rattle.deadpool_trial.specs.Pool.{Pool, Party, Standing, queued}
use Rattle.deadpool_trial.specs.Moves.{NobodyWaits, WaitsWithin}

module _ {V C R S : Type 0} where
  abbrev pub waits_at : Standing V C R S → Bool
  waits_at (queued deadline) = true
  waits_at _ = false

  abbrev pub is_queued : Option (Option (Party V C R S)) → Bool
  is_queued (Some (Some party)) = waits_at party.standing
  is_queued _ = false

module _ {V C R S F A : Type 0} where
  -- those that were granted a place and those that wait, in order of arrival
  abbrev pub queue : Pool V C R S F A → List ℕ
  queue p = p.granted ++ p.waiting

  -- who is in the queue stands as queued, and nobody else does
  abbrev pub MarksQueued : Pool V C R S F A → Type 0
  MarksQueued p = (n : ℕ) → has_number n (queue p) ≡ is_queued (slice_get p.parties n)

  pub record PoolInvariant (p : Pool V C R S F A) : Type 0 where
    pub once : IsOnce (queue p)
    pub marks : MarksQueued p
    pub nobody_waits : NobodyWaits p
    pub few_waiting : WaitsWithin p
