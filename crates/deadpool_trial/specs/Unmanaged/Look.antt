-- What is seen of a pool from outside: how a party stands, and the counts.
use Rattle.std.specs.Prelude.{ℕ, Bool, length, Option, Some, None, if◌then◌else◌, slice_get}
use Rattle.deadpool_gate.specs.Numbers.{has_number}
use Rattle.deadpool_unmanaged.specs.declared.counts.Counts.{Counts}
use Rattle.deadpool_trial.specs.Unmanaged.Pool.{Pool, Party, new_get, queued_get, new_add, queued_add, finished, size}
use Rattle.deadpool_trial.specs.declared.unmanaged.look.Look.{Look}
use Rattle.deadpool_trial.specs.declared.unmanaged.look.Look.TheVariants as look

module _ {V : Type 0} where
  -- where a party stands; one in a queue was granted what it asks for, or waits
  abbrev pub look_at : Bool → Bool → Party V → Look
  look_at get_is_granted add_is_granted (new_get wait) = look.NewGet
  look_at get_is_granted add_is_granted (queued_get deadline) =
      if get_is_granted then look.GrantedGet else look.QueuedGet
  look_at get_is_granted add_is_granted (new_add item) = look.NewAdd item.number
  look_at get_is_granted add_is_granted (queued_add item) =
      if add_is_granted then look.GrantedAdd item.number else look.QueuedAdd item.number
  look_at get_is_granted add_is_granted finished = look.Finished

  -- of a number that no party has, or whose party was cancelled, nothing is seen
  abbrev pub look_if : Bool → Bool → Option (Option (Party V)) → Look
  look_if get_is_granted add_is_granted (Some (Some party)) = look_at get_is_granted add_is_granted party
  look_if get_is_granted add_is_granted (Some None) = look.NoSuch
  look_if get_is_granted add_is_granted None = look.NoSuch

  -- how the party with this number stands
  abbrev pub look_of : ℕ → Pool V → Look
  look_of n p = look_if (has_number n p.gets.granted) (has_number n p.adds.granted) (slice_get p.parties n)

  abbrev pub counts_of : Pool V → Counts
  counts_of p = record {
    limit = p.limit;
    size = size p;
    gets_granted = length p.gets.granted;
    gets_waiting = length p.gets.waiting;
    adds_granted = length p.adds.granted;
    adds_waiting = length p.adds.waiting;
  }
