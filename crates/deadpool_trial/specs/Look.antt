-- What is seen of a pool from outside: how a party stands, and the counts.
use Rattle.std.specs.Prelude.{ℕ, Bool, length, Option, Some, None, if◌then◌else◌, slice_get}
use Rattle.deadpool_gate.specs.Numbers.{has_number}
use Rattle.deadpool_managed.specs.Prepare.{object_of}
use Rattle.deadpool_trial.specs.Pool.{Pool, Party, Standing, unpolled, queued, going, creating, recycling, checking}
use Rattle.deadpool_trial.specs.Pool.{finished, size, places, reach}
use Rattle.deadpool_desk.specs.declared.counts.Counts.{Counts}
use Rattle.deadpool_trial.specs.declared.look.Look.{Look}
use Rattle.deadpool_trial.specs.declared.look.Look.TheVariants as look

module _ {V C R S : Type 0} where
  -- where a party stands; one in the queue was granted a place, or waits
  abbrev pub look_at : Bool → Standing V C R S → Look
  look_at is_granted unpolled = look.Unpolled
  look_at is_granted (queued deadline) = if is_granted then look.Granted else look.Queued
  look_at is_granted (going allowance) = look.Going
  look_at is_granted (creating begun deadline) = look.Creating
  look_at is_granted (recycling preparation allowance) = look.Recycling (object_of preparation).number
  look_at is_granted (checking slot at) = look.Checking slot.number
  look_at is_granted finished = look.Finished

  -- of a number that no party has, or whose party was cancelled, nothing is seen
  abbrev pub look_if : Bool → Option (Option (Party V C R S)) → Look
  look_if is_granted (Some (Some party)) = look_at is_granted party.standing
  look_if is_granted (Some None) = look.NoSuch
  look_if is_granted None = look.NoSuch

module _ {V C R S F A : Type 0} where
  -- how the party with this number stands
  abbrev pub look_of : ℕ → Pool V C R S F A → Look
  look_of n p = look_if (has_number n p.granted) (slice_get p.parties n)

  -- what the pool counts
  abbrev pub counts_of : Pool V C R S F A → Counts
  counts_of p = record {
    limit = p.limit;
    size = size p;
    places = places p;
    reach = reach p;
    granted = length p.granted;
    waiting = length p.waiting;
  }
