-- What is seen of a trial's fields is what is seen of the pool that they are.
use Rattle.deadpool_trial.proofs.Basics.{◌≡◌, ℕ, List, Option, Some, None, refl, slice_get, slice_get-map, eq-eqb}
use Rattle.deadpool_trial.proofs.Basics.{granted-renamed}
use Rattle.deadpool_trial.proofs.Words.{Slot, DeskState, Getting, Timeouts}
use Rattle.deadpool_trial.proofs.Words.{has_ticket, queue_of, party_of, TrialInvariant}
use Rattle.deadpool_trial.proofs.Words.{Setup, image, get_at}
use Rattle.deadpool_trial.specs.Look.{look_of}
use Rattle.deadpool_trial.specs.TrialFields.{look_as}
use Rattle.deadpool_managed.specs.Kinds.{kind_of}
use Rattle.deadpool_managed.specs.Stages.{Stage}
use Rattle.deadpool_managed.specs.Stages as stage

module _ {M V E C R S F A : Type 0} (setup : Setup M F A V E C R S) (d : DeskState (Slot V))
    (gets : List (Option (Getting V C R S))) (out : List (Slot V)) (k : TrialInvariant d gets out) (n : ℕ)
    (own : Timeouts) where
  -- of a get, by its stage
  pub look_of-get : (s : Stage V C R S) → slice_get gets n ≡ Some (get_at own s)
      → look_of n (image setup d gets out) ≡ look_as d.granted (kind_of s)
  look_of-get stage.Unpolled there = rw (slice_get-map party_of gets n, there) refl
  look_of-get (stage.Queued t deadline) there =
      let mine = (k.tickets.listed n t (get_at own (stage.Queued t deadline)) there (eq-eqb t t refl)).1 in
      let renamed = granted-renamed has_ticket (queue_of d) gets k.tickets n
      (get_at own (stage.Queued t deadline)) None there t mine (λ u. refl) in
      rw (slice_get-map party_of gets n, there, renamed) refl
  look_of-get (stage.Going allowance) there = rw (slice_get-map party_of gets n, there) refl
  look_of-get (stage.Creating begun deadline) there = rw (slice_get-map party_of gets n, there) refl
  look_of-get (stage.Recycling preparation allowance) there = rw (slice_get-map party_of gets n, there) refl
  look_of-get (stage.Checking slot at) there = rw (slice_get-map party_of gets n, there) refl
  look_of-get stage.Finished there = rw (slice_get-map party_of gets n, there) refl
