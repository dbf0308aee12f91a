-- What a get's phase, with its object beside it, comes to.
use Rattle.deadpool_managed.proofs.Words.{⊤, ◌≡◌, ◌≢◌, ℕ, Option, Some, None, Ok, refl, ap, PoolError, HookError}
use Rattle.deadpool_managed.proofs.Words.{Moment, Runtime, Timeouts, HookLists, May, ended_by, AdvancesFrom}
use Rattle.deadpool_managed.proofs.Words.{CancelsFrom, no_step, making, IsPlaced, recycling_at, stage_of, turn_of}
use Rattle.deadpool_managed.proofs.Words.{came_by, preparation_of, PreparesIn, ChecksIn, GivesUpIn, DiscardsIn}
use Rattle.deadpool_managed.proofs.Words.{RefusesIn, Position, Preparing, Turn, Slot, Stage, Prepared, Phase, Came}
use Rattle.deadpool_managed.proofs.Words.{Held, Reply, Step, Outcome, Verdict}

module _ {V C R S : Type 0} where
  pub finished : (phase : Phase C R S) (slot : Option (Slot V)) → phase ≡ Phase.Finished
      → stage_of phase slot ≡ Stage.Finished
  finished phase slot is = rw is refl

module _ {V E : Type 0} where
  pub ended_is : (cause : PoolError E) (reply : Reply) (came : Came E) (slot : Option (Slot V))
      → came ≡ came_by cause reply → turn_of came slot ≡ ended_by cause reply
  ended_is cause Reply.Done came slot is = rw is refl
  ended_is cause _ came slot is = rw is refl

  pub more_is : (x : Came E) (slot : Option (Slot V)) → x ≡ Came.More → turn_of x slot ≡ Turn.More
  more_is x slot is = rw is refl

  pub was_more : (x : Came E) (slot : Option (Slot V)) → turn_of x slot ≡ Turn.More → x ≡ Came.More
  was_more Came.More slot is = refl
  was_more Came.Pending slot is = cc
  was_more Came.Given (Some given) is = cc
  was_more Came.Given None is = cc
  was_more (Came.Failed cause) slot is = cc

  pub not_more : (x : Came E) (slot : Option (Slot V)) → x ≢ Came.More → turn_of x slot ≢ Turn.More
  not_more Came.More slot not = absurd (not refl)
  not_more Came.Pending slot not = λ is. cc
  not_more Came.Given (Some given) not = λ is. cc
  not_more Came.Given None not = λ is. cc
  not_more (Came.Failed cause) slot not = λ is. cc

module _ {V E C R S F A : Type 0} (may : May V E C R S F A) (runtime : Option Runtime) (hooks : HookLists F A)
    (now : Moment) (timeouts : Timeouts) where
  -- an object that was prepared in its place: given out, prepared further, or given up
  pub accepted_in : (preparing : Preparing R S) (allowance : Option ℕ) (place left : Option (Slot V))
      (phase : Phase C R S) → phase ≡ Phase.Finished
      → PreparesIn may now runtime timeouts.recycle hooks preparing place Outcome.Accepted left
      → AdvancesFrom may runtime hooks now timeouts (recycling_at {C = C} preparing allowance place) no_step
      (stage_of phase left) (turn_of Came.Given left)
  accepted_in preparing allowance (Some slot) (Some left) phase is given =
      (Prepared.Accepted left, (given, (finished phase (Some left) is, refl)))
  accepted_in preparing allowance (Some slot) None phase is given = absurd given
  accepted_in preparing allowance None (Some left) phase is given = absurd given
  accepted_in preparing allowance None None phase is given = absurd given

  pub pending_in : (preparing next : Preparing R S) (allowance : Option ℕ) (place left : Option (Slot V))
      → PreparesIn may now runtime timeouts.recycle hooks preparing place (Outcome.Pending next) left
      → AdvancesFrom may runtime hooks now timeouts (recycling_at {C = C} preparing allowance place) no_step
      (recycling_at next None left) Turn.Pending
  pending_in preparing next allowance (Some slot) (Some left) given =
      (Prepared.Pending (preparation_of left next), (given, (refl, refl)))
  pending_in preparing next allowance (Some slot) None given = absurd given
  pending_in preparing next allowance None (Some left) given = absurd given
  pending_in preparing next allowance None None given = absurd given

  pub given_up_in : (preparing : Preparing R S) (allowance : Option ℕ) (place left : Option (Slot V)) (reply : Reply)
      (after : Stage V C R S) (turn : Turn V E)
      → PreparesIn may now runtime timeouts.recycle hooks preparing place Outcome.GivenUp left
      → DiscardsIn may left allowance reply after turn
      → AdvancesFrom may runtime hooks now timeouts (recycling_at {C = C} preparing allowance place)
      (making Step.Discard reply None) after turn
  given_up_in preparing allowance (Some slot) (Some left) reply after turn given discards =
      (Prepared.GivenUp left, (given, discards))
  given_up_in preparing allowance (Some slot) None reply after turn given discards = absurd given
  given_up_in preparing allowance None (Some left) reply after turn given discards = absurd given
  given_up_in preparing allowance None None reply after turn given discards = absurd given

  -- a new object that the hooks saw in its place
  pub checked_in : (at : Position S) (place left : Option (Slot V)) (phase : Phase C R S) → phase ≡ Phase.Finished
      → ChecksIn may hooks at place Verdict.Accepted left
      → AdvancesFrom may runtime hooks now timeouts (stage_of (Phase.Checking at) place) no_step (stage_of phase left)
      (turn_of Came.Given left)
  checked_in at (Some slot) (Some left) phase is given = (
    (Verdict.Accepted, left.value.value),
    (given.0, (finished phase (Some left) is, ap (λ (s : Slot V). Turn.Done (Ok s)) given.1)),
  )
  checked_in at (Some slot) None phase is given = absurd given
  checked_in at None (Some left) phase is given = absurd given
  checked_in at None None phase is given = absurd given

  pub checking_in : (at next : Position S) (place left : Option (Slot V))
      → ChecksIn may hooks at place (Verdict.Pending next) left
      → AdvancesFrom may runtime hooks now timeouts (stage_of (Phase.Checking at) place) no_step
      (stage_of (Phase.Checking next) left) Turn.Pending
  checking_in at next (Some slot) (Some left) given =
      ((Verdict.Pending next, left.value.value), (given.0, (ap (λ (s : Slot V). Stage.Checking s next) given.1, refl)))
  checking_in at next (Some slot) None given = absurd given
  checking_in at next None (Some left) given = absurd given
  checking_in at next None None given = absurd given

  pub refused_in : (at : Position S) (cause : HookError E) (place left : Option (Slot V)) (reply : Reply)
      (after : Stage V C R S) (turn : Turn V E)
      → ChecksIn may hooks at place (Verdict.Refused cause) left → RefusesIn may left cause reply after turn
      → AdvancesFrom may runtime hooks now timeouts (stage_of (Phase.Checking at) place)
      (making Step.Refused reply None) after turn
  refused_in at cause (Some slot) (Some left) reply after turn given refuses =
      ((Verdict.Refused cause, left.value.value), (given.0, refuses))
  refused_in at cause (Some slot) None reply after turn given refuses = absurd given
  refused_in at cause None (Some left) reply after turn given refuses = absurd given
  refused_in at cause None None reply after turn given refuses = absurd given

-- a phase with an object
abbrev HasObject : {C R S : Type 0} → Phase C R S → Type 0
HasObject (Phase.Served left) = ⊤
HasObject (Phase.Recycling preparing) = ⊤
HasObject (Phase.Checking at) = ⊤
HasObject _ = ⊥

-- an object under preparation that is given up when its get is cancelled
module _ {V E C R S F A : Type 0} (may : May V E C R S F A) (P : V → Type 0) where
  pub cancelled_in : (phase : Phase C R S) (place : Option (Slot V)) (reply : Reply) → HasObject phase
      → IsPlaced P phase place → GivesUpIn may place reply
      → CancelsFrom may (stage_of phase place) (making (Step.Cancel Held.Object) reply None)
  cancelled_in (Phase.Served left) (Some slot) reply has placed given = given
  cancelled_in (Phase.Served left) None reply has placed given = absurd placed
  cancelled_in (Phase.Recycling (Preparing.PreRecycle at)) (Some slot) reply has placed given = given
  cancelled_in (Phase.Recycling (Preparing.Recycle r deadline)) (Some slot) reply has placed given = given
  cancelled_in (Phase.Recycling (Preparing.PostRecycle at)) (Some slot) reply has placed given = given
  cancelled_in (Phase.Recycling preparing) None reply has placed given = absurd placed
  cancelled_in (Phase.Checking at) (Some slot) reply has placed given = given
  cancelled_in (Phase.Checking at) None reply has placed given = absurd placed
  cancelled_in Phase.Unpolled place reply has placed given = absurd has
  cancelled_in (Phase.Queued ticket deadline) place reply has placed given = absurd has
  cancelled_in (Phase.Going allowance) place reply has placed given = absurd has
  cancelled_in (Phase.Creating begun deadline) place reply has placed given = absurd has
  cancelled_in Phase.Finished place reply has placed given = absurd has
