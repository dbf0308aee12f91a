-- How far a get is, with its object beside it: the stage that both are.
use Rattle.std.specs.Prelude.{◌≡◌, ℕ, ⊤, Option, Some, None, Ok, Err}
use Rattle.std.specs.declared.time.Duration.{Duration}
use Rattle.deadpool_parts.specs.Program.{Gives}
use Rattle.deadpool_parts.specs.declared.moment.Moment.{Moment}
use Rattle.deadpool_parts.specs.declared.moment.Runtime.{Runtime}
use Rattle.deadpool_managed.specs.HookLists.{HookLists}
use Rattle.deadpool_managed.specs.Outside.{May}
use Rattle.deadpool_managed.specs.Calls.{start}
use Rattle.deadpool_managed.specs.Prepare.{prepare, post_create, with_value, IsReadyPreparation, IsReadyPrepared}
use Rattle.deadpool_parts.specs.declared.errors.PoolError.{PoolError}
use Rattle.deadpool_parts.specs.declared.errors.PoolError.TheVariants.{Closed, PostCreateHook}
use Rattle.deadpool_parts.specs.declared.errors.HookError.{HookError}
use Rattle.deadpool_managed.specs.Get.{AfterDiscard, GivesUp, ended_by}
use Rattle.deadpool_managed.specs.declared.calls.Position.{Position}
use Rattle.deadpool_managed.specs.declared.calls.Verdict.{Verdict}
use Rattle.deadpool_desk.specs.declared.step.Reply.{Reply}
use Rattle.deadpool_desk.specs.declared.step.Reply.TheVariants as reply
use Rattle.deadpool_managed.specs.Slots.{Slot}
use Rattle.deadpool_managed.specs.Stages.{Preparation, PreRecycle, Recycle, PostRecycle, Prepared, Accepted, GivenUp}
use Rattle.deadpool_managed.specs.Stages.{Pending, Stage}
use Rattle.deadpool_managed.specs.declared.prepare.Preparing.{Preparing}
use Rattle.deadpool_managed.specs.declared.prepare.Preparing.TheVariants as preparing
use Rattle.deadpool_managed.specs.declared.prepare.Outcome.{Outcome}
use Rattle.deadpool_managed.specs.declared.prepare.Outcome.TheVariants as outcome
use Rattle.deadpool_managed.specs.declared.work.Phase.{Phase}
use Rattle.deadpool_managed.specs.declared.work.Phase.TheVariants as phase
use Rattle.deadpool_managed.specs.declared.work.Came.{Came}
use Rattle.deadpool_managed.specs.declared.work.Came.TheVariants as came
use Rattle.deadpool_managed.specs.declared.get.Turn.{Turn}
use Rattle.deadpool_managed.specs.declared.get.Turn.TheVariants as turn

module _ {V R S : Type 0} where
  -- the preparation of the object beside it
  abbrev pub preparation_of : Slot V → Preparing R S → Preparation V R S
  preparation_of slot (preparing.PreRecycle at) = PreRecycle slot at
  preparation_of slot (preparing.Recycle r deadline) = Recycle slot r deadline
  preparation_of slot (preparing.PostRecycle at) = PostRecycle slot at

  abbrev pub prepared_of : Slot V → Outcome R S → Prepared V R S
  prepared_of slot outcome.Accepted = Accepted slot
  prepared_of slot outcome.GivenUp = GivenUp slot
  prepared_of slot (outcome.Pending preparing) = Pending (preparation_of slot preparing)

module _ {V C R S : Type 0} where
  -- an idle object under preparation, in its place
  abbrev pub recycling_at : Preparing R S → Option ℕ → Option (Slot V) → Stage V C R S
  recycling_at preparing allowance (Some slot) = Stage.Recycling (preparation_of slot preparing) allowance
  recycling_at preparing allowance None = Stage.Finished

  abbrev pub stage_of : Phase C R S → Option (Slot V) → Stage V C R S
  stage_of phase.Unpolled slot = Stage.Unpolled
  stage_of (phase.Queued ticket deadline) slot = Stage.Queued ticket deadline
  stage_of (phase.Going allowance) slot = Stage.Going allowance
  stage_of (phase.Creating begun deadline) slot = Stage.Creating begun deadline
  stage_of (phase.Served left) slot = recycling_at (preparing.PreRecycle start) (Some left) slot
  stage_of (phase.Recycling preparing) slot = recycling_at preparing None slot
  stage_of (phase.Checking at) (Some slot) = Stage.Checking slot at
  stage_of (phase.Checking at) None = Stage.Finished
  stage_of phase.Finished slot = Stage.Finished

  -- The object is there where it is prepared or checked, and ready where it has to be. Before that there is none.
  abbrev pub IsPlaced : (V → Type 0) → Phase C R S → Option (Slot V) → Type 0
  IsPlaced P phase.Unpolled slot = slot ≡ None
  IsPlaced P (phase.Queued ticket deadline) slot = slot ≡ None
  IsPlaced P (phase.Going allowance) slot = slot ≡ None
  IsPlaced P (phase.Creating begun deadline) slot = slot ≡ None
  IsPlaced P (phase.Recycling preparing) (Some slot) = IsReadyPreparation P (preparation_of slot preparing)
  IsPlaced P (phase.Recycling preparing) None = ⊥
  IsPlaced P (phase.Served left) (Some slot) = ⊤
  IsPlaced P (phase.Served left) None = ⊥
  IsPlaced P (phase.Checking at) (Some slot) = P slot.value.value
  IsPlaced P (phase.Checking at) None = ⊥
  IsPlaced P phase.Finished slot = ⊤

-- neither unpolled nor served just now
abbrev pub IsPending : {C R S : Type 0} → Phase C R S → Type 0
IsPending phase.Unpolled = ⊥
IsPending (phase.Served left) = ⊥
IsPending _ = ⊤

-- how far a get is, and the object that it prepares or gives
pub record Working (V C R S : Type 0) : Type 0 where
  pub phase : Phase C R S
  pub slot : Option (Slot V)

module _ {V E : Type 0} where
  -- what a step came to, with the object that it may give beside it
  abbrev pub turn_of : Came E → Option (Slot V) → Turn V E
  turn_of came.More slot = turn.More
  turn_of came.Pending slot = turn.Pending
  turn_of came.Given (Some slot) = turn.Done (Ok slot)
  turn_of came.Given None = turn.Pending
  turn_of (came.Failed cause) slot = turn.Done (Err cause)

-- what a step comes to whose last reply was this
abbrev pub came_by : {E : Type 0} → PoolError E → Reply → Came E
came_by cause reply.Done = came.Failed cause
came_by cause _ = came.Failed Closed

module _ {V E C R S F A : Type 0} (may : May V E C R S F A) where
  -- the object in its place is prepared further, and stays there
  abbrev pub PreparesIn : Moment → Option Runtime → Option Duration → HookLists F A → Preparing R S → Option (Slot V)
      → Outcome R S → Option (Slot V) → Type 0
  PreparesIn now runtime timeout hooks preparing (Some slot) outcome (Some left) =
      Gives may (prepare now runtime timeout hooks (preparation_of slot preparing)) (prepared_of left outcome)
  PreparesIn now runtime timeout hooks preparing _ outcome _ = ⊥

  abbrev pub ChecksIn : HookLists F A → Position S → Option (Slot V) → Verdict S E → Option (Slot V) → Type 0
  ChecksIn hooks at (Some slot) verdict (Some left) =
      Gives {A = Verdict S E × V} may (post_create {E = E} {C = C} {R = R} hooks slot at) (verdict, left.value.value)
      × (left ≡ with_value left.value.value slot)
  ChecksIn hooks at _ verdict _ = ⊥

  -- an object that was given up, if there was one
  abbrev pub GivesUpIn : Option (Slot V) → Reply → Type 0
  GivesUpIn (Some slot) reply = GivesUp may slot.value.value reply
  GivesUpIn None reply = ⊤

  abbrev pub DiscardsIn : Option (Slot V) → Option ℕ → Reply → Stage V C R S → Turn V E → Type 0
  DiscardsIn (Some slot) allowance reply after came = AfterDiscard may slot.value.value allowance reply after came
  DiscardsIn None allowance reply after came = ⊤

  abbrev pub RefusesIn : Option (Slot V) → HookError E → Reply → Stage V C R S → Turn V E → Type 0
  RefusesIn (Some slot) cause reply after came =
      GivesUp may slot.value.value reply × (after ≡ Stage.Finished) × (came ≡ ended_by (PostCreateHook cause) reply)
  RefusesIn None cause reply after came = ⊤

abbrev pub IsReadyHeld : {V : Type 0} → (V → Type 0) → Option (Slot V) → Type 0
IsReadyHeld P (Some slot) = P slot.value.value
IsReadyHeld P None = ⊥

-- the outcome's object is in its place, and ready where it has to be
abbrev pub IsReadyIn : {V R S : Type 0} → (V → Type 0) → Outcome R S → Option (Slot V) → Type 0
IsReadyIn P outcome (Some slot) = IsReadyPrepared P (prepared_of slot outcome)
IsReadyIn P outcome None = ⊥
