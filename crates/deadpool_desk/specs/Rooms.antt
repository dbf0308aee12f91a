-- A queue with room for all that may wait: what is done with the pool leaves it so, and no get is refused for want of
-- memory.
use Rattle.std.specs.Prelude.{◌≤◌, Bool, Option, Result}
use Rattle.std.specs.declared.alloc.AllocError.{AllocError}
use Rattle.deadpool_desk.specs.CoreState.{CoreState, HasRoom}
use Rattle.deadpool_desk.specs.CoreSteps.{MakesForOwner, Retains, Steps}
use Rattle.deadpool_desk.specs.DeskState.{places}
use Rattle.deadpool_desk.specs.Retained.{Retained}
use Rattle.deadpool_desk.specs.declared.owner_step.OwnerReply.{OwnerReply}
use Rattle.deadpool_desk.specs.declared.owner_step.OwnerStep.{OwnerStep}
use Rattle.deadpool_desk.specs.declared.retain.Retainer.{Ghosts as RetainerOf}
use Rattle.deadpool_desk.specs.declared.slot.Slot.{Slot}
use Rattle.deadpool_desk.specs.declared.step.Reply.{Reply}
use Rattle.deadpool_desk.specs.declared.step.Reply.TheVariants.{OutOfMemory}
use Rattle.deadpool_desk.specs.declared.step.Step.{Step}
use Rattle.deadpool_desk.specs.declared.step.Step.TheVariants.{Enter}

abbrev pub KeepsRoomToWait : {T : Type 0} → CoreState T → CoreState T → Type 0
KeepsRoomToWait c c' = HasRoom c → HasRoom c'

module _ (T : Type 0) where
  abbrev pub StepsKeepRoom : Type 0
  StepsKeepRoom = (c c' : CoreState T) (step : Step) (object : Option (Slot T)) (reply : Reply)
      → Steps c step object reply c'
      → KeepsRoomToWait c c'

  -- of the owner's steps each but a resize above the greatest limit so far
  abbrev pub OwnerStepsKeepRoom : Type 0
  OwnerStepsKeepRoom = (c c' : CoreState T) (step : OwnerStep) (reply : OwnerReply) → MakesForOwner c step reply c'
      → c'.desk.reserve ≤ c.desk.reserve
      → KeepsRoomToWait c c'

  -- In a pool, in which no more places are held than there is room for objects.
  abbrev pub NobodyIsRefused : Type 0
  NobodyIsRefused = (c c' : CoreState T) (wait : Bool) (object : Option (Slot T)) → HasRoom c
      → places c.desk ≤ c.desk.reserve
      → Steps c (Enter wait) object OutOfMemory c'
      → ⊥

abbrev pub RetainsKeepRoom : {T R L : Type 0} → RetainerOf R T L → Type 0
RetainsKeepRoom {T} {R} {L} asks =
    (c c' : CoreState T) (r r' : R) (result : Result (Retained L) AllocError) → Retains asks c r result c' r'
    → KeepsRoomToWait c c'
