-- A get as a state that is polled: what one poll makes of it and of the pool, and what its cancelling does.
use Rattle.std.specs.Prelude.{◌≡◌, ℕ, true, false, not, ◌⊎◌, if◌then◌else◌, Option, Some, None, Result, Ok, Err}
use Rattle.futures.specs.declared.task.Poll.{Poll}
use Rattle.futures.specs.declared.task.Poll.TheVariants.{Ready, Pending}
use Rattle.deadpool_parts.specs.Moments.{deadline_after, is_reached, cannot_wait}
use Rattle.deadpool_parts.specs.declared.moment.Moment.{Moment}
use Rattle.deadpool_parts.specs.declared.moment.Runtime.{Runtime}
use Rattle.deadpool_unmanaged.specs.State.{State}
use Rattle.deadpool_unmanaged.specs.StateSteps.{Does}
use Rattle.deadpool_unmanaged.specs.declared.error.PoolError.{PoolError}
use Rattle.deadpool_unmanaged.specs.declared.error.PoolError.TheVariants.{Timeout, Closed, NoRuntimeSpecified}
use Rattle.deadpool_unmanaged.specs.declared.error.PoolError.TheVariants.{Crowded, OutOfMemory}
use Rattle.deadpool_unmanaged.specs.declared.get.GetStage.{GetStage}
use Rattle.deadpool_unmanaged.specs.declared.get.GetStage.TheVariants.{Unpolled, Queued, Finished}
use Rattle.deadpool_unmanaged.specs.declared.step.Reply.{Reply}
use Rattle.deadpool_unmanaged.specs.declared.step.Reply.TheVariants as reply
use Rattle.deadpool_unmanaged.specs.declared.step.Step.{Step}
use Rattle.deadpool_unmanaged.specs.declared.step.Step.TheVariants.{GetEnter, GetAsk, GetCancel}

-- the ticket and the deadline of a get in the queue
abbrev pub ticket_of : GetStage → Option ℕ
ticket_of (Queued ticket deadline) = Some ticket
ticket_of _ = None

abbrev pub deadline_of : GetStage → Option Moment
deadline_of (Queued ticket deadline) = deadline
deadline_of _ = None

-- the stage of a get whose step was answered so
abbrev pub stage_after : Option Moment → Reply → GetStage
stage_after deadline (reply.Waiting ticket) = Queued ticket deadline
stage_after deadline _ = Finished

-- The step that a poll makes, with the deadline of its wait. Or it makes none, since it is refused, or has ended.
abbrev pub begun : Option Runtime → Moment → GetStage → Result (Step × Option Moment) (Option PoolError)
begun runtime now (Unpolled wait) =
    if cannot_wait runtime wait
    then Err (Some NoRuntimeSpecified)
    else Ok (GetEnter (not (is_reached (deadline_after now wait) now)), deadline_after now wait)
begun runtime now (Queued ticket deadline) = Ok (GetAsk ticket (is_reached deadline now), deadline)
begun runtime now Finished = Err None

module _ {T : Type 0} where
  -- what its poll comes to, with what is in the hand then
  abbrev pub turn_after : Reply → Option T → Poll (Result T PoolError)
  turn_after (reply.Waiting ticket) hand = Pending
  turn_after reply.Full hand = Ready (Err Timeout)
  turn_after reply.Expired hand = Ready (Err Timeout)
  turn_after reply.Crowded hand = Ready (Err Crowded)
  turn_after reply.OutOfMemory hand = Ready (Err OutOfMemory)
  turn_after _ (Some value) = Ready (Ok value)
  turn_after _ None = Ready (Err Closed)

  -- a poll that makes this step
  abbrev pub AsksGet : Step → Option Moment → State T → Poll (Result T PoolError) → GetStage → State T → Type 0
  AsksGet step deadline d turn after d' =
      (answer : Reply)
      × ((hand : Option T)
      × (Does d step hand answer d' × (turn ≡ turn_after answer hand) × (after ≡ stage_after deadline answer)))

  -- One poll from a stage: no step, an entry or an asking. With no runtime to end its wait a get does not enter.
  abbrev pub PollsGet : Option Runtime → Moment → GetStage → State T → Poll (Result T PoolError) → GetStage → State T
      → Type 0
  PollsGet runtime now (Unpolled wait) d turn after d' =
      ((cannot_wait runtime wait ≡ true) × (turn ≡ Ready (Err NoRuntimeSpecified)) × (after ≡ Finished) × (d' ≡ d))
      ⊎ ((cannot_wait runtime wait ≡ false)
      × AsksGet (GetEnter (not (is_reached (deadline_after now wait) now))) (deadline_after now wait) d turn after d')
  PollsGet runtime now (Queued ticket deadline) d turn after d' =
      AsksGet (GetAsk ticket (is_reached deadline now)) deadline d turn after d'
  PollsGet runtime now Finished d turn after d' = (turn ≡ Pending) × (after ≡ Finished) × (d' ≡ d)

  -- a get that is cancelled leaves the queue
  abbrev pub CancelsGet : GetStage → State T → State T → Type 0
  CancelsGet (Queued ticket deadline) d d' = (answer : Reply) × Does d (GetCancel ticket) None answer d'
  CancelsGet _ d d' = d' ≡ d
