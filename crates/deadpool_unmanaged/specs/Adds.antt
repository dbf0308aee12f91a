-- An add as a state that is polled: what one poll makes of it and of the pool, and what its cancelling does.
use Rattle.std.specs.Prelude.{◌≡◌, ℕ, ⊤, true, Option, Some, None, Result, Ok, Err}
use Rattle.futures.specs.declared.task.Poll.{Poll}
use Rattle.futures.specs.declared.task.Poll.TheVariants.{Ready, Pending}
use Rattle.deadpool_unmanaged.specs.State.{State}
use Rattle.deadpool_unmanaged.specs.StateSteps.{Does}
use Rattle.deadpool_unmanaged.specs.Replies.{Leaves}
use Rattle.deadpool_unmanaged.specs.declared.add.AddStage.{AddStage}
use Rattle.deadpool_unmanaged.specs.declared.add.AddStage.TheVariants.{Unpolled, Queued, Finished}
use Rattle.deadpool_unmanaged.specs.declared.error.PoolError.{PoolError}
use Rattle.deadpool_unmanaged.specs.declared.error.PoolError.TheVariants.{Timeout, Closed, Crowded, OutOfMemory}
use Rattle.deadpool_unmanaged.specs.declared.step.Reply.{Reply}
use Rattle.deadpool_unmanaged.specs.declared.step.Reply.TheVariants as reply
use Rattle.deadpool_unmanaged.specs.declared.step.Step.{Step}
use Rattle.deadpool_unmanaged.specs.declared.step.Step.TheVariants.{AddEnter, AddAsk, AddCancel}

module _ {T : Type 0} where
  -- the object that an add still has
  abbrev pub held_by : AddStage T → Option T
  held_by (Unpolled value) = Some value
  held_by (Queued ticket value) = Some value
  held_by Finished = None

  abbrev pub IsUnpolled : AddStage T → Type 0
  IsUnpolled (Unpolled value) = ⊤
  IsUnpolled _ = ⊥

  -- the ticket of an add in the queue
  abbrev pub ticket_of : AddStage T → Option ℕ
  ticket_of (Queued ticket value) = Some ticket
  ticket_of _ = None

  -- the step that a poll makes, and the object for it
  abbrev pub begun : AddStage T → Option (Step × T)
  begun (Unpolled value) = Some (AddEnter true, value)
  begun (Queued ticket value) = Some (AddAsk ticket, value)
  begun Finished = None

  -- the stage of an add whose step was answered so, with what is left in the hand then, and what its poll comes to
  abbrev pub stage_after : Reply → Option T → AddStage T
  stage_after (reply.Waiting ticket) (Some value) = Queued ticket value
  stage_after _ _ = Finished

  abbrev pub turn_after : Reply → Option T → Poll (Result (Unit {0}) (T × PoolError))
  turn_after _ None = Ready (Ok tt)
  turn_after (reply.Waiting ticket) (Some value) = Pending
  turn_after reply.Full (Some value) = Ready (Err (value, Timeout))
  turn_after reply.Crowded (Some value) = Ready (Err (value, Crowded))
  turn_after reply.OutOfMemory (Some value) = Ready (Err (value, OutOfMemory))
  turn_after _ (Some value) = Ready (Err (value, Closed))

  -- it ends because no memory was found
  abbrev pub IsWithoutMemory : Poll (Result (Unit {0}) (T × PoolError)) → Type 0
  IsWithoutMemory (Ready (Err (value, OutOfMemory))) = Unit {0}
  IsWithoutMemory _ = ⊥

  -- a poll that makes this step with its object
  abbrev pub AsksAdd : Step → T → State T → Poll (Result (Unit {0}) (T × PoolError)) → AddStage T → State T → Type 0
  AsksAdd step value d turn after d' =
      (answer : Reply) × ((hand : Option T)
      × (Does d step (Some value) answer d' × Leaves answer (Some value) hand × (turn ≡ turn_after answer hand)
      × (after ≡ stage_after answer hand)))

  -- one poll from a stage: an entry, an asking, or no step
  abbrev pub PollsAdd : AddStage T → State T → Poll (Result (Unit {0}) (T × PoolError)) → AddStage T → State T → Type 0
  PollsAdd (Unpolled value) d turn after d' = AsksAdd (AddEnter true) value d turn after d'
  PollsAdd (Queued ticket value) d turn after d' = AsksAdd (AddAsk ticket) value d turn after d'
  PollsAdd Finished d turn after d' = (turn ≡ Pending) × (after ≡ Finished) × (d' ≡ d)

  -- an add that is cancelled leaves the queue
  abbrev pub CancelsAdd : AddStage T → State T → State T → Type 0
  CancelsAdd (Queued ticket value) d d' = (answer : Reply) × Does d (AddCancel ticket) None answer d'
  CancelsAdd _ d d' = d' ≡ d
