-- The steps of a core. What a step makes of the desk is the desk machine's. Beside it stands what becomes of those in
-- the queue that were not told that their wait has ended: who comes is the last of them, who leaves is none of them,
-- and none of the steps tells anybody.
use Rattle.std.specs.Prelude.{◌≡◌, ◌<◌, ℕ, List, [], ◌∷◌, ◌++◌, Option, Result}
use Rattle.std.specs.Option.{option_or}
use Rattle.std.specs.declared.alloc.AllocError.{AllocError}
use Rattle.deadpool_gate.specs.Numbers.{without_number}
use Rattle.deadpool_gate.specs.Room.{IsFull, KeepsRoom}
use Rattle.deadpool_gate.specs.Waking.{next_due, still_unnotified}
use Rattle.deadpool_desk.specs.CoreState.{CoreState, listed}
use Rattle.deadpool_desk.specs.DeskSteps as desk
use Rattle.deadpool_desk.specs.Retains as desk_retains
use Rattle.deadpool_desk.specs.Retained.{Retained}
use Rattle.deadpool_desk.specs.declared.owner_step.OwnerReply.{OwnerReply}
use Rattle.deadpool_desk.specs.declared.owner_step.OwnerStep.{OwnerStep}
use Rattle.deadpool_desk.specs.declared.retain.Removal.{Removal}
use Rattle.deadpool_desk.specs.declared.retain.Retainer.{Ghosts as RetainerOf}
use Rattle.deadpool_desk.specs.declared.slot.Slot.{Slot}
use Rattle.deadpool_desk.specs.declared.step.Reply.{Reply}
use Rattle.deadpool_desk.specs.declared.step.Reply.TheVariants.{Waiting, OutOfMemory, Done, Unknown}
use Rattle.deadpool_desk.specs.declared.step.Step.{Step}
use Rattle.deadpool_desk.specs.declared.step.Step.TheVariants.{Enter, Ask, Withdraw}

-- who joins the queue is the last of the unnotified, and who asks leaves them, unless it has to wait on
abbrev pub unnotified_after : Step → Reply → List ℕ → List ℕ
unnotified_after (Enter wait) (Waiting ticket) unnotified = unnotified ++ ticket ∷ []
unnotified_after (Ask ticket expired) Unknown unnotified = unnotified
unnotified_after (Ask ticket expired) (Waiting same) unnotified = unnotified
unnotified_after (Ask ticket expired) _ unnotified = without_number ticket unnotified
unnotified_after (Withdraw ticket) Done unnotified = without_number ticket unnotified
unnotified_after _ _ unnotified = unnotified

module _ {T : Type 0} where
  -- Who joins the queue has the next ticket, whose number is below the room if there was some. Memory is wanting only
  -- where the queue had no room. Nothing else touches its room.
  abbrev pub Queues : CoreState T → Step → Reply → CoreState T → Type 0
  Queues c (Enter wait) (Waiting ticket) c' =
      (ticket ≡ c.next_ticket) × (listed c < c.queue_room → ticket < c.queue_room)
      × KeepsRoom (listed c) c.queue_room c'.queue_room
  Queues c (Enter wait) OutOfMemory c' =
      IsFull c.queue_room (listed c) × KeepsRoom (listed c) c.queue_room c'.queue_room
  Queues c _ _ c' = c'.queue_room ≡ c.queue_room

  -- a step with the object that is taken or given
  abbrev pub Steps : CoreState T → Step → Option (Slot T) → Reply → CoreState T → Type 0
  Steps c step object reply c' =
      desk.Does c.desk step object reply c'.desk × (c'.unnotified ≡ unnotified_after step reply c.unnotified)
      × Queues c step reply c'

  -- the same, with what was in the hand, and what is in it then
  abbrev pub Makes : CoreState T → Step → Option (Slot T) → Reply → Option (Slot T) → CoreState T → Type 0
  Makes c step was reply hand c' = Steps c step (option_or was hand) reply c'

  -- a step of the owner
  abbrev pub MakesForOwner : CoreState T → OwnerStep → OwnerReply → CoreState T → Type 0
  MakesForOwner c step reply c' =
      desk.DoesForOwner c.desk step reply c'.desk × (c'.unnotified ≡ c.unnotified) × (c'.queue_room ≡ c.queue_room)

  abbrev pub Retains : {R L : Type 0} → RetainerOf R T L → CoreState T → R → Result (Retained L) AllocError
      → CoreState T → R → Type 0
  Retains asks c r result c' r' =
      desk_retains.Retains asks c.desk r result c'.desk r' × (c'.unnotified ≡ c.unnotified)
      × (c'.queue_room ≡ c.queue_room)

  abbrev pub RetainsNoting : {R L : Type 0} → RetainerOf R T L → CoreState T → R
      → Result (Retained L × List Removal) AllocError → CoreState T → R → Type 0
  RetainsNoting asks c r result c' r' =
      desk_retains.RetainsNoting asks c.desk r result c'.desk r' × (c'.unnotified ≡ c.unnotified)
      × (c'.queue_room ≡ c.queue_room)

  -- the ticket of the get that is to be woken next
  abbrev pub due_now : CoreState T → Option ℕ
  due_now c = next_due c.desk.is_open c.desk.granted c.unnotified

  -- It is told. This is no step of the desk.
  abbrev pub Notifies : CoreState T → Option ℕ → CoreState T → Type 0
  Notifies c named c' =
      (named ≡ due_now c) × (c'.desk ≡ c.desk) × (c'.unnotified ≡ still_unnotified named c.unnotified)
      × (c'.queue_room ≡ c.queue_room)
