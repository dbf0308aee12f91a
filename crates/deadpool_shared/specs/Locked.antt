-- What is done under the lock of a pool, with the wakers of those in its queue.
use Rattle.std.specs.Prelude.{◌≡◌, ◌⊎◌, ◌&&◌, ◌==◌, ◌≤◌, not, ℕ, Bool, true, false, List, length, Option, Some, None}
use Rattle.std.specs.Prelude.{if◌then◌else◌}
use Rattle.futures.specs.declared.task.waker.Waker.{Waker}
use Rattle.deadpool_gate.specs.Gate.{waiting_count}
use Rattle.deadpool_desk.specs.Closing.{is_drained}
use Rattle.deadpool_desk.specs.CoreState.{HasRoom, most_next_ticket}
use Rattle.deadpool_desk.specs.DeskState.{DeskState, would_queue}
use Rattle.deadpool_desk.specs.declared.slot.Slot.{Slot}
use Rattle.deadpool_desk.specs.declared.step.Reply.{Reply}
use Rattle.deadpool_desk.specs.declared.step.Held.TheVariants as held
use Rattle.deadpool_desk.specs.declared.step.Reply.TheVariants.{Waiting, OutOfMemory, Kept, Taken}
use Rattle.deadpool_desk.specs.declared.step.Step.{Step}
use Rattle.deadpool_desk.specs.declared.step.Step.TheVariants.{Enter, Ask, Withdraw, Failed, Refused, Back, Take}
use Rattle.deadpool_desk.specs.declared.step.Step.TheVariants.{Cancel}
use Rattle.deadpool_history.specs.History.{Awaited}
use Rattle.deadpool_journal.specs.Journaling.{Journaling}
use Rattle.deadpool_journal.specs.Steps.{MakesNoted, NotifiesUnnoted}
use Rattle.deadpool_journal.specs.declared.journal.Journal.{Journal}
use Rattle.deadpool_lock.specs.Ends.{EndsState, TellsFirst, has_come}
use Rattle.deadpool_lock.specs.Places.{with_room, Follows}

-- the ticket of a get that makes this step
abbrev pub ticket_of : Step → Option ℕ
ticket_of (Ask ticket expired) = Some ticket
ticket_of (Withdraw ticket) = Some ticket
ticket_of _ = None

-- the ticket that it has after this reply
abbrev pub ticket_after : Reply → Option ℕ
ticket_after (Waiting ticket) = Some ticket
ticket_after _ = None

-- whether it is a new get that may wait
abbrev pub may_wait : Step → Bool
may_wait (Enter wait) = wait
may_wait _ = false

-- whether the holder that made this step still has to detach or to drop what it has let go of
abbrev pub lets_go : Step → Reply → Bool
lets_go Back Kept = false
lets_go Back _ = true
lets_go Take (Taken detach) = detach
lets_go Failed _ = true
lets_go Refused _ = true
lets_go (Cancel held.Place) _ = false
lets_go (Cancel _) _ = true
lets_go _ _ = false

-- of those that wait for the end of a pool, and of what is still to be dropped, what its history has
abbrev pub awaited_by : EndsState → Awaited
awaited_by ends = record { drains = waiting_count ends.line.waiters; departing = ends.departing }

-- The waker of the get that is named is taken out. If none is named, one that waits for the end is told once that has
-- come, and no get's waker is touched.
abbrev pub Tells : Option ℕ → Bool → List (Option Waker) → EndsState → Option Waker → List (Option Waker) → EndsState
    → Type 0
Tells (Some number) is_due wakers ends waker wakers' ends' =
    Follows (Some number) None wakers None waker wakers' None × (ends' ≡ ends)
Tells None true wakers ends waker wakers' ends' = TellsFirst ends waker ends' × (wakers' ≡ wakers)
Tells None false wakers ends waker wakers' ends' = (waker ≡ None) × (wakers' ≡ wakers) × (ends' ≡ ends)

module _ {T : Type 0} where
  -- a new get has to join the queue, if it may wait
  abbrev pub joins : Step → Journaling T → Bool
  joins step j = may_wait step && would_queue j.core.desk

  -- A step is made, and the wakers go with it. Of a new get that has to join the queue there is a place for its waker
  -- before, in which the waker stands if the get waits. Or there is no memory for that place, and no step is made.
  abbrev pub MakesLocked : {W : Type 0} → Journaling T → List (Option W) → Step → Option (Slot T) → Option W → Reply
      → Option (Slot T) → Journaling T → List (Option W) → Option W → Option W → Type 0
  MakesLocked j wakers step was waker reply hand j' wakers' waker' spare =
      (MakesNoted j step was reply hand j'
      × Follows (ticket_of step) (ticket_after reply)
      (if joins step j then with_room (most_next_ticket j.core) wakers else wakers) waker spare wakers' waker')
      ⊎ ((joins step j ≡ true) × (reply ≡ OutOfMemory) × (hand ≡ was) × (j' ≡ j) × (wakers' ≡ wakers) × (waker' ≡ waker)
      × (spare ≡ None))

  -- There is room in the queue for all gets that may wait, and a place for the waker of each.
  abbrev pub HasRoomFor : {W : Type 0} → Journaling T → List (Option W) → Type 0
  HasRoomFor j wakers = HasRoom j.core × (j.core.queue_room ≤ length wakers)

  -- Somebody waits for the end of a pool, which has come.
  abbrev pub is_end_due : EndsState → DeskState (Slot T) → Bool
  is_end_due ends d = not (waiting_count ends.line.waiters == 0) && has_come (is_drained d) ends

  -- The get that is to be told next is named, or one that waits for the end is told. Neither is a step.
  abbrev pub TellsLocked : Journaling T → List (Option Waker) → EndsState → Option Waker → Journaling T
      → List (Option Waker) → EndsState → Type 0
  TellsLocked j wakers ends waker j' wakers' ends' =
      (named : Option ℕ)
      × (NotifiesUnnoted j named j' × Tells named (is_end_due ends j.core.desk) wakers ends waker wakers' ends')

  -- what a copy of the journal has
  abbrev pub IsCopy : Journaling T → Journal → Type 0
  IsCopy j journal =
      (journal.limit ≡ j.limit) × (journal.mode ≡ j.mode) × (journal.min_idle ≡ j.min_idle)
      × (journal.max_waiting ≡ j.max_waiting)
      × (journal.entries.items ≡ j.log.entries) × (journal.full ≡ j.log.is_full)
