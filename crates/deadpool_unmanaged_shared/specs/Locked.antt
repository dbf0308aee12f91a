-- What is done under the lock of a pool.
use Rattle.std.specs.Prelude.{◌≡◌, true, false, ◌⊎◌, ◌&&◌, ◌==◌, not, Bool, ℕ, is_some, if◌then◌else◌, List, Option}
use Rattle.std.specs.Prelude.{None, Some, Result, Err, slice_set}
use Rattle.std.specs.Option.{option_map_or}
use Rattle.futures.specs.declared.task.Poll.{Poll}
use Rattle.futures.specs.declared.task.Poll.TheVariants.{Ready}
use Rattle.futures.specs.declared.task.waker.Waker.{Waker}
use Rattle.deadpool_lock.specs.Ends.{EndsState, TellsFirst, end_waker, has_come}
use Rattle.deadpool_lock.specs.Places.{Follows, waker_at, with_room}
use Rattle.deadpool_gate.specs.Gate.{waiting_count}
use Rattle.deadpool_gate.specs.Waking.{still_unnotified}
use Rattle.deadpool_parts.specs.declared.moment.Moment.{Moment}
use Rattle.deadpool_parts.specs.declared.moment.Runtime.{Runtime}
use Rattle.deadpool_unmanaged.specs.Closing.{is_drained}
use Rattle.deadpool_unmanaged_history.specs.Awaited.{Awaited}
use Rattle.deadpool_unmanaged.specs.State.{State, due_get, due_add}
use Rattle.deadpool_unmanaged.specs.StateSteps.{Does}
use Rattle.deadpool_unmanaged.specs.Replies.{Leaves}
use Rattle.deadpool_unmanaged.specs.Queueing.{get_joins, add_joins}
use Rattle.deadpool_unmanaged.specs.Gets as gets
use Rattle.deadpool_unmanaged.specs.Adds as adds
use Rattle.deadpool_unmanaged.specs.declared.add.AddStage.{AddStage}
use Rattle.deadpool_unmanaged.specs.declared.add.AddStage.TheVariants as adding
use Rattle.deadpool_unmanaged.specs.declared.error.PoolError.{PoolError}
use Rattle.deadpool_unmanaged.specs.declared.error.PoolError.TheVariants.{OutOfMemory}
use Rattle.deadpool_unmanaged.specs.declared.get.GetStage.{GetStage}
use Rattle.deadpool_unmanaged.specs.declared.get.GetStage.TheVariants as getting
use Rattle.deadpool_unmanaged.specs.declared.step.Reply.{Reply}
use Rattle.deadpool_unmanaged.specs.declared.step.Step.TheVariants.{GetEnter, AddEnter}

-- of those that wait for the end of a pool, and of what is still to be dropped, what its history has
abbrev pub awaited_by : EndsState → Awaited
awaited_by ends = record { drains = waiting_count ends.line.waiters; departing = ends.departing }

-- What a poll does to the places of a queue, by the ticket that its party had and the one that it has, with the waker
-- that it lends: of one that would join the queue there is a place before, under the next number. Or there is no memory
-- for that place, or no waker, and nothing has changed.
abbrev pub FollowsOrRefuses : Bool → ℕ → Option ℕ → Option ℕ → List (Option Waker) → Option Waker → Option Waker
    → List (Option Waker) → Option Waker → Type 0
FollowsOrRefuses joins next before after places waker spare places' waker' =
    Follows before after (if joins then with_room next places else places) waker spare places' waker'
    ⊎ ((joins ≡ true) × (after ≡ None) × (places' ≡ places) × (waker' ≡ waker) × (spare ≡ None))

-- the places without the waker of this ticket, if one is named
abbrev pub without_waker : Option ℕ → List (Option Waker) → List (Option Waker)
without_waker None places = places
without_waker (Some ticket) places = slice_set places ticket None

-- One that waits for the end leaves as it is told, if nobody else is due. Otherwise nobody does.
abbrev pub TellsIfDue : Bool → Bool → EndsState → Option Waker → EndsState → Type 0
TellsIfDue false true ends waker ends' = TellsFirst ends waker ends'
TellsIfDue _ _ ends waker ends' = ends' ≡ ends

module _ {T : Type 0} where
  -- One poll of a get, as its state is polled. Or it would join the queue, there is no memory for its waker, and it
  -- ends without a step.
  abbrev pub PollsGet : Option Runtime → Moment → GetStage → State T → Poll (Result T PoolError) → GetStage → State T
      → Type 0
  PollsGet runtime now before d turn after d' =
      gets.PollsGet runtime now before d turn after d'
      ⊎ ((get_joins runtime now before d ≡ true) × (turn ≡ Ready (Err OutOfMemory)) × (after ≡ getting.Finished)
      × (d' ≡ d))

  -- the same of an add, which then hands its object back
  abbrev pub PollsAdd : AddStage T → State T → Poll (Result (Unit {0}) (T × PoolError)) → AddStage T → State T → Type 0
  PollsAdd before d turn after d' =
      adds.PollsAdd before d turn after d'
      ⊎ ((value : T)
      × ((adds.held_by before ≡ Some value)
      × (add_joins before d ≡ true)
      × (turn ≡ Ready (Err (value, OutOfMemory)))
      × (after ≡ adding.Finished)
      × (d' ≡ d)))

  -- an entry that does not wait, by its reply and what is in the hand then
  abbrev pub TriesGet : State T → Result T PoolError → State T → Type 0
  TriesGet d got d' = (answer : Reply)
      × ((hand : Option T) × (Does d (GetEnter false) hand answer d' × (Ready got ≡ gets.turn_after answer hand)))

  abbrev pub TriesAdd : State T → T → Result (Unit {0}) (T × PoolError) → State T → Type 0
  TriesAdd d value added d' =
      (answer : Reply) × ((hand : Option T)
      × (Does d (AddEnter false) (Some value) answer d' × Leaves answer (Some value) hand
      × (Ready added ≡ adds.turn_after answer hand)))

  -- somebody waits for the end of a pool, which has come
  abbrev pub is_end_due : EndsState → State T → Bool
  is_end_due ends d = not (waiting_count ends.line.waiters == 0) && has_come (is_drained d) ends

  -- the waker of the get that is to be told next, or of the add, or of who waits for the end
  abbrev pub next_waker : State T → List (Option Waker) → List (Option Waker) → EndsState → Option Waker
  next_waker d of_gets of_adds ends =
      option_map_or (λ t. waker_at t of_gets) (due_get d)
      (option_map_or (λ t. waker_at t of_adds) (due_add d) (if is_end_due ends d then end_waker ends else None))

  -- the add that is to be told next, if no get is
  abbrev pub due_add_alone : State T → Option ℕ
  due_add_alone d = if is_some (due_get d) then None else due_add d

  -- and it has been told
  abbrev pub told : State T → State T
  told d =
      if is_some (due_get d)
      then record d { unnotified_gets = still_unnotified (due_get d) d.unnotified_gets }
      else record d { unnotified_adds = still_unnotified (due_add d) d.unnotified_adds }
