-- What a poll or a call adds to the history, as its caller sees it. The relation says what a caller knows of a step
-- that it made, by its entry.
use Rattle.std.specs.Prelude.{◌≡◌, ◌⊎◌, [], true, false, Option, Some, None, Result, Ok, Err}
use Rattle.futures.specs.declared.task.Poll.{Poll}
use Rattle.futures.specs.declared.task.Poll.TheVariants.{Ready}
use Rattle.deadpool_parts.specs.declared.moment.Moment.{Moment}
use Rattle.deadpool_parts.specs.declared.moment.Runtime.{Runtime}
use Rattle.deadpool_parts.specs.declared.status.Status.{Status}
use Rattle.deadpool_unmanaged.specs.Adds as adds
use Rattle.deadpool_unmanaged.specs.Gets as gets
use Rattle.deadpool_unmanaged.specs.Queueing.{get_joins, add_joins}
use Rattle.deadpool_unmanaged.specs.Replies.{Leaves}
use Rattle.deadpool_unmanaged.specs.State.{State}
use Rattle.deadpool_unmanaged.specs.declared.add.AddStage.{AddStage}
use Rattle.deadpool_unmanaged.specs.declared.add.AddStage.TheVariants as adding
use Rattle.deadpool_unmanaged.specs.declared.error.PoolError.{PoolError}
use Rattle.deadpool_unmanaged.specs.declared.error.PoolError.TheVariants.{OutOfMemory}
use Rattle.deadpool_unmanaged.specs.declared.get.GetStage.{GetStage}
use Rattle.deadpool_unmanaged.specs.declared.get.GetStage.TheVariants as getting
use Rattle.deadpool_unmanaged.specs.declared.step.Reply.{Reply}
use Rattle.deadpool_unmanaged.specs.declared.step.Step.TheVariants.{AddEnter, Back, GetEnter, Take}
use Rattle.deadpool_chronicle.specs.History.{Knowing, SeesMore}
use Rattle.deadpool_unmanaged_history.specs.History.{AllAreTold, HasCalled, IsTallyOf}
use Rattle.deadpool_unmanaged_history.specs.Polls.{CallsAdd, CallsGet}
use Rattle.deadpool_unmanaged_history.specs.Telling.{ThenTells}
use Rattle.deadpool_unmanaged_history.specs.declared.line.Line.{Line}
use Rattle.deadpool_unmanaged_journal.specs.declared.entry.Entry.{Entry}
use Rattle.deadpool_unmanaged_journal.specs.declared.entry.Entry.TheVariants.{Made, Owner}
use Rattle.deadpool_unmanaged_journal.specs.declared.owner_step.OwnerReply.{OwnerReply}
use Rattle.deadpool_unmanaged_journal.specs.declared.owner_step.OwnerReply.TheVariants as owner_reply
use Rattle.deadpool_unmanaged_journal.specs.declared.owner_step.OwnerStep.{OwnerStep}
use Rattle.deadpool_unmanaged_journal.specs.declared.owner_step.OwnerStep.TheVariants as owner_step
use Rattle.deadpool_unmanaged_journal.specs.declared.tally.Tally.{Tally}

-- These calls were made in the name of a new caller, of which nothing is given out but what is said here.
abbrev pub ByNewCaller : {C : Type 0} → (C → Type 0) → (C → C → Type 0) → Type 0
ByNewCaller is_new calls = (c : _) × ((c' : _) × (is_new c × calls c c'))

-- handles are counted by this step
abbrev pub CountsBy : {T C : Type 0} → OwnerStep → ((C → C → Type 0) → C → C → Type 0) → (C → Type 0)
    → (Entry T → C → C → Type 0) → Type 0
CountsBy step then_tells is_new calls =
    (made : OwnerReply) × ByNewCaller is_new (then_tells (calls (Owner step made)))

-- a future has its caller from its first poll on
abbrev pub IsSupplied : {C : Type 0} → (C → Type 0) → Option C → C → Type 0
IsSupplied is_new (Some c) supplied = supplied ≡ c
IsSupplied is_new None supplied = is_new supplied

module _ {T C : Type 0} (calls : Entry T → C → C → Type 0) where
  -- One poll of a get. Or it would join the queue, there is no memory for its waker, and it ends without a step.
  abbrev pub CallsOrRefusesGet : Option Runtime → Moment → GetStage → Poll (Result T PoolError) → GetStage → C → C
      → Type 0
  CallsOrRefusesGet runtime now before turn after c c' =
      CallsGet calls runtime now before turn after c c'
      ⊎ ((d : State T) × ((get_joins runtime now before d ≡ true)
      × (turn ≡ Ready (Err OutOfMemory)) × (after ≡ getting.Finished) × (c' ≡ c)))

  -- the same of an add, which then hands its object back
  abbrev pub CallsOrRefusesAdd : AddStage T → Poll (Result (Unit {0}) (T × PoolError)) → AddStage T → C → C → Type 0
  CallsOrRefusesAdd before turn after c c' =
      CallsAdd calls before turn after c c'
      ⊎ ((d : State T) × ((value : T) × ((adds.held_by before ≡ Some value) × (add_joins before d ≡ true)
      × (turn ≡ Ready (Err (value, OutOfMemory))) × (after ≡ adding.Finished) × (c' ≡ c))))

  -- an entry that does not wait, by its reply and what is in the hand then
  abbrev pub CallsTryGet : Result T PoolError → C → C → Type 0
  CallsTryGet got c c' =
      (answer : Reply) × ((hand : Option T)
      × (calls (Made (GetEnter false) hand answer) c c' × (Ready got ≡ gets.turn_after answer hand)))

  abbrev pub CallsTryAdd : T → Result (Unit {0}) (T × PoolError) → C → C → Type 0
  CallsTryAdd value added c c' =
      (answer : Reply) × ((hand : Option T)
      × (calls (Made (AddEnter false) (Some value) answer) c c' × Leaves answer (Some value) hand
      × (Ready added ≡ adds.turn_after answer hand)))

  -- an object comes back, or leaves for good
  abbrev pub CallsBack : T → C → C → Type 0
  CallsBack value c c' = (answer : Reply) × calls (Made Back (Some value) answer) c c'

  abbrev pub CallsTake : C → C → Type 0
  CallsTake c c' = (answer : Reply) × calls (Made Take None answer) c c'

  -- an entry that does not wait, whose object leaves for good, if it is given one
  abbrev pub CallsTryRemove : ((C → C → Type 0) → C → C → Type 0) → Result T PoolError → C → C → Type 0
  CallsTryRemove tells (Ok value) c c' =
      (out : C) × (tells (CallsTryGet (Ok value)) c out × tells CallsTake out c')
  CallsTryRemove tells (Err cause) c c' = tells (CallsTryGet (Err cause)) c c'

module _ {T : Type 0} where
  -- a caller of a history that has made no step yet
  abbrev pub IsNewCaller : Knowing (Line T) → Type 0
  IsNewCaller c = (c.mine ≡ []) × (c.admitted ≡ 0)

  -- The caller has asked for this status, and the history that ends with this step has this tally. After it all are
  -- told.
  abbrev pub AsksTally : Tally → Status → Knowing (Line T) → Knowing (Line T) → Type 0
  AsksTally tally status c c' =
      ThenTells SeesMore (λ s. AllAreTold s.seen) (λ before after. IsTallyOf after.seen tally
      × HasCalled (λ e. e ≡ Owner owner_step.Status (owner_reply.Stands status)) before after) c c'
