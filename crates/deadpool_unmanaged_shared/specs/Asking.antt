-- Gets and adds of a pool, as contracts see them, and what a poll of one is to its caller.
use Rattle.std.specs.Prelude.{◌≡◌, ⊤, ℕ, Option, Some, None, IsSomeAnd, Result, Ok, Err}
use Rattle.futures.specs.declared.task.Poll.{Poll}
use Rattle.futures.specs.declared.task.Poll.TheVariants.{Ready, Pending}
use Rattle.deadpool_lock.specs.declared.request.Stage.{Stage as Future}
use Rattle.deadpool_lock.specs.declared.request.Stage.TheVariants.{Asking}
use Rattle.deadpool_parts.specs.declared.moment.Moment.{Moment}
use Rattle.deadpool_parts.specs.declared.moment.Runtime.{Runtime}
use Rattle.std.specs.declared.time.Duration.{Duration}
use Rattle.deadpool_unmanaged.specs.Adds as adds
use Rattle.deadpool_unmanaged.specs.declared.add.AddStage.{AddStage}
use Rattle.deadpool_unmanaged.specs.declared.add.AddStage.TheVariants as add_stage
use Rattle.deadpool_unmanaged.specs.declared.error.PoolError.{PoolError}
use Rattle.deadpool_unmanaged.specs.declared.get.GetStage.{GetStage}
use Rattle.deadpool_unmanaged.specs.declared.get.GetStage.TheVariants as get_stage
use Rattle.deadpool_unmanaged_history.specs.Polls.{CancelsAdd, CancelsGet}
use Rattle.deadpool_unmanaged_journal.specs.declared.entry.Entry.{Entry}
use Rattle.deadpool_unmanaged_shared.specs.Calling.{CallsOrRefusesAdd, CallsOrRefusesGet, CallsTake}
use Rattle.deadpool_unmanaged_shared.specs.Calling.{IsSupplied}

-- how far it is, and its caller, from its first poll until its object has it
pub record Get (C : Type 0) : Type 0 where
  pub stage : GetStage
  pub caller : Option C

-- how far it is, with its object, and its caller, from its first poll on
pub record Add (T C : Type 0) : Type 0 where
  pub stage : AddStage T
  pub caller : Option C

-- they were not polled yet
abbrev pub getting : {C : Type 0} → Option Duration → Get C
getting timeout = record { stage = get_stage.Unpolled timeout; caller = None }

abbrev pub adding : {T C : Type 0} → T → Add T C
adding value = record { stage = add_stage.Unpolled value; caller = None }

-- While its future asks, its caller waits under the ticket that it has. The relation says under which each waits.
abbrev pub WaitsWhile : {K C : Type 0} → (C → ℕ → Type 0) → Future K → Option ℕ → Option C → Type 0
WaitsWhile waits (Asking kept) (Some ticket) caller = IsSomeAnd caller (λ c. waits c ticket)
WaitsWhile waits _ _ caller = ⊤

-- A pool's `tells` says of a caller and its calls that by their end it has seen a moment at which all are told.
module _ {O T C : Type 0} (value_of : O → T) (caller_of : O → C) where
  -- how a poll ends: an object that is given takes the caller with it, which otherwise stays with the get
  abbrev pub Ends : Poll (Result T PoolError) → C → Option C → Poll (Result O PoolError) → Type 0
  Ends (Ready (Ok value)) c left (Ready (Ok object)) = (value_of object ≡ value) × (caller_of object ≡ c)
  Ends (Ready (Err cause)) c left (Ready (Err given)) = (given ≡ cause) × (left ≡ Some c)
  Ends Pending c left Pending = left ≡ Some c
  Ends _ _ _ _ = ⊥

  -- one poll of a get between threads
  abbrev pub PollsFrom : ((C → C → Type 0) → C → C → Type 0) → (C → Type 0) → (Entry T → C → C → Type 0)
      → Option Runtime → Get C → Poll (Result O PoolError) → Get C → Type 0
  PollsFrom tells is_new calls runtime get polled left =
      (now : Moment) × ((turn : Poll (Result T PoolError)) × ((c : C) × ((c' : C)
      × (IsSupplied is_new get.caller c
      × tells (CallsOrRefusesGet calls runtime now get.stage turn left.stage) c c'
      × Ends turn c' left.caller polled))))

  -- how a poll of a removal ends: the object that the get was given leaves for good, one step more of its caller's
  abbrev pub EndsRemoval : ((C → C → Type 0) → C → C → Type 0) → (Entry T → C → C → Type 0) → Poll (Result O PoolError)
      → Get C → Poll (Result T PoolError) → Get C → Type 0
  EndsRemoval tells calls (Ready (Ok object)) get (Ready (Ok value)) left =
      (value ≡ value_of object)
      × ((c : C) × (tells (CallsTake calls) (caller_of object) c × (left ≡ record get { caller = Some c })))
  EndsRemoval tells calls (Ready (Err cause)) get (Ready (Err given)) left = (given ≡ cause) × (left ≡ get)
  EndsRemoval tells calls Pending get Pending left = left ≡ get
  EndsRemoval tells calls _ get _ left = ⊥

  -- one poll of a removal between threads
  abbrev pub PollsToRemove : ((C → C → Type 0) → C → C → Type 0) → (C → Type 0) → (Entry T → C → C → Type 0)
      → Option Runtime → Get C → Poll (Result T PoolError) → Get C → Type 0
  PollsToRemove tells is_new calls runtime get polled left =
      (got : Poll (Result O PoolError)) × ((between : Get C)
      × (PollsFrom tells is_new calls runtime get got between × EndsRemoval tells calls got between polled left))

-- one poll of an add between threads
abbrev pub PollsAddFrom : {T C : Type 0} → ((C → C → Type 0) → C → C → Type 0) → (C → Type 0)
    → (Entry T → C → C → Type 0) → Add T C → Poll (Result (Unit {0}) (T × PoolError)) → Add T C → Type 0
PollsAddFrom tells is_new calls add polled left =
    (c : _) × ((c' : _)
    × (IsSupplied is_new add.caller c × tells (CallsOrRefusesAdd calls add.stage polled left.stage) c c'
    × (left.caller ≡ Some c')))

module _ {T C : Type 0} (tells : (C → C → Type 0) → C → C → Type 0) (is_new : C → Type 0)
    (calls : Entry T → C → C → Type 0) where
  -- A get or a removal that is given up between threads leaves the queue, by one step of its caller's, if it is there.
  -- Its caller is left of it, a new one if it had none.
  abbrev pub CancelsFrom : Get C → C → Type 0
  CancelsFrom get left = (c : C) × (IsSupplied is_new get.caller c × tells (CancelsGet calls get.stage) c left)

  -- the same of an add, of which its object is left too
  abbrev pub CancelsAddFrom : Add T C → Option T × C → Type 0
  CancelsAddFrom add left =
      (left.0 ≡ adds.held_by add.stage)
      × ((c : C) × (IsSupplied is_new add.caller c × tells (CancelsAdd calls add.stage) c left.1))
