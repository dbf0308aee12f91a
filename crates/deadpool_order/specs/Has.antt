-- What a get has at each state of its order, and after each reply: what it holds at the desk, its entry in the queue,
-- and an object in the hand.
use Rattle.std.specs.Prelude.{◌≡◌, ⊤, ℕ, IsSome, Option, Some, None, true}
use Rattle.deadpool_desk.specs.declared.slot.Slot.{Slot}
use Rattle.deadpool_desk.specs.declared.step.Held.{Held}
use Rattle.deadpool_desk.specs.declared.step.Held.TheVariants as held
use Rattle.deadpool_desk.specs.declared.step.Reply.{Reply}
use Rattle.deadpool_desk.specs.declared.step.Reply.TheVariants as reply
use Rattle.deadpool_desk.specs.declared.step.Step.{Step}
use Rattle.deadpool_desk.specs.declared.step.Step.TheVariants as step
use Rattle.deadpool_order.specs.declared.state.State.{State}
use Rattle.deadpool_order.specs.declared.state.State.TheVariants as state
use Rattle.deadpool_order.specs.declared.state.Then.{Then}
use Rattle.deadpool_order.specs.declared.state.Then.TheVariants as then

-- what is held once something has left the hand
abbrev pub held_then : Then → Option Held
held_then (then.End cause) = None
held_then _ = Some held.Place

-- What is held at the desk. Where a step is under way it is what is held before it.
abbrev pub held_in : State → Option Held
held_in state.Going = Some held.Place
held_in state.GoingOn = Some held.Place
held_in state.Creating = Some held.Creation
held_in state.Numbering = Some held.Creation
held_in (state.Failing cause) = Some held.Creation
held_in (state.PreRecycling at) = Some held.Object
held_in state.Recycling = Some held.Object
held_in (state.PostRecycling at) = Some held.Object
held_in state.Discarding = Some held.Object
held_in (state.Checking at) = Some held.Object
held_in state.Refusing = Some held.Object
held_in (state.Giving recycled) = Some held.Object
held_in (state.Cancelling what) = Some what
held_in state.Returning = Some held.Object
held_in state.Taking = Some held.Object
held_in (state.Detaching next) = held_then next
held_in (state.Releasing next) = held_then next
held_in _ = None

-- the ticket under which it is in the queue
abbrev pub waits_in : State → Option ℕ
waits_in (state.Asking ticket expired) = Some ticket
waits_in (state.Queued ticket) = Some ticket
waits_in (state.Withdrawing ticket cause) = Some ticket
waits_in _ = None

-- it waits under no ticket but one of these
abbrev pub WaitsUnder : (ℕ → Type 0) → State → Type 0
WaitsUnder may_wait state = (ticket : ℕ) → waits_in state ≡ Some ticket → may_wait ticket

-- how many objects are in the hand of which no detach has begun
abbrev pub whole_in : State → ℕ
whole_in (state.PreRecycling at) = 1
whole_in state.Recycling = 1
whole_in (state.PostRecycling at) = 1
whole_in state.Discarding = 1
whole_in (state.Checking at) = 1
whole_in state.Refusing = 1
whole_in (state.Giving recycled) = 1
whole_in (state.Cancelling held.Object) = 1
whole_in state.Returning = 1
whole_in state.Taking = 1
whole_in state.Parting = 1
whole_in (state.Detaching next) = 1
whole_in _ = 0

-- an object that comes back is in the hand
abbrev pub IsInHand : {O : Type 0} → State → Option O → Type 0
IsInHand state.Returning hand = IsSome hand
IsInHand _ hand = ⊤

-- and has one of these numbers
abbrev pub IsOwnInHand : {T : Type 0} → (ℕ → Type 0) → State → Option (Slot T) → Type 0
IsOwnInHand may_have state.Returning (Some slot) = may_have slot.number
IsOwnInHand may_have _ hand = ⊤

-- the ticket, after a reply
abbrev pub waits_by : Reply → Option ℕ
waits_by (reply.Waiting ticket) = Some ticket
waits_by _ = None

-- the same of the object: a reply brings it to the get
abbrev pub given_by : Reply → ℕ
given_by (reply.Object left) = 1
given_by (reply.Number number) = 1
given_by _ = 0

-- or gives it up or does not know it, so that it is to be detached; else it is the pool's again, or has no pool left
abbrev pub whole_by : Step → Reply → ℕ
whole_by step.Discard reply.Done = 1
whole_by step.Refused reply.Done = 1
whole_by (step.Cancel held.Object) reply.Done = 1
whole_by step.Back reply.Detach = 1
whole_by step.Take (reply.Taken true) = 1
whole_by step.Created reply.Unknown = 1
whole_by step.Discard reply.Unknown = 1
whole_by step.Refused reply.Unknown = 1
whole_by (step.Cancel held.Object) reply.Unknown = 1
whole_by step.Back reply.Unknown = 1
whole_by step.Take reply.Unknown = 1
whole_by _ reply = given_by reply
