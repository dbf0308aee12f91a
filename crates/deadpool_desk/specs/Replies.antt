-- Which replies a step may have, what is in the hand then, and what the get holds.
use Rattle.std.specs.Prelude.{◌≡◌, ℕ, ◌+◌, ⊤, Option, Some, None, IsSome}
use Rattle.deadpool_desk.specs.declared.owner_step.OwnerReply.{OwnerReply}
use Rattle.deadpool_desk.specs.declared.owner_step.OwnerReply.TheVariants as owner_reply
use Rattle.deadpool_desk.specs.declared.owner_step.OwnerStep.{OwnerStep}
use Rattle.deadpool_desk.specs.declared.owner_step.OwnerStep.TheVariants as owner
use Rattle.deadpool_desk.specs.declared.slot.Slot.{Slot}
use Rattle.deadpool_desk.specs.declared.step.Held.{Held}
use Rattle.deadpool_desk.specs.declared.step.Held.TheVariants as held
use Rattle.deadpool_desk.specs.declared.step.Reply.{Reply}
use Rattle.deadpool_desk.specs.declared.step.Reply.TheVariants.{Object, Create, Going, Exhausted, Closed, Full, Waiting}
use Rattle.deadpool_desk.specs.declared.step.Reply.TheVariants.{Crowded, OutOfMemory, Expired, Done, Number, Kept}
use Rattle.deadpool_desk.specs.declared.step.Reply.TheVariants.{Detach}
use Rattle.deadpool_desk.specs.declared.step.Reply.TheVariants.{Dropped, Taken, Unknown}
use Rattle.deadpool_desk.specs.declared.step.Step.{Step}
use Rattle.deadpool_desk.specs.declared.step.Step.TheVariants.{Enter, Ask, Again, Discard, Created, Failed, Refused}
use Rattle.deadpool_desk.specs.declared.step.Step.TheVariants.{Back, Withdraw, Cancel, Take}

-- The replies to each step. A get that goes on takes an object only within an allowance that is set, which is then one
-- less.
abbrev pub IsReplyTo : Step → Reply → Type 0
IsReplyTo (Enter wait) (Object left) = ⊤
IsReplyTo (Enter wait) Create = ⊤
IsReplyTo (Enter wait) Going = ⊤
IsReplyTo (Enter wait) Exhausted = ⊤
IsReplyTo (Enter wait) Closed = ⊤
IsReplyTo (Enter wait) Full = ⊤
IsReplyTo (Enter wait) Crowded = ⊤
IsReplyTo (Enter wait) (Waiting ticket) = ⊤
IsReplyTo (Enter wait) OutOfMemory = ⊤
IsReplyTo (Ask ticket expired) (Object left) = ⊤
IsReplyTo (Ask ticket expired) Create = ⊤
IsReplyTo (Ask ticket expired) Going = ⊤
IsReplyTo (Ask ticket expired) Exhausted = ⊤
IsReplyTo (Ask ticket expired) Closed = ⊤
IsReplyTo (Ask ticket expired) (Waiting same) = same ≡ ticket
IsReplyTo (Ask ticket expired) Expired = ⊤
IsReplyTo (Ask ticket expired) Unknown = ⊤
IsReplyTo (Again (Some allowance)) (Object left) = left + 1 ≡ allowance
IsReplyTo (Again None) (Object left) = ⊤
IsReplyTo (Again allowance) Create = ⊤
IsReplyTo (Again allowance) Going = ⊤
IsReplyTo (Again allowance) Exhausted = ⊤
IsReplyTo (Again allowance) Unknown = ⊤
IsReplyTo Created (Number number) = ⊤
IsReplyTo Created Unknown = ⊤
IsReplyTo Back Kept = ⊤
IsReplyTo Back Detach = ⊤
IsReplyTo Back Dropped = ⊤
IsReplyTo Back Unknown = ⊤
IsReplyTo Take (Taken detach) = ⊤
IsReplyTo Take Unknown = ⊤
IsReplyTo Discard Done = ⊤
IsReplyTo Discard Unknown = ⊤
IsReplyTo Failed Done = ⊤
IsReplyTo Failed Unknown = ⊤
IsReplyTo Refused Done = ⊤
IsReplyTo Refused Unknown = ⊤
IsReplyTo (Withdraw ticket) Done = ⊤
IsReplyTo (Withdraw ticket) Unknown = ⊤
IsReplyTo (Cancel what) Done = ⊤
IsReplyTo (Cancel what) Unknown = ⊤
IsReplyTo _ _ = ⊥

-- the replies to each step of the owner
abbrev pub IsOwnerReplyTo : OwnerStep → OwnerReply → Type 0
IsOwnerReplyTo owner.Status (owner_reply.Stands status) = ⊤
IsOwnerReplyTo (owner.Resize limit) owner_reply.Done = ⊤
IsOwnerReplyTo (owner.Resize limit) owner_reply.OutOfMemory = ⊤
IsOwnerReplyTo owner.Close owner_reply.Done = ⊤
IsOwnerReplyTo owner.CloneHandle owner_reply.Done = ⊤
IsOwnerReplyTo owner.CloneHandle owner_reply.NoHandle = ⊤
IsOwnerReplyTo owner.DropHandle owner_reply.Done = ⊤
IsOwnerReplyTo owner.DropHandle owner_reply.NoHandle = ⊤
IsOwnerReplyTo owner.Upgrade owner_reply.Done = ⊤
IsOwnerReplyTo owner.Upgrade owner_reply.NoHandle = ⊤
IsOwnerReplyTo _ _ = ⊥

module _ {O : Type 0} where
  -- only an object that comes back is in the hand at the start
  abbrev pub Brings : Step → Option O → Type 0
  Brings Back hand = IsSome hand
  Brings _ hand = hand ≡ None

  -- an object that is given is in the hand then, one that is kept is not, and otherwise the hand is as it was
  abbrev pub Leaves : Reply → Option O → Option O → Type 0
  Leaves (Object left) was hand = IsSome hand
  Leaves Kept was hand = hand ≡ None
  Leaves _ was hand = hand ≡ was

-- an object that comes back has one of these numbers
abbrev pub IsTakenBack : {T : Type 0} → (ℕ → Type 0) → Step → Option (Slot T) → Type 0
IsTakenBack may_have step hand = (slot : _) → step ≡ Back → hand ≡ Some slot → may_have slot.number

-- the ticket that a step names
abbrev pub named : Step → Option ℕ
named (Ask ticket expired) = Some ticket
named (Withdraw ticket) = Some ticket
named _ = None

-- it names no ticket but one of these
abbrev pub NamesOnly : (ℕ → Type 0) → Step → Type 0
NamesOnly may_wait step = (ticket : _) → named step ≡ Some ticket → may_wait ticket

-- what a get holds before a step
abbrev pub needed : Step → Option Held
needed (Enter wait) = None
needed (Ask ticket expired) = None
needed (Again allowance) = Some held.Place
needed Discard = Some held.Object
needed Created = Some held.Creation
needed Failed = Some held.Creation
needed Refused = Some held.Object
needed Back = Some held.Object
needed (Withdraw ticket) = None
needed (Cancel what) = Some what
needed Take = Some held.Object

-- and after it
abbrev pub held_if_served : Reply → Option Held
held_if_served (Object left) = Some held.Object
held_if_served Create = Some held.Creation
held_if_served Going = Some held.Place
held_if_served _ = None

abbrev pub left_by : Step → Reply → Option Held
left_by (Enter wait) reply = held_if_served reply
left_by (Ask ticket expired) reply = held_if_served reply
left_by (Again allowance) reply = held_if_served reply
left_by Discard Done = Some held.Place
left_by Created (Number number) = Some held.Object
left_by _ _ = None
