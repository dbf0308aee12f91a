-- What a trial makes of a turn and of an object that comes back, and what is seen of a get.
use Rattle.std.specs.Prelude.{ℕ, true, false, List, Option, Some, IsSome, Ok, Err, ⊤, if◌then◌else◌}
use Rattle.deadpool_gate.specs.Numbers.{has_number}
use Rattle.deadpool_parts.specs.Program.{Return, ask, ◌>>=◌}
use Rattle.deadpool_managed.specs.Outside.{Asking, Detach}
use Rattle.deadpool_trial.specs.Steps.{with_slot}
use Rattle.deadpool_managed.specs.Slots.{Slot}
use Rattle.deadpool_managed.specs.declared.get.Turn.{Turn}
use Rattle.deadpool_managed.specs.declared.get.Turn.TheVariants.{More, Pending, Done}
use Rattle.deadpool_desk.specs.declared.owner_step.OwnerReply.{OwnerReply}
use Rattle.deadpool_desk.specs.declared.owner_step.OwnerReply.TheVariants as owner_reply
use Rattle.deadpool_desk.specs.declared.owner_step.OwnerStep.{OwnerStep}
use Rattle.deadpool_desk.specs.declared.owner_step.OwnerStep.TheVariants as owner
use Rattle.deadpool_desk.specs.declared.step.Reply.{Reply as DeskReply}
use Rattle.deadpool_managed.specs.declared.kind.StageKind.{StageKind}
use Rattle.deadpool_managed.specs.declared.kind.StageKind.TheVariants as kind
use Rattle.deadpool_trial.specs.declared.look.Look.{Look}
use Rattle.deadpool_trial.specs.declared.look.Look.TheVariants as look
use Rattle.deadpool_trial.specs.declared.moves.Move.{Move}
use Rattle.deadpool_trial.specs.declared.moves.Move.TheVariants as move
use Rattle.deadpool_trial.specs.declared.moves.Reply.{Reply}
use Rattle.deadpool_trial.specs.declared.moves.Reply.TheVariants as reply

module _ {V E : Type 0} where
  -- the objects out, with the one that a turn gives
  abbrev pub given : Turn V E → List (Slot V) → List (Slot V)
  given (Done (Ok slot)) out = with_slot slot out
  given (Done (Err cause)) out = out
  given More out = out
  given Pending out = out

  abbrev pub reply_to : Turn V E → Reply V E
  reply_to More = reply.More
  reply_to Pending = reply.Pending
  reply_to (Done (Ok slot)) = reply.Object slot.number
  reply_to (Done (Err cause)) = reply.Failed cause

module _ {V : Type 0} where
  -- the pool knew of the object that came back, and one that is given up is in the hand
  abbrev pub IsTaken : DeskReply → Option (Slot V) → Type 0
  IsTaken DeskReply.Kept hand = ⊤
  IsTaken DeskReply.Dropped hand = ⊤
  IsTaken DeskReply.Detach hand = IsSome hand
  IsTaken _ hand = ⊥

module _ {V E C R S F A : Type 0} where
  -- one that is given up is detached
  abbrev pub reply_to_back : DeskReply → Option (Slot V) → Asking V E C R S F A (Reply V E)
  reply_to_back DeskReply.Kept hand = Return reply.Kept
  reply_to_back DeskReply.Dropped hand = Return reply.Dropped
  reply_to_back DeskReply.Detach (Some slot) = ask (Detach slot.value.value) >>= λ left. Return reply.Detached
  reply_to_back _ hand = Return reply.NoSuch

  -- an object that has left the pool is detached while the pool has a handle
  abbrev pub reply_to_take : V → DeskReply → Asking V E C R S F A (Reply V E)
  reply_to_take value (DeskReply.Taken true) = ask (Detach value) >>= λ left. Return (reply.Taken left)
  reply_to_take value (DeskReply.Taken false) = Return (reply.Taken value)
  reply_to_take value _ = Return reply.NoSuch

-- the move that makes a step of the owner
abbrev pub move_of : {V : Type 0} → OwnerStep → Move V
move_of owner.Status = move.Status
move_of (owner.Resize limit) = move.Resize limit
move_of owner.Close = move.Close
move_of owner.CloneHandle = move.Clone
move_of owner.DropHandle = move.DropHandle
move_of owner.Upgrade = move.Upgrade

-- the reply to it: an upgrade says whether a handle was left
abbrev pub reply_to_owner : {V E : Type 0} → OwnerStep → OwnerReply → Reply V E
reply_to_owner owner.Upgrade owner_reply.Done = reply.Upgraded true
reply_to_owner owner.Upgrade owner_reply.NoHandle = reply.Upgraded false
reply_to_owner _ (owner_reply.Stands status) = reply.Stands status
reply_to_owner _ owner_reply.Done = reply.Done
reply_to_owner _ owner_reply.OutOfMemory = reply.OutOfMemory
reply_to_owner _ owner_reply.NoHandle = reply.NoHandle

-- what is seen of a get at a stage; one in the queue by the tickets that were granted a place
abbrev pub look_as : List ℕ → StageKind → Look
look_as granted kind.Unpolled = look.Unpolled
look_as granted (kind.Queued ticket) = if has_number ticket granted then look.Granted else look.Queued
look_as granted kind.Going = look.Going
look_as granted kind.Creating = look.Creating
look_as granted (kind.Recycling number) = look.Recycling number
look_as granted (kind.Checking number) = look.Checking number
look_as granted kind.Finished = look.Finished
