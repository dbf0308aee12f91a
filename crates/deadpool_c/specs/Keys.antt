-- The keys of objects that a step gives up, and where they are written.
use Rattle.std.specs.Prelude.{◌≡◌, ℕ, ◌==◌, List, [], length, take, drop, min, map, Option, Some, None, if◌then◌else◌}
use Rattle.deadpool_desk.specs.DeskState.{DeskState}
use Rattle.deadpool_desk.specs.DeskSteps.{surplus}
use Rattle.deadpool_desk.specs.declared.owner_step.OwnerStep.{OwnerStep}
use Rattle.deadpool_desk.specs.declared.owner_step.OwnerStep.TheVariants as owner
use Rattle.deadpool_desk.specs.declared.slot.Slot.{Slot}
use Rattle.deadpool_gate.specs.Numbers.{largest_usize}
use Rattle.deadpool_unmanaged.specs.State.{State}
use Rattle.deadpool_c.specs.Replies.{plain, keyed}
use Rattle.deadpool_c.specs.declared.reply.Reply.{Reply}
use Rattle.deadpool_c.specs.declared.reply.TheConstants.{DONE, UNKNOWN}

-- how many of these keys find room
abbrev pub written_count : List ℕ → List ℕ → ℕ
written_count given old = min (length given) (length old)

-- how many these keys are, as far as a number can tell
abbrev pub told_count : List ℕ → ℕ
told_count given = min (length given) largest_usize

-- As many of these keys as find room stand at the front, in order, and what is behind them is as it was.
pub record Writes (given : List ℕ) (old : List ℕ) (new : List ℕ) : Type 0 where
  pub front : take (written_count given old) new ≡ take (written_count given old) given
  pub rest : drop (written_count given old) new ≡ drop (written_count given old) old

-- the keys of the idle objects, front to back
abbrev pub idle_keys : DeskState (Slot ℕ) → List ℕ
idle_keys d = map (λ slot. slot.value) d.idle

-- those of the objects that a resize to this limit gives up
abbrev pub surplus_keys : ℕ → DeskState (Slot ℕ) → List ℕ
surplus_keys limit d = take (surplus limit d) (idle_keys d)

-- those of the objects that go with the handle that is dropped now
abbrev pub last_keys : DeskState (Slot ℕ) → List ℕ
last_keys d = if d.handles == 1 then idle_keys d else []

-- those of the objects that a step of the owner gives up
abbrev pub given_up_keys : Option OwnerStep → DeskState (Slot ℕ) → List ℕ
given_up_keys (Some (owner.Resize limit)) d = surplus_keys limit d
given_up_keys (Some owner.Close) d = idle_keys d
given_up_keys (Some owner.DropHandle) d = last_keys d
given_up_keys _ d = []

-- those of the idle objects of an unmanaged pool that go with the handle that is dropped now
abbrev pub last_unmanaged_keys : State ℕ → List ℕ
last_unmanaged_keys d = if d.handles == 1 then d.idle else []

-- the reply that has a key, if there is one
abbrev pub key_reply : Option ℕ → Reply
key_reply (Some key) = keyed DONE 0 key
key_reply None = plain UNKNOWN
