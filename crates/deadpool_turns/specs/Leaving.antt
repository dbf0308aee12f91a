-- By which steps an object leaves a pool: then it is neither idle nor held.
use Rattle.std.specs.Prelude.{◌≡◌, ◌⊎◌, ◌<◌, ◌≤◌, ℕ, List, Bool, true, false, Ok, Err}
use Rattle.deadpool_desk.specs.DeskState.{DeskState}
use Rattle.deadpool_desk.specs.declared.owner_step.OwnerReply.{OwnerReply}
use Rattle.deadpool_desk.specs.declared.owner_step.OwnerReply.TheVariants as owner_reply
use Rattle.deadpool_desk.specs.declared.owner_step.OwnerStep.{OwnerStep}
use Rattle.deadpool_desk.specs.declared.owner_step.OwnerStep.TheVariants as owner
use Rattle.deadpool_desk.specs.declared.step.Held.TheVariants as held
use Rattle.deadpool_desk.specs.declared.step.Reply.{Reply}
use Rattle.deadpool_desk.specs.declared.step.Reply.TheVariants.{Done, Detach, Dropped, Taken}
use Rattle.deadpool_desk.specs.declared.step.Step.{Step}
use Rattle.deadpool_desk.specs.declared.step.Step.TheVariants.{Discard, Refused, Back, Cancel, Take}
use Rattle.deadpool_journal.specs.Replay.{IsStep}
use Rattle.deadpool_journal.specs.declared.entry.Entry.{Entry}
use Rattle.deadpool_journal.specs.declared.entry.Entry.TheVariants.{Made, Owner, Retain}
use Rattle.deadpool_turns.specs.Holders.{HandsOver, Out, RunsBy, holds, times, total}

-- whether a step gives up the object that its maker has
abbrev pub gives_up : Step → Reply → Bool
gives_up Discard Done = true
gives_up Refused Done = true
gives_up Back Dropped = true
gives_up Back Detach = true
gives_up Take (Taken detach) = true
gives_up (Cancel held.Object) Done = true
gives_up _ _ = false

-- whether a step of the owner may give up idle ones
abbrev pub may_empty : OwnerStep → OwnerReply → Bool
may_empty (owner.Resize limit) owner_reply.Done = true
may_empty owner.Close owner_reply.Done = true
may_empty owner.DropHandle owner_reply.Done = true
may_empty _ _ = false

-- Such a step of this holder may take the object out of the pool: the holder has it, or it is idle.
abbrev pub MayTake : ℕ → Entry → ℕ → DeskState ℕ → Out → Type 0
MayTake holder (Made step object reply) n d out = (gives_up step reply ≡ true) × (holds holder n out ≡ true)
MayTake holder (Owner step reply) n d out = (may_empty step reply ≡ true) × (1 ≤ times n d.idle)
MayTake holder (Retain (Ok removed)) n d out = 1 ≤ times n d.idle
MayTake holder (Retain (Err refused)) n d out = ⊥

-- An object that is idle or held is so after each other step.
abbrev pub EachStepKeepsObjects : Type 0
EachStepKeepsObjects = (d d' : DeskState ℕ) (out out' : Out) (holder n : ℕ) (e : Entry) → IsStep d e d'
    → HandsOver holder e out out' → 1 ≤ total n d out → (1 ≤ total n d' out') ⊎ MayTake holder e n d out

-- A number that was given, and is neither idle nor held, is so never again.
abbrev pub EachNumberGoesForGood : Type 0
EachNumberGoesForGood = (d d' : DeskState ℕ) (out out' : Out) (log : List (ℕ × Entry)) (n : ℕ)
    → RunsBy d out log d' out' → n < d.next → total n d out ≡ 0 → total n d' out' ≡ 0
