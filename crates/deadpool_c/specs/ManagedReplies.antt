-- The steps of a managed pool with its journal, by their replies as plain numbers: some reply of the step is the one
-- that is given.
use Rattle.std.specs.Prelude.{◌≡◌, ℕ, Bool, Option, Some, None, if◌then◌else◌}
use Rattle.deadpool_parts.specs.declared.config.QueueMode.{QueueMode}
use Rattle.deadpool_parts.specs.declared.config.QueueMode.TheVariants.{Fifo, Lifo}
use Rattle.deadpool_parts.specs.declared.status.Status.{Status}
use Rattle.deadpool_desk.specs.Replies.{Leaves}
use Rattle.deadpool_desk.specs.declared.owner_step.OwnerReply.{OwnerReply}
use Rattle.deadpool_desk.specs.declared.owner_step.OwnerReply.TheVariants as owner_reply
use Rattle.deadpool_desk.specs.declared.owner_step.OwnerStep.{OwnerStep}
use Rattle.deadpool_desk.specs.declared.owner_step.OwnerStep.TheVariants as owner
use Rattle.deadpool_desk.specs.declared.slot.Slot.{Slot}
use Rattle.deadpool_desk.specs.declared.step.Reply.{Reply as DeskReply}
use Rattle.deadpool_desk.specs.declared.step.Reply.TheVariants as reply
use Rattle.deadpool_desk.specs.declared.step.Step.{Step}
use Rattle.deadpool_journal.specs.Journaling.{Journaling}
use Rattle.deadpool_journal.specs.Steps.{MakesNoted, MakesForOwnerNoted, NotifiesUnnoted}
use Rattle.deadpool_c.specs.Replies.{plain, numbered, keyed, raw_wake, raw_standing}
use Rattle.deadpool_c.specs.ManagedSteps.{brought}
use Rattle.deadpool_c.specs.declared.reply.Reply.{Reply}
use Rattle.deadpool_c.specs.declared.reply.Standing.{Standing}
use Rattle.deadpool_c.specs.declared.reply.TheConstants.{UNKNOWN, DONE, OBJECT, CREATE, GOING, EXHAUSTED, CLOSED, FULL}
use Rattle.deadpool_c.specs.declared.reply.TheConstants.{WAITING, OUT_OF_MEMORY, EXPIRED, CREATED, KEPT, DETACH}
use Rattle.deadpool_c.specs.declared.reply.TheConstants.{DROPPED, TAKEN, NO_HANDLE, CROWDED}

abbrev pub mode_of : Bool → QueueMode
mode_of is_lifo = if is_lifo then Lifo else Fifo

-- a reply with the number and the key of the object that is in the hand after it
abbrev pub raw_made : DeskReply → ℕ → ℕ → Reply
raw_made (reply.Object left) number key = record { kind = OBJECT; number = number; key = key; left = left }
raw_made reply.Create number key = plain CREATE
raw_made reply.Going number key = plain GOING
raw_made reply.Exhausted number key = plain EXHAUSTED
raw_made reply.Closed number key = plain CLOSED
raw_made reply.Full number key = plain FULL
raw_made reply.Crowded number key = plain CROWDED
raw_made (reply.Waiting ticket) number key = numbered WAITING ticket
raw_made reply.OutOfMemory number key = plain OUT_OF_MEMORY
raw_made reply.Expired number key = plain EXPIRED
raw_made reply.Done number key = plain DONE
raw_made (reply.Number new) number key = numbered CREATED new
raw_made reply.Kept number key = plain KEPT
raw_made reply.Detach number key = keyed DETACH number key
raw_made reply.Dropped number key = keyed DROPPED number key
raw_made (reply.Taken detach) number key = plain (if detach then DETACH else TAKEN)
raw_made reply.Unknown number key = keyed UNKNOWN number key

abbrev pub raw_in_hand : DeskReply → Option (Slot ℕ) → Reply
raw_in_hand reply (Some slot) = raw_made reply slot.number slot.value
raw_in_hand reply None = raw_made reply 0 0

-- A step of a get or an object. What the caller brings is in the hand before it, and what is in the hand after it comes
-- with the reply. Numbers that name no step make none.
abbrev pub MakesRaw : Journaling ℕ → Option Step → ℕ → ℕ → Reply → Journaling ℕ → Type 0
MakesRaw j (Some step) number key raw j' =
    (hand : Option (Slot ℕ)) × (reply : DeskReply)
    × MakesNoted j step (brought step number key) reply hand j' × Leaves reply (brought step number key) hand
    × (raw ≡ raw_in_hand reply hand)
MakesRaw j None number key raw j' = (raw ≡ plain UNKNOWN) × (j' ≡ j)

-- the reply to a step of the owner, with how many idle objects went
abbrev pub raw_for_owner : OwnerReply → ℕ → Reply
raw_for_owner (owner_reply.Stands status) count = numbered DONE count
raw_for_owner owner_reply.Done count = numbered DONE count
raw_for_owner owner_reply.OutOfMemory count = plain OUT_OF_MEMORY
raw_for_owner owner_reply.NoHandle count = plain NO_HANDLE

-- A step of the owner. Numbers that name no step make none.
abbrev pub MakesForOwnerRaw : Journaling ℕ → Option OwnerStep → ℕ → Reply → Journaling ℕ → Type 0
MakesForOwnerRaw j (Some step) count raw j' =
    (reply : OwnerReply) × MakesForOwnerNoted j step reply j' × (raw ≡ raw_for_owner reply count)
MakesForOwnerRaw j None count raw j' = (raw ≡ plain UNKNOWN) × (j' ≡ j)

-- that which asks how the pool stands
abbrev pub StandsRaw : Journaling ℕ → Standing → Journaling ℕ → Type 0
StandsRaw j raw j' = (status : Status) × MakesForOwnerNoted j owner.Status (owner_reply.Stands status) j'
    × (raw ≡ raw_standing status)

-- it is no step, and nothing is noted
abbrev pub TellsRaw : Journaling ℕ → Reply → Journaling ℕ → Type 0
TellsRaw j raw j' = (named : Option ℕ) × NotifiesUnnoted j named j' × (raw ≡ raw_wake named)
