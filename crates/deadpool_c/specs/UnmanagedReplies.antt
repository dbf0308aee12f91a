-- The steps of an unmanaged pool, by their replies as plain numbers: some reply of the step is the one that is given.
use Rattle.std.specs.Prelude.{◌≡◌, ℕ, Option, Some, None}
use Rattle.std.specs.Option.{option_or}
use Rattle.deadpool_parts.specs.declared.replies.HandleReply.{HandleReply}
use Rattle.deadpool_unmanaged.specs.Replies.{Leaves}
use Rattle.deadpool_unmanaged.specs.State.{State}
use Rattle.deadpool_unmanaged.specs.StateSteps.{Does, Clones, DropsHandle, TakesGetWake, TakesAddWake}
use Rattle.deadpool_unmanaged.specs.declared.step.Reply.{Reply as CoreReply}
use Rattle.deadpool_unmanaged.specs.declared.step.Reply.TheVariants as reply
use Rattle.deadpool_unmanaged.specs.declared.step.Step.{Step}
use Rattle.deadpool_c.specs.Replies.{plain, keyed, raw_handle, raw_wake}
use Rattle.deadpool_c.specs.UnmanagedSteps.{brought}
use Rattle.deadpool_c.specs.declared.reply.Reply.{Reply}
use Rattle.deadpool_c.specs.declared.reply.TheConstants.{UNKNOWN, DONE, OBJECT, CLOSED, FULL, WAITING, OUT_OF_MEMORY}
use Rattle.deadpool_c.specs.declared.reply.TheConstants.{EXPIRED, KEPT, DROPPED, TAKEN, STORED, CROWDED}

-- a reply with the key of the object that is in the hand after it
abbrev pub raw_made : CoreReply → ℕ → Reply
raw_made reply.Object key = keyed OBJECT 0 key
raw_made reply.Stored key = plain STORED
raw_made reply.Closed key = keyed CLOSED 0 key
raw_made reply.Full key = keyed FULL 0 key
raw_made reply.Crowded key = keyed CROWDED 0 key
raw_made (reply.Waiting ticket) key = keyed WAITING ticket key
raw_made reply.OutOfMemory key = keyed OUT_OF_MEMORY 0 key
raw_made reply.Expired key = plain EXPIRED
raw_made reply.Done key = plain DONE
raw_made reply.Kept key = plain KEPT
raw_made reply.Dropped key = keyed DROPPED 0 key
raw_made reply.Taken key = plain TAKEN
raw_made reply.Unknown key = keyed UNKNOWN 0 key

abbrev pub raw_in_hand : CoreReply → Option ℕ → Reply
raw_in_hand reply (Some key) = raw_made reply key
raw_in_hand reply None = raw_made reply 0

-- A step of a get, an add or an object. What the caller brings is in the hand before it, and what is in the hand after
-- it comes with the reply. Numbers that name no step make none.
abbrev pub MakesRaw : State ℕ → Option Step → ℕ → Reply → State ℕ → Type 0
MakesRaw d (Some step) key raw d' =
    (hand : Option ℕ) × (reply : CoreReply)
    × Does d step (option_or (brought step key) hand) reply d' × Leaves reply (brought step key) hand
    × (raw ≡ raw_in_hand reply hand)
MakesRaw d None key raw d' = (raw ≡ plain UNKNOWN) × (d' ≡ d)

abbrev pub ClonesRaw : State ℕ → Reply → State ℕ → Type 0
ClonesRaw d raw d' = (reply : HandleReply) × Clones d reply d' × (raw ≡ raw_handle reply)

abbrev pub DropsHandleRaw : State ℕ → Reply → State ℕ → Type 0
DropsHandleRaw d raw d' = (reply : HandleReply) × DropsHandle d reply d' × (raw ≡ raw_handle reply)

abbrev pub TakesGetWakeRaw : State ℕ → Reply → State ℕ → Type 0
TakesGetWakeRaw d raw d' = (named : Option ℕ) × TakesGetWake d named d' × (raw ≡ raw_wake named)

abbrev pub TakesAddWakeRaw : State ℕ → Reply → State ℕ → Type 0
TakesAddWakeRaw d raw d' = (named : Option ℕ) × TakesAddWake d named d' × (raw ≡ raw_wake named)
