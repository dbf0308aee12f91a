-- Entries of a journal as plain numbers.
use Rattle.std.specs.Prelude.{ℕ, Bool, true, false, List, length, Option, Some, None, unwrap_or, slice_get, Result, Ok}
use Rattle.std.specs.Prelude.{Err}
use Rattle.std.specs.declared.alloc.AllocError.{AllocError}
use Rattle.deadpool_desk.specs.declared.owner_step.OwnerReply.{OwnerReply}
use Rattle.deadpool_desk.specs.declared.owner_step.OwnerReply.TheVariants as owner_reply
use Rattle.deadpool_desk.specs.declared.owner_step.OwnerStep.{OwnerStep}
use Rattle.deadpool_desk.specs.declared.owner_step.OwnerStep.TheVariants as owner
use Rattle.deadpool_desk.specs.declared.retain.Removal.{Removal}
use Rattle.deadpool_desk.specs.declared.step.Held.TheVariants as held
use Rattle.deadpool_desk.specs.declared.step.Step.{Step}
use Rattle.deadpool_desk.specs.declared.step.Step.TheVariants.{Enter, Ask, Again, Discard, Created, Failed, Refused}
use Rattle.deadpool_desk.specs.declared.step.Step.TheVariants.{Back, Withdraw, Cancel, Take}
use Rattle.deadpool_journal.specs.declared.entry.Entry.{Entry}
use Rattle.deadpool_journal.specs.declared.entry.Entry.TheVariants as entry
use Rattle.deadpool_c.specs.ManagedReplies.{raw_made, raw_for_owner}
use Rattle.deadpool_c.specs.Replies.{plain, numbered, raw_standing}
use Rattle.deadpool_c.specs.declared.entry.NotedStep.{NotedStep}
use Rattle.deadpool_c.specs.declared.reply.Reply.{Reply}
use Rattle.deadpool_c.specs.declared.reply.Standing.{Standing}
use Rattle.deadpool_c.specs.declared.reply.TheConstants.{UNKNOWN, DONE, OUT_OF_MEMORY}
use Rattle.deadpool_c.specs.declared.step.TheConstants as step

abbrev pub no_standing : Standing
no_standing = record { max_size = 0; size = 0; available = 0; waiting = 0 }

abbrev pub noted : ℕ → Bool → ℕ → Reply → NotedStep
noted kind is_set number reply =
    record { step = kind; is_set = is_set; number = number; reply = reply; standing = no_standing }

-- how many were removed
abbrev pub noted_retain : Result (List Removal) AllocError → Reply
noted_retain (Ok removals) = numbered DONE (length removals)
noted_retain (Err refused) = plain OUT_OF_MEMORY

-- a step of a get or an object, by the numbers that ask for it, with the number of its object and its reply
abbrev pub noted_made : Step → ℕ → Reply → NotedStep
noted_made (Enter wait) object reply = noted step.ENTER wait 0 reply
noted_made (Ask ticket expired) object reply = noted step.ASK expired ticket reply
noted_made (Again None) object reply = noted step.AGAIN false 0 reply
noted_made (Again (Some allowance)) object reply = noted step.AGAIN true allowance reply
noted_made Discard object reply = noted step.DISCARD false 0 reply
noted_made Created object reply = noted step.NEW_OBJECT false 0 reply
noted_made Failed object reply = noted step.FAILED false 0 reply
noted_made Refused object reply = noted step.REFUSED false 0 reply
noted_made Back object reply = noted step.BACK false object reply
noted_made (Withdraw ticket) object reply = noted step.WITHDRAW false ticket reply
noted_made (Cancel held.Place) object reply = noted step.CANCEL_PLACE false 0 reply
noted_made (Cancel held.Creation) object reply = noted step.CANCEL_CREATION false 0 reply
noted_made (Cancel held.Object) object reply = noted step.CANCEL_OBJECT false 0 reply
noted_made Take object reply = noted step.TAKE false 0 reply

-- how the pool stood, if that was asked
abbrev pub standing_in : OwnerReply → Standing
standing_in (owner_reply.Stands status) = raw_standing status
standing_in _ = no_standing

-- a step of the owner, with its reply and how the pool stood
abbrev pub noted_for_owner : OwnerStep → Reply → Standing → NotedStep
noted_for_owner owner.Status reply standing = record (noted step.STATUS false 0 reply) { standing = standing }
noted_for_owner (owner.Resize limit) reply standing =
    record (noted step.RESIZE false limit reply) { standing = standing }
noted_for_owner owner.Close reply standing = record (noted step.CLOSE false 0 reply) { standing = standing }
noted_for_owner owner.CloneHandle reply standing =
    record (noted step.CLONE_HANDLE false 0 reply) { standing = standing }
noted_for_owner owner.DropHandle reply standing = record (noted step.DROP_HANDLE false 0 reply) { standing = standing }
noted_for_owner owner.Upgrade reply standing = record (noted step.UPGRADE false 0 reply) { standing = standing }

abbrev pub noted_entry : Entry → NotedStep
noted_entry (entry.Made step object reply) =
    noted_made step (unwrap_or object 0) (raw_made reply (unwrap_or object 0) 0)
noted_entry (entry.Owner step reply) = noted_for_owner step (raw_for_owner reply 0) (standing_in reply)
noted_entry (entry.Retain reply) = noted step.RETAIN false 0 (noted_retain reply)

-- the entry at a position, if there is one
abbrev pub noted_at : Option Entry → NotedStep
noted_at (Some e) = noted_entry e
noted_at None = noted step.NO_ENTRY false 0 (plain UNKNOWN)

-- a removed object: its number, and where it stood
abbrev pub removed : Option Removal → Reply
removed (Some r) = record { kind = DONE; number = r.number; key = 0; left = r.position }
removed None = plain UNKNOWN

-- that at an index of the entry at a position, if this is one of a retain
abbrev pub removed_at : Option Entry → ℕ → Reply
removed_at (Some (entry.Retain (Ok removals))) index = removed (slice_get removals index)
removed_at _ index = plain UNKNOWN
