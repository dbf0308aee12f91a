-- Replies as plain numbers.
use Rattle.std.specs.Prelude.{ℕ, Option, Some, None}
use Rattle.deadpool_parts.specs.declared.status.Status.{Status}
use Rattle.deadpool_parts.specs.declared.replies.HandleReply.{HandleReply}
use Rattle.deadpool_parts.specs.declared.replies.HandleReply.TheVariants as handle
use Rattle.deadpool_c.specs.declared.reply.Reply.{Reply}
use Rattle.deadpool_c.specs.declared.reply.Standing.{Standing}
use Rattle.deadpool_c.specs.declared.reply.TheConstants.{UNKNOWN, DONE, NO_HANDLE}

abbrev pub keyed : ℕ → ℕ → ℕ → Reply
keyed kind number key = record { kind = kind; number = number; key = key; left = 0 }

abbrev pub numbered : ℕ → ℕ → Reply
numbered kind number = keyed kind number 0

abbrev pub plain : ℕ → Reply
plain kind = numbered kind 0

abbrev pub raw_handle : HandleReply → Reply
raw_handle handle.Done = plain DONE
raw_handle handle.NoHandle = plain NO_HANDLE

abbrev pub raw_wake : Option ℕ → Reply
raw_wake (Some ticket) = numbered DONE ticket
raw_wake None = plain UNKNOWN

abbrev pub raw_standing : Status → Standing
raw_standing s = record { max_size = s.max_size; size = s.size; available = s.available; waiting = s.waiting }
