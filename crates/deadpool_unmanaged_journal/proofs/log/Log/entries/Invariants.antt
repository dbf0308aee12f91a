-- While entries are copied: the copies so far are the first entries, with room for all.
use Rattle.std.proofs.Common.{◌≡◌, ◌≤◌, length, take, vec_capacity}
use Rattle.deadpool_unmanaged_journal.proofs.log.Log.entries.Given as goal

-- those so far, with room for all
abbrev pub invariant-loop-entry : goal.invariant-loop-entry
invariant-loop-entry g l = record {
  copies : l.copies.items ≡ take l.entry-index l.entry-items;
  room : length l.entry-items ≤ vec_capacity l.copies;
}
