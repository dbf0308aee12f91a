-- While idle objects are reviewed: those seen so far are kept, given up and noted, with memory for all.
use Rattle.deadpool_desk.proofs.Names.{◌≡◌, ◌≤◌, length, vec_len, vec_capacity}
use Rattle.deadpool_desk.proofs.Reviewing.{IsReviewing}
use Rattle.deadpool_desk.proofs.review.review.Given as goal

-- the ring keeps its room, and there is memory for each value
abbrev pub invariant-loop-asked : goal.invariant-loop-asked
invariant-loop-asked g l = record {
  can_call : g.R.Retainer.can_call l.retainer;
  count : l.count ≡ length l.initial.ring.items;
  capacity : l.ring.capacity ≡ l.initial.ring.capacity;
  fits : length l.initial.ring.items ≤ l.initial.ring.capacity;
  fewer : vec_len l.removed ≤ l.asked;
  memory : l.count ≤ vec_capacity l.removed;
  few_noted : vec_len l.noted ≤ l.asked;
  noted_memory : l.count ≤ vec_capacity l.noted;
  reviewing : IsReviewing g.R.Retainer l.least l.initial.ring.items l.initial.retainer l.asked l.ring.items
      l.removed.items l.noted.items l.retainer;
}
