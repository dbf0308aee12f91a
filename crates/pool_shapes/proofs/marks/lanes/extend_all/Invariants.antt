-- While lanes are extended: those before have their part of the column, the rest is as it was.
use Rattle.pool_shapes.proofs.Drawn.Words.{◌≡◌, ℕ, ◌<◌, ◌≤◌, length, Some, slice_get, Extends, lane_at}
use Rattle.pool_shapes.proofs.marks.lanes.extend_all.Given as goal

abbrev pub invariant-loop-at : goal.invariant-loop-at
invariant-loop-at g l = record {
  count : length l.lanes.items ≡ length l.initial.lanes.items;
  rest : (k : ℕ) → l.at ≤ k → lane_at k l.lanes.items ≡ lane_at k l.initial.lanes.items;
  done : (k : ℕ) (x : g.row.T.Denot) → k < l.at → slice_get l.shown k ≡ Some x
      → Extends (lane_at k l.initial.lanes.items) x (lane_at k l.lanes.items);
}
