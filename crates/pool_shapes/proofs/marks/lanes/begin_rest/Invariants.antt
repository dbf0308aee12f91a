-- While new lanes are begun: the old ones stay, and each new one shows its part in the last column.
use Rattle.pool_shapes.proofs.Drawn.Words.{◌≡◌, ℕ, ◌+◌, ◌<◌, ◌≤◌, [], ◌∷◌, length, Some, slice_get, lane_at}
use Rattle.pool_shapes.proofs.marks.lanes.begin_rest.Given as goal

abbrev pub invariant-loop-at : goal.invariant-loop-at
invariant-loop-at g l = record {
  count : length l.initial.lanes.items ≤ length l.shown → length l.lanes.items ≡ l.at;
  same : (k : ℕ) → k < length l.initial.lanes.items → lane_at k l.lanes.items ≡ lane_at k l.initial.lanes.items;
  begun : (k : ℕ) (x : g.row.T.Denot) → length l.initial.lanes.items ≤ k → k < l.at → slice_get l.shown k ≡ Some x
      → lane_at k l.lanes.items ≡ record { shows = x; from = l.column; to = l.column + 1 } ∷ [];
}
