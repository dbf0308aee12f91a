-- Lanes, one above the other, and the frames that they draw: a frame is what all lanes show in one column.
use Rattle.std.specs.Prelude.{◌≡◌, ℕ, ◌+◌, ◌<◌, ◌≤◌, List, [], ◌∷◌, ◌++◌, length, slice_get, slice_index_or, Some}
use Rattle.std.specs.List.{filter_map}
use Rattle.pool_shapes.specs.Drawn.Marks.{columns, first_column, next_column}
use Rattle.pool_shapes.specs.declared.marks.mark.Mark.{Mark}

pub record Rows (T : Type 0) : Type 0 where
  -- from the top
  pub lanes : List (List (Mark T))
  -- how many columns there are
  pub columns : ℕ

module _ {T : Type 0} where
  abbrev pub lane_at : ℕ → List (List (Mark T)) → List (Mark T)
  lane_at k lanes = slice_index_or lanes k []

  -- what the frames say of the lane at this position: nothing before the first frame that reaches down to it
  abbrev pub shown_at : ℕ → List (List T) → List T
  shown_at k frames = filter_map (λ frame. slice_get frame k) frames

  -- The lanes draw the frames: each lane shows, column by column, what the frames say of it, and ends in the last
  -- column.
  pub record Draws (frames : List (List T)) (rows : Rows T) : Type 0 where
    pub columns_are : rows.columns ≡ length frames
    pub shows : (k : ℕ) → columns (lane_at k rows.lanes) ≡ shown_at k frames
    pub begins : (k : ℕ) → k < length rows.lanes
        → first_column (lane_at k rows.lanes) + length (shown_at k frames) ≡ rows.columns

  -- all lanes end before this column
  abbrev pub EndAt : ℕ → List (List (Mark T)) → Type 0
  EndAt c lanes = (k : ℕ) → k < length lanes → next_column (lane_at k lanes) ≡ c

  -- a lane with one column more
  pub record Extends (was : List (Mark T)) (shows : T) (is : List (Mark T)) : Type 0 where
    pub columns_are : columns is ≡ columns was ++ shows ∷ []
    pub first : first_column is ≡ first_column was
    pub next : next_column is ≡ next_column was + 1

  -- each of some lanes has one column more
  pub record AllExtend (was : List (List (Mark T))) (shown : List T) (are : List (List (Mark T))) : Type 0 where
    pub count : length are ≡ length was
    pub each : (k : ℕ) (x : T) → k < length was → slice_get shown k ≡ Some x → Extends (lane_at k was) x (lane_at k are)

  -- below some lanes others begin in a column
  pub record AllBegin (c : ℕ) (was : List (List (Mark T))) (shown : List T) (are : List (List (Mark T))) : Type 0 where
    pub count : length was ≤ length shown → length are ≡ length shown
    pub same : (k : ℕ) → k < length was → lane_at k are ≡ lane_at k was
    pub begun : (k : ℕ) (x : T) → length was ≤ k → slice_get shown k ≡ Some x
        → lane_at k are ≡ record { shows = x; from = c; to = c + 1 } ∷ []
