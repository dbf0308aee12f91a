-- A place that goes from one party to another, from one move to the next.
use Rattle.std.specs.Prelude.{◌≡◌, ℕ, Bool, true, false, List, Some, slice_get}
use Rattle.pool_shapes.specs.declared.marks.shape.Shape.{Shape}
use Rattle.pool_shapes.specs.declared.marks.shape.Stage.{Stage}
use Rattle.pool_shapes.specs.declared.marks.shape.Stage.TheVariants as stage

-- a party that stands so has a place, or an object with one
abbrev pub has_place : Stage → Bool
has_place stage.New = false
has_place stage.Queued = false
has_place stage.Granted = true
has_place stage.Going = true
has_place stage.Creating = true
has_place stage.Recycling = true
has_place stage.Checking = true
has_place stage.Holding = true
has_place stage.Ended = false
has_place stage.Cancelled = false

abbrev pub has_ended : Stage → Bool
has_ended stage.New = false
has_ended stage.Queued = false
has_ended stage.Granted = false
has_ended stage.Going = false
has_ended stage.Creating = false
has_ended stage.Recycling = false
has_ended stage.Checking = false
has_ended stage.Holding = false
has_ended stage.Ended = true
has_ended stage.Cancelled = true

-- it waited before a move, and after it was granted what it waited for
abbrev pub WasGranted : Shape → Shape → Type 0
WasGranted was is = (was.stage ≡ stage.Queued) × (is.stage ≡ stage.Granted)

-- it had a place before a move, and has ended after it
abbrev pub GaveUp : Shape → Shape → Type 0
GaveUp was is = (has_place was.stage ≡ true) × (has_ended is.stage ≡ true)

-- the party with this number stood so before a move, and stands so after it
pub record Between (Changed : Shape → Shape → Type 0) (was is : List Shape) (party : ℕ) : Type 0 where
  pub before : Shape
  pub after : Shape
  pub stood : slice_get was party ≡ Some before
  pub stands : slice_get is party ≡ Some after
  pub changed : Changed before after
