-- What lanes show of a pool at one move: of each party its stage and its object.
use Rattle.std.specs.Prelude.{◌≡◌, ℕ, List, length, Option, Some, None, slice_get}
use Rattle.deadpool_trial.specs.Look.{look_of}
use Rattle.deadpool_trial.specs.Pool.{Pool}
use Rattle.deadpool_trial.specs.declared.look.Look.{Look}
use Rattle.deadpool_trial.specs.declared.look.Look.TheVariants as look
use Rattle.deadpool_trial.specs.Unmanaged.Look.{look_of as unmanaged_look_of}
use Rattle.deadpool_trial.specs.Unmanaged.Pool.{Pool as UnmanagedPool}
use Rattle.deadpool_trial.specs.declared.unmanaged.look.Look.{Look as UnmanagedLook}
use Rattle.deadpool_trial.specs.declared.unmanaged.look.Look.TheVariants as unmanaged
use Rattle.pool_shapes.specs.declared.marks.shape.Shape.{Shape}
use Rattle.pool_shapes.specs.declared.marks.shape.Stage.{Stage}
use Rattle.pool_shapes.specs.declared.marks.shape.Stage.TheVariants as stage

abbrev pub alone : Stage → Shape
alone stage = record { stage = stage; object = None }

abbrev pub with_object : Stage → ℕ → Shape
with_object stage number = record { stage = stage; object = Some number }

-- a party that has ended has the object that it was given, while that is out
abbrev pub ended_with : Option ℕ → Shape
ended_with (Some number) = with_object stage.Holding number
ended_with None = alone stage.Ended

-- Of a party that a trial has started: what is seen of it, and the object that it was given. A party of which nothing
-- is seen any more was cancelled.
abbrev pub shape_of : Look → Option ℕ → Shape
shape_of look.NoSuch given = alone stage.Cancelled
shape_of look.Unpolled given = alone stage.New
shape_of look.Queued given = alone stage.Queued
shape_of look.Granted given = alone stage.Granted
shape_of look.Going given = alone stage.Going
shape_of look.Creating given = alone stage.Creating
shape_of (look.Recycling number) given = with_object stage.Recycling number
shape_of (look.Checking number) given = with_object stage.Checking number
shape_of look.Finished given = ended_with given

abbrev pub unmanaged_shape_of : UnmanagedLook → Option ℕ → Shape
unmanaged_shape_of unmanaged.NoSuch given = alone stage.Cancelled
unmanaged_shape_of unmanaged.NewGet given = alone stage.New
unmanaged_shape_of unmanaged.QueuedGet given = alone stage.Queued
unmanaged_shape_of unmanaged.GrantedGet given = alone stage.Granted
unmanaged_shape_of (unmanaged.NewAdd number) given = with_object stage.New number
unmanaged_shape_of (unmanaged.QueuedAdd number) given = with_object stage.Queued number
unmanaged_shape_of (unmanaged.GrantedAdd number) given = with_object stage.Granted number
unmanaged_shape_of unmanaged.Finished given = ended_with given

-- a shape for each party, by its number
pub record ShowsEach (shape : ℕ → Option ℕ → Shape) (given : List (Option ℕ)) (shapes : List Shape) : Type 0 where
  pub count : length shapes ≡ length given
  pub each : (n : ℕ) (object : Option ℕ) → slice_get given n ≡ Some object → slice_get shapes n ≡ Some (shape n object)

module _ {V C R S F A : Type 0} where
  -- how each party of a pool stands
  abbrev pub ShowsParties : Pool V C R S F A → List (Option ℕ) → List Shape → Type 0
  ShowsParties p given shapes = ShowsEach (λ n object. shape_of (look_of n p) object) given shapes

module _ {V : Type 0} where
  abbrev pub UnmanagedShowsParties : UnmanagedPool V → List (Option ℕ) → List Shape → Type 0
  UnmanagedShowsParties p given shapes =
      ShowsEach (λ n object. unmanaged_shape_of (unmanaged_look_of n p) object) given shapes
