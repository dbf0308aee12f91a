-- How far a get is, by name.
use Rattle.deadpool_managed.specs.Prepare.{object_of}
use Rattle.deadpool_managed.specs.Stages.{Stage}
use Rattle.deadpool_managed.specs.declared.kind.StageKind.{StageKind}
use Rattle.deadpool_managed.specs.declared.kind.StageKind.TheVariants as kind

-- an object is named by its number
abbrev pub kind_of : {V C R S : Type 0} → Stage V C R S → StageKind
kind_of Stage.Unpolled = kind.Unpolled
kind_of (Stage.Queued ticket deadline) = kind.Queued ticket
kind_of (Stage.Going allowance) = kind.Going
kind_of (Stage.Creating begun deadline) = kind.Creating
kind_of (Stage.Recycling preparation allowance) = kind.Recycling (object_of preparation).number
kind_of (Stage.Checking slot at) = kind.Checking slot.number
kind_of Stage.Finished = kind.Finished
