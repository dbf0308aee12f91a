-- How long the way to an end is at most.
use Rattle.std.proofs.Common.{◌≤◌, lit≤}
use Rattle.deadpool_desk.specs.declared.step.Held.TheVariants as held
use Rattle.deadpool_order.specs.Ends.{rank}
use Rattle.deadpool_order.specs.declared.state.State.{State}
use Rattle.deadpool_order.specs.declared.state.State.TheVariants as state
use Rattle.deadpool_order.specs.declared.state.Then.TheVariants as then

-- no way takes more than five commands
pub rank-few : (at : State) → rank at ≤ 5
rank-few (state.Detaching (then.End cause)) = lit≤ tt
rank-few (state.Detaching _) = lit≤ tt
rank-few (state.Releasing (then.End cause)) = lit≤ tt
rank-few (state.Releasing _) = lit≤ tt
rank-few (state.Cancelling held.Object) = lit≤ tt
rank-few (state.Cancelling _) = lit≤ tt
rank-few _ = lit≤ tt
