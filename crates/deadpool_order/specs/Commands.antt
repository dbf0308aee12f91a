-- The command of each state.
use Rattle.std.specs.Prelude.{◌≡◌, ⊤, ℕ, Option, Some, None}
use Rattle.deadpool_desk.specs.declared.step.Step.{Step}
use Rattle.deadpool_desk.specs.declared.step.Step.TheVariants as step
use Rattle.deadpool_order.specs.declared.command.Command.{Command}
use Rattle.deadpool_order.specs.declared.command.Command.TheVariants as command
use Rattle.deadpool_order.specs.declared.state.State.{State}
use Rattle.deadpool_order.specs.declared.state.State.TheVariants as state

-- the step that is to be made; a get that goes on may take so many idle objects
abbrev pub step_in : Option ℕ → State → Option Step
step_in left (state.Entering wait) = Some (step.Enter wait)
step_in left (state.Asking ticket expired) = Some (step.Ask ticket expired)
step_in left state.GoingOn = Some (step.Again left)
step_in left state.Numbering = Some step.Created
step_in left (state.Failing cause) = Some step.Failed
step_in left state.Discarding = Some step.Discard
step_in left state.Refusing = Some step.Refused
step_in left (state.Withdrawing ticket cause) = Some (step.Withdraw ticket)
step_in left (state.Cancelling held) = Some (step.Cancel held)
step_in left state.Returning = Some step.Back
step_in left state.Taking = Some step.Take
step_in left _ = None

-- the states that have one
abbrev pub IsMaking : State → Type 0
IsMaking (state.Entering wait) = ⊤
IsMaking (state.Asking ticket expired) = ⊤
IsMaking state.GoingOn = ⊤
IsMaking state.Numbering = ⊤
IsMaking (state.Failing cause) = ⊤
IsMaking state.Discarding = ⊤
IsMaking state.Refusing = ⊤
IsMaking (state.Withdrawing ticket cause) = ⊤
IsMaking (state.Cancelling held) = ⊤
IsMaking state.Returning = ⊤
IsMaking state.Taking = ⊤
IsMaking _ = ⊥

-- The command of a state. Each call has a state of its own, so that it is known what is held while code of a user's
-- runs.
abbrev pub Fits : State → Command → Type 0
Fits (state.Entering wait) (command.Enter same) = same ≡ wait
Fits (state.Asking ticket expired) command.Ask = ⊤
Fits state.Numbering command.Number = ⊤
Fits state.GoingOn command.Make = ⊤
Fits (state.Failing cause) command.Make = ⊤
Fits state.Discarding command.Make = ⊤
Fits state.Refusing command.Make = ⊤
Fits (state.Withdrawing ticket cause) command.Make = ⊤
Fits (state.Cancelling held) command.Make = ⊤
Fits state.Returning command.Back = ⊤
Fits state.Taking command.Make = ⊤
Fits (state.Queued ticket) (command.Wait same) = same ≡ ticket
Fits state.Going command.Pause = ⊤
Fits state.Creating command.Create = ⊤
Fits (state.PreRecycling at) (command.PreRecycle number) = number ≡ at
Fits state.Recycling command.Recycle = ⊤
Fits (state.PostRecycling at) (command.PostRecycle number) = number ≡ at
Fits (state.Checking at) (command.PostCreate number) = number ≡ at
Fits (state.Giving recycled) (command.Give same) = same ≡ recycled
Fits state.Parting command.Part = ⊤
Fits state.Parted command.Tell = ⊤
Fits state.Yielding command.Yield = ⊤
Fits (state.Detaching then) command.Detach = ⊤
Fits (state.Releasing then) command.Release = ⊤
Fits (state.Telling cause) command.Tell = ⊤
Fits (state.Over cause) (command.End same) = same ≡ cause
Fits _ _ = ⊥
