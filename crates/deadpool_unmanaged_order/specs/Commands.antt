-- The command of each state.
use Rattle.std.specs.Prelude.{◌≡◌, ⊤, ℕ, Option, Some, None, true, false}
use Rattle.deadpool_unmanaged.specs.declared.step.Step.{Step}
use Rattle.deadpool_unmanaged.specs.declared.step.Step.TheVariants as step
use Rattle.deadpool_unmanaged_order.specs.Has.{cancel_of, has_in}
use Rattle.deadpool_unmanaged_order.specs.declared.command.Command.{Command}
use Rattle.deadpool_unmanaged_order.specs.declared.command.Command.TheVariants as command
use Rattle.deadpool_unmanaged_order.specs.declared.state.Line.TheVariants as line
use Rattle.deadpool_unmanaged_order.specs.declared.state.State.{State}
use Rattle.deadpool_unmanaged_order.specs.declared.state.State.TheVariants as state

-- the step that is to be made
abbrev pub step_in : State → Option Step
step_in (state.Entering line.Gets wait) = Some (step.GetEnter wait)
step_in (state.Entering line.Adds wait) = Some (step.AddEnter wait)
step_in (state.Asking line.Gets ticket expired) = Some (step.GetAsk ticket expired)
step_in (state.Asking line.Adds ticket expired) = Some (step.AddAsk ticket)
step_in (state.Withdrawing of ticket cause) = Some (cancel_of of ticket)
step_in state.Returning = Some step.Back
step_in state.Taking = Some step.Take
step_in _ = None

-- the states that have one
abbrev pub IsMaking : State → Type 0
IsMaking (state.Entering of wait) = ⊤
IsMaking (state.Asking of ticket expired) = ⊤
IsMaking (state.Withdrawing of ticket cause) = ⊤
IsMaking state.Returning = ⊤
IsMaking state.Taking = ⊤
IsMaking _ = ⊥

-- how many values the pool is to have from the hand with a step
abbrev pub brought_by : Step → ℕ
brought_by (step.AddEnter wait) = 1
brought_by (step.AddAsk ticket) = 1
brought_by step.Back = 1
brought_by _ = 0

-- and how many are lent to it: what is in the hand, but where it stays there
abbrev pub passed_in : State → ℕ
passed_in (state.Withdrawing of ticket cause) = 0
passed_in state.Taking = 0
passed_in at = has_in at

-- The command of a state. Each call has a state of its own, so that it is known what is held while code of a user's
-- runs.
abbrev pub Fits : State → Command → Type 0
Fits (state.Entering of true) command.Ask = ⊤
Fits (state.Entering of false) command.Pass = ⊤
Fits (state.Asking of ticket expired) command.Ask = ⊤
Fits (state.Queued of ticket) (command.Wait same) = same ≡ ticket
Fits (state.Withdrawing of ticket cause) command.Make = ⊤
Fits state.Giving command.Give = ⊤
Fits state.Returning command.Pass = ⊤
Fits state.Taking command.Make = ⊤
Fits state.Parted (command.Tell has-departed) = has-departed ≡ false
Fits (state.Yielding cause) (command.Yield same) = same ≡ cause
Fits state.Releasing command.Release = ⊤
Fits state.Telling (command.Tell has-departed) = has-departed ≡ true
Fits (state.Over cause) (command.End same) = same ≡ cause
Fits _ _ = ⊥
