-- The way to an end, from which nothing turns back, and how many commands it takes at most.
use Rattle.std.specs.Prelude.{⊤, ℕ, ◌+◌, ◌<◌}
use Rattle.deadpool_desk.specs.declared.step.Held.TheVariants as held
use Rattle.deadpool_order.specs.declared.state.State.{State}
use Rattle.deadpool_order.specs.declared.state.State.TheVariants as state
use Rattle.deadpool_order.specs.declared.state.Then.{Then}
use Rattle.deadpool_order.specs.declared.state.Then.TheVariants as then

-- nothing is left to do
abbrev pub IsOver : State → Type 0
IsOver (state.Over cause) = ⊤
IsOver _ = ⊥

abbrev pub EndsThen : Then → Type 0
EndsThen then.GoOn = ⊥
EndsThen _ = ⊤

-- only an end can follow
abbrev pub Ends : State → Type 0
Ends (state.Failing cause) = ⊤
Ends state.Refusing = ⊤
Ends (state.Withdrawing ticket cause) = ⊤
Ends (state.Cancelling what) = ⊤
Ends state.Returning = ⊤
Ends state.Taking = ⊤
Ends state.Parting = ⊤
Ends state.Parted = ⊤
Ends state.Yielding = ⊤
Ends (state.Detaching next) = EndsThen next
Ends (state.Releasing next) = EndsThen next
Ends (state.Telling cause) = ⊤
Ends (state.Over cause) = ⊤
Ends _ = ⊥

-- how many commands are left on that way, at most, whichever of their calls never come back
abbrev pub rank_then : Then → ℕ
rank_then (then.End cause) = 1
rank_then _ = 2

abbrev pub rank : State → ℕ
rank (state.Over cause) = 0
rank (state.Telling cause) = 1
rank (state.Releasing next) = rank_then next + 1
rank (state.Detaching next) = rank_then next + 2
rank state.Taking = 5
rank state.Parting = 4
rank state.Parted = 3
rank state.Yielding = 2
rank (state.Withdrawing ticket cause) = 1
rank (state.Failing cause) = 2
rank (state.Cancelling held.Object) = 4
rank (state.Cancelling held) = 2
rank _ = 4

-- it is on that way, and nearer to the end
abbrev pub Nears : State → State → Type 0
Nears before after = Ends after × (rank after < rank before)
