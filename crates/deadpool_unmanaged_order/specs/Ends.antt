-- The way to an end, from which nothing turns back, and how many commands it takes at most.
use Rattle.std.specs.Prelude.{⊤, ℕ, ◌<◌}
use Rattle.deadpool_unmanaged_order.specs.declared.state.State.{State}
use Rattle.deadpool_unmanaged_order.specs.declared.state.State.TheVariants as state

-- nothing is left to do
abbrev pub IsOver : State → Type 0
IsOver (state.Over cause) = ⊤
IsOver _ = ⊥

-- only an end can follow
abbrev pub Ends : State → Type 0
Ends (state.Entering of wait) = ⊥
Ends (state.Asking of ticket expired) = ⊥
Ends (state.Queued of ticket) = ⊥
Ends state.Giving = ⊥
Ends _ = ⊤

-- how many commands are left on that way, at most, whichever of their calls never come back
abbrev pub rank : State → ℕ
rank (state.Over cause) = 0
rank state.Telling = 1
rank (state.Yielding cause) = 1
rank state.Releasing = 2
rank state.Parted = 2
rank (state.Withdrawing of ticket cause) = 2
rank _ = 3

-- it is on that way, and nearer to the end
abbrev pub Nears : State → State → Type 0
Nears before after = Ends after × (rank after < rank before)
