-- Kinds of states, by what may be told there.
use Rattle.std.specs.Prelude.{⊤}
use Rattle.deadpool_unmanaged_order.specs.declared.state.State.{State}
use Rattle.deadpool_unmanaged_order.specs.declared.state.State.TheVariants as state

-- it is in the queue, and waits
abbrev pub IsQueued : State → Type 0
IsQueued (state.Queued line ticket) = ⊤
IsQueued _ = ⊥

-- a call is to be made that answers nothing
abbrev pub IsLeaving : State → Type 0
IsLeaving state.Parted = ⊤
IsLeaving state.Releasing = ⊤
IsLeaving state.Telling = ⊤
IsLeaving _ = ⊥

-- what is in the hand is to be given out, or handed over
abbrev pub IsGiving : State → Type 0
IsGiving state.Giving = ⊤
IsGiving (state.Yielding cause) = ⊤
IsGiving _ = ⊥
