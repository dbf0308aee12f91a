-- Kinds of states, by what may be told there.
use Rattle.std.specs.Prelude.{⊤, ◌<◌}
use Rattle.deadpool_order.specs.declared.command.HookCounts.{HookCounts}
use Rattle.deadpool_order.specs.declared.state.State.{State}
use Rattle.deadpool_order.specs.declared.state.State.TheVariants as state

-- its poll has ended, and nothing is under way
abbrev pub IsPaused : State → Type 0
IsPaused (state.Queued ticket) = ⊤
IsPaused state.Going = ⊤
IsPaused _ = ⊥

-- it is in the queue, and waits
abbrev pub IsQueued : State → Type 0
IsQueued (state.Queued ticket) = ⊤
IsQueued _ = ⊥

-- a call of the manager or of a hook is under way, which answers
abbrev pub IsCalling : State → Type 0
IsCalling state.Creating = ⊤
IsCalling (state.PreRecycling at) = ⊤
IsCalling state.Recycling = ⊤
IsCalling (state.PostRecycling at) = ⊤
IsCalling (state.Checking at) = ⊤
IsCalling _ = ⊥

-- a call is to be made that answers nothing
abbrev pub IsLeaving : State → Type 0
IsLeaving state.Parting = ⊤
IsLeaving state.Parted = ⊤
IsLeaving (state.Detaching then) = ⊤
IsLeaving (state.Releasing then) = ⊤
IsLeaving (state.Telling cause) = ⊤
IsLeaving _ = ⊥

-- the object is to be given out, or handed over
abbrev pub IsGiving : State → Type 0
IsGiving (state.Giving recycled) = ⊤
IsGiving state.Yielding = ⊤
IsGiving _ = ⊥

-- the hook that sees the object is one of its list
abbrev pub IsWithin : HookCounts → State → Type 0
IsWithin counts (state.PreRecycling at) = at < counts.pre_recycle
IsWithin counts (state.PostRecycling at) = at < counts.post_recycle
IsWithin counts (state.Checking at) = at < counts.post_create
IsWithin counts _ = ⊤
