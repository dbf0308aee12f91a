-- What follows on what: the next state, by what is told at a state.
use Rattle.std.specs.Prelude.{◌≡◌, ⊤, ℕ, ◌+◌, ◌<◌, ◌≤◌, Option, Some, None, Bool, true, false}
use Rattle.deadpool_desk.specs.declared.step.Held.TheVariants as held
use Rattle.deadpool_desk.specs.declared.step.Reply.{Reply}
use Rattle.deadpool_desk.specs.declared.step.Reply.TheVariants as reply
use Rattle.deadpool_order.specs.declared.command.Cause.{Cause}
use Rattle.deadpool_order.specs.declared.command.Cause.TheVariants as cause
use Rattle.deadpool_order.specs.declared.command.HookCounts.{HookCounts}
use Rattle.deadpool_order.specs.declared.state.State.{State}
use Rattle.deadpool_order.specs.declared.state.State.TheVariants as state
use Rattle.deadpool_order.specs.declared.state.Then.{Then}
use Rattle.deadpool_order.specs.declared.state.Then.TheVariants as then

-- An idle object passes the `pre_recycle` hooks in turn, from one of them on, then its recycling, then the
-- `post_recycle` hooks; a new one the `post_create` hooks. Only then it is given out.
abbrev pub FollowsPreRecycled : HookCounts → ℕ → State → Type 0
FollowsPreRecycled counts at (state.PreRecycling number) = (number ≡ at) × (at < counts.pre_recycle)
FollowsPreRecycled counts at state.Recycling = counts.pre_recycle ≤ at
FollowsPreRecycled counts at _ = ⊥

abbrev pub FollowsPostRecycled : HookCounts → ℕ → State → Type 0
FollowsPostRecycled counts at (state.PostRecycling number) = (number ≡ at) × (at < counts.post_recycle)
FollowsPostRecycled counts at (state.Giving recycled) = (recycled ≡ true) × (counts.post_recycle ≤ at)
FollowsPostRecycled counts at _ = ⊥

abbrev pub FollowsChecked : HookCounts → ℕ → State → Type 0
FollowsChecked counts at (state.Checking number) = (number ≡ at) × (at < counts.post_create)
FollowsChecked counts at (state.Giving recycled) = (recycled ≡ false) × (counts.post_create ≤ at)
FollowsChecked counts at _ = ⊥

-- on a call that ended well
abbrev pub FollowsReady : HookCounts → State → State → Type 0
FollowsReady counts state.Creating after = after ≡ state.Numbering
FollowsReady counts (state.PreRecycling at) after = FollowsPreRecycled counts (at + 1) after
FollowsReady counts state.Recycling after = FollowsPostRecycled counts 0 after
FollowsReady counts (state.PostRecycling at) after = FollowsPostRecycled counts (at + 1) after
FollowsReady counts (state.Checking at) after = FollowsChecked counts (at + 1) after
FollowsReady counts _ after = ⊥

-- on one that ended badly, was pending for too long or was not made: no hook sees the object any more
abbrev pub FollowsFailed : Cause → State → State → Type 0
FollowsFailed why state.Creating after = after ≡ state.Failing why
FollowsFailed why (state.PreRecycling at) after = after ≡ state.Discarding
FollowsFailed why state.Recycling after = after ≡ state.Discarding
FollowsFailed why (state.PostRecycling at) after = after ≡ state.Discarding
FollowsFailed why (state.Checking at) after = after ≡ state.Refusing
FollowsFailed why _ after = ⊥

-- on a wait for whose waker no memory is found
abbrev pub FollowsUnheard : State → State → Type 0
FollowsUnheard (state.Queued ticket) after = after ≡ state.Withdrawing ticket cause.OutOfMemory
FollowsUnheard _ after = ⊥

-- on the poll after one that has ended
abbrev pub FollowsPaused : Bool → State → State → Type 0
FollowsPaused expired (state.Queued ticket) after = after ≡ state.Asking ticket expired
FollowsPaused expired state.Going after = after ≡ state.GoingOn
FollowsPaused expired _ after = ⊥

-- the replies to a get that asks for a place
abbrev pub IsServing : Reply → Type 0
IsServing (reply.Number number) = ⊥
IsServing reply.Done = ⊥
IsServing reply.Kept = ⊥
IsServing reply.Detach = ⊥
IsServing reply.Dropped = ⊥
IsServing (reply.Taken detach) = ⊥
IsServing _ = ⊤

-- Why a get ends that is refused.
abbrev pub cause_by : Reply → Cause
cause_by reply.Exhausted = cause.NumbersExhausted
cause_by reply.Full = cause.NoPlace
cause_by reply.Expired = cause.NoPlace
cause_by reply.Crowded = cause.Crowded
cause_by reply.OutOfMemory = cause.OutOfMemory
cause_by _ = cause.Closed

-- and why another one does, whose step was not known
abbrev pub cause_or : Cause → Reply → Cause
cause_or why reply.Unknown = cause.Closed
cause_or why _ = why

-- What follows on them. One that had a place, and has none any more, tells of it.
abbrev pub FollowsServing : HookCounts → Reply → State → Type 0
FollowsServing counts (reply.Object left) after = FollowsPreRecycled counts 0 after
FollowsServing counts reply.Create after = after ≡ state.Creating
FollowsServing counts reply.Going after = after ≡ state.Going
FollowsServing counts (reply.Waiting ticket) after = after ≡ state.Queued ticket
FollowsServing counts reply.Exhausted after = after ≡ state.Telling cause.NumbersExhausted
FollowsServing counts reply after = after ≡ state.Over (cause_by reply)

-- An object that is given up is detached, and one that the pool does not know. One that has no pool left is dropped.
abbrev pub gone_by : Then → Reply → State
gone_by next reply.Done = state.Detaching next
gone_by next reply.Detach = state.Detaching next
gone_by next reply.Dropped = state.Releasing next
gone_by next _ = state.Detaching (then.End cause.Closed)

-- What follows on a reply, at each state that makes a step.
abbrev pub FollowsReply : HookCounts → State → Reply → State → Type 0
FollowsReply counts (state.Entering wait) reply after = FollowsServing counts reply after
FollowsReply counts (state.Asking ticket expired) reply after = FollowsServing counts reply after
FollowsReply counts state.GoingOn reply after = FollowsServing counts reply after
FollowsReply counts state.Numbering (reply.Number number) after = FollowsChecked counts 0 after
FollowsReply counts state.Numbering reply after = after ≡ state.Detaching (then.End cause.Closed)
FollowsReply counts state.Discarding reply after = after ≡ gone_by then.GoOn reply
FollowsReply counts state.Refusing reply after = after ≡ gone_by (then.End cause.Refused) reply
FollowsReply counts (state.Cancelling held.Object) reply after = after ≡ gone_by (then.End cause.Dropped) reply
FollowsReply counts (state.Cancelling held) reply after = after ≡ state.Telling (cause_or cause.Dropped reply)
FollowsReply counts (state.Failing why) reply after = after ≡ state.Telling (cause_or why reply)
FollowsReply counts (state.Withdrawing ticket why) reply after = after ≡ state.Over why
FollowsReply counts state.Returning reply.Kept after = after ≡ state.Over cause.Done
FollowsReply counts state.Returning reply after = after ≡ gone_by (then.End cause.Done) reply
FollowsReply counts state.Taking (reply.Taken false) after = after ≡ state.Parted
FollowsReply counts state.Taking reply after = after ≡ state.Parting
FollowsReply counts _ reply after = ⊥

-- how many more idle objects a get may take in its poll
abbrev pub allowance_by : Reply → Option ℕ → Option ℕ
allowance_by (reply.Object left) before = Some left
allowance_by reply.Going before = None
allowance_by _ before = before

-- on a call that answers nothing, told as it begins: what is detached is dropped then, and the end is told once the
-- hand is empty
abbrev pub after_hand : Then → State
after_hand then.GoOn = state.GoingOn
after_hand then.Cancel = state.Cancelling held.Place
after_hand (then.End why) = state.Telling why

abbrev pub FollowsBegun : State → State → Type 0
FollowsBegun state.Parting after = after ≡ state.Parted
FollowsBegun state.Parted after = after ≡ state.Yielding
FollowsBegun (state.Detaching next) after = after ≡ state.Releasing next
FollowsBegun (state.Releasing next) after = after ≡ after_hand next
FollowsBegun (state.Telling why) after = after ≡ state.Over why
FollowsBegun _ after = ⊥

-- On a drop, or a call that never comes back, at any state: what is held is given back, and an object that is not out
-- is given up. A step that was to be made was not.
abbrev pub then_dropped : Then → Then
then_dropped then.GoOn = then.Cancel
then_dropped next = next

abbrev pub after_drop : State → State
after_drop state.New = state.Over cause.Dropped
after_drop (state.Entering wait) = state.Over cause.Dropped
after_drop (state.Asking ticket expired) = state.Withdrawing ticket cause.Dropped
after_drop (state.Queued ticket) = state.Withdrawing ticket cause.Dropped
after_drop (state.Withdrawing ticket why) = state.Withdrawing ticket cause.Dropped
after_drop state.Going = state.Cancelling held.Place
after_drop state.GoingOn = state.Cancelling held.Place
after_drop state.Creating = state.Cancelling held.Creation
after_drop state.Numbering = state.Cancelling held.Creation
after_drop (state.Failing why) = state.Cancelling held.Creation
after_drop (state.Cancelling what) = state.Cancelling what
after_drop state.Returning = state.Returning
after_drop state.Parting = state.Detaching (then.End cause.Dropped)
after_drop (state.Detaching next) = state.Detaching (then_dropped next)
after_drop state.Parted = state.Releasing (then.End cause.Dropped)
after_drop state.Yielding = state.Releasing (then.End cause.Dropped)
after_drop (state.Releasing next) = state.Releasing (then_dropped next)
after_drop (state.Telling why) = state.Telling why
after_drop (state.Over why) = state.Over why
after_drop _ = state.Cancelling held.Object
