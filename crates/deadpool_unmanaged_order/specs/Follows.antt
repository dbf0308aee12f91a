-- What follows on what: the next state, by what is told at a state.
use Rattle.std.specs.Prelude.{◌≡◌, Bool}
use Rattle.deadpool_unmanaged.specs.declared.step.Reply.{Reply}
use Rattle.deadpool_unmanaged.specs.declared.step.Reply.TheVariants as reply
use Rattle.deadpool_unmanaged_order.specs.declared.command.Cause.{Cause}
use Rattle.deadpool_unmanaged_order.specs.declared.command.Cause.TheVariants as cause
use Rattle.deadpool_unmanaged_order.specs.declared.state.Line.TheVariants as line
use Rattle.deadpool_unmanaged_order.specs.declared.state.State.{State}
use Rattle.deadpool_unmanaged_order.specs.declared.state.State.TheVariants as state

-- Why one ends that is refused.
abbrev pub cause_by : Reply → Cause
cause_by reply.Full = cause.NothingFree
cause_by reply.Expired = cause.NothingFree
cause_by reply.Crowded = cause.Crowded
cause_by reply.OutOfMemory = cause.OutOfMemory
cause_by _ = cause.Closed

-- and why one does that leaves its queue
abbrev pub cause_in : State → Cause
cause_in (state.Withdrawing of ticket why) = why
cause_in _ = cause.Dropped

-- a get has an object, waits, or ends
abbrev pub after_get : Reply → State
after_get reply.Object = state.Giving
after_get (reply.Waiting ticket) = state.Queued line.Gets ticket
after_get reply = state.Over (cause_by reply)

-- an add has stored its object, waits, or hands it back
abbrev pub after_add : Reply → State
after_add reply.Stored = state.Over cause.Done
after_add (reply.Waiting ticket) = state.Queued line.Adds ticket
after_add reply = state.Yielding (cause_by reply)

-- What follows on a reply, at each state that makes a step. An object that comes back, and is not kept, is dropped. Of
-- one that was taken it is told first that it has left.
abbrev pub after_reply : State → Reply → State
after_reply (state.Entering line.Gets wait) reply = after_get reply
after_reply (state.Entering line.Adds wait) reply = after_add reply
after_reply (state.Asking line.Gets ticket expired) reply = after_get reply
after_reply (state.Asking line.Adds ticket expired) reply = after_add reply
after_reply (state.Withdrawing line.Gets ticket why) reply = state.Over why
after_reply (state.Withdrawing line.Adds ticket why) reply = state.Yielding why
after_reply state.Returning reply.Kept = state.Over cause.Done
after_reply state.Returning reply = state.Releasing
after_reply state.Taking reply = state.Parted
after_reply at reply = at

-- on a wait for whose waker no memory is found
abbrev pub FollowsUnheard : State → State → Type 0
FollowsUnheard (state.Queued of ticket) after = after ≡ state.Withdrawing of ticket cause.OutOfMemory
FollowsUnheard _ after = ⊥

-- on the poll after one that has ended
abbrev pub FollowsPolled : Bool → State → State → Type 0
FollowsPolled expired (state.Queued of ticket) after = after ≡ state.Asking of ticket expired
FollowsPolled expired _ after = ⊥

-- on a call that answers nothing, told as it begins: the end is told once the hand is empty, or what is in it has left
abbrev pub FollowsBegun : State → State → Type 0
FollowsBegun state.Parted after = after ≡ state.Yielding cause.Done
FollowsBegun state.Releasing after = after ≡ state.Telling
FollowsBegun state.Telling after = after ≡ state.Over cause.Done
FollowsBegun _ after = ⊥

-- On a drop, or a call that never comes back, at any state: an entry in a queue and an object that is not out are given
-- back, and the object of an add is handed to whoever drops it. A step that was to be made was not.
abbrev pub after_drop : State → State
after_drop (state.Entering line.Gets wait) = state.Over cause.Dropped
after_drop (state.Entering line.Adds wait) = state.Yielding cause.Dropped
after_drop (state.Asking of ticket expired) = state.Withdrawing of ticket cause.Dropped
after_drop (state.Queued of ticket) = state.Withdrawing of ticket cause.Dropped
after_drop (state.Withdrawing of ticket why) = state.Withdrawing of ticket cause.Dropped
after_drop state.Giving = state.Returning
after_drop state.Taking = state.Returning
after_drop at = at
