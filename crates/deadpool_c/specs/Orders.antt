-- An order as plain numbers: its state, what is next, and how it goes on.
use Rattle.std.specs.Prelude.{◌≡◌, ℕ, Bool, true, false, ◌==◌, if◌then◌else◌, Option, Some, None}
use Rattle.deadpool_desk.specs.Replies.{Leaves}
use Rattle.deadpool_desk.specs.declared.slot.Slot.{Slot}
use Rattle.deadpool_desk.specs.declared.step.Held.TheVariants as held
use Rattle.deadpool_desk.specs.declared.step.Reply.{Reply as DeskReply}
use Rattle.deadpool_desk.specs.declared.step.Step.{Step}
use Rattle.deadpool_journal.specs.Journaling.{Journaling}
use Rattle.deadpool_journal.specs.Steps.{MakesNoted}
use Rattle.deadpool_order.specs.Commands.{step_in}
use Rattle.deadpool_order.specs.Follows.{FollowsReply, allowance_by}
use Rattle.deadpool_order.specs.declared.command.Cause.{Cause}
use Rattle.deadpool_order.specs.declared.command.Cause.TheVariants as why
use Rattle.deadpool_order.specs.declared.command.HookCounts.{HookCounts}
use Rattle.deadpool_order.specs.declared.state.State.{State}
use Rattle.deadpool_order.specs.declared.state.State.TheVariants as state
use Rattle.deadpool_order.specs.declared.state.Then.TheVariants as then
use Rattle.deadpool_c.specs.ManagedReplies.{raw_in_hand}
use Rattle.deadpool_c.specs.ManagedSteps.{brought}
use Rattle.deadpool_c.specs.Replies.{plain}
use Rattle.deadpool_c.specs.declared.cause.TheConstants as cause
use Rattle.deadpool_c.specs.declared.command.TheConstants as command
use Rattle.deadpool_c.specs.declared.order.TheConstants as at
use Rattle.deadpool_c.specs.declared.order.Hooks.{Hooks}
use Rattle.deadpool_c.specs.declared.order.Order.{Order}
use Rattle.deadpool_c.specs.declared.reply.Reply.{Reply}
use Rattle.deadpool_c.specs.declared.reply.TheConstants.{UNKNOWN}

abbrev pub cause_of : ℕ → Cause
cause_of code =
    if code == cause.DONE then why.Done
    else (if code == cause.CLOSED then why.Closed
    else (if code == cause.NO_PLACE then why.NoPlace
    else (if code == cause.CROWDED then why.Crowded
    else (if code == cause.OUT_OF_MEMORY then why.OutOfMemory
    else (if code == cause.NUMBERS_EXHAUSTED then why.NumbersExhausted
    else (if code == cause.NO_RUNTIME then why.NoRuntime
    else (if code == cause.LATE then why.Late
    else (if code == cause.REFUSED then why.Refused
    else (if code == cause.DROPPED then why.Dropped
    else why.Failed)))))))))

-- a number that names no state is that of an order that is over
abbrev pub state_of : ℕ → ℕ → Bool → ℕ → State
state_of code number is_set why =
    if code == at.NEW then state.New
    else (if code == at.ENTERING then state.Entering is_set
    else (if code == at.ASKING then state.Asking number is_set
    else (if code == at.QUEUED then state.Queued number
    else (if code == at.GOING then state.Going
    else (if code == at.GOING_ON then state.GoingOn
    else (if code == at.CREATING then state.Creating
    else (if code == at.NUMBERING then state.Numbering
    else (if code == at.FAILING then state.Failing (cause_of why)
    else (if code == at.PRE_RECYCLING then state.PreRecycling number
    else (if code == at.RECYCLING then state.Recycling
    else (if code == at.POST_RECYCLING then state.PostRecycling number
    else (if code == at.DISCARDING then state.Discarding
    else (if code == at.CHECKING then state.Checking number
    else (if code == at.REFUSING then state.Refusing
    else (if code == at.GIVING then state.Giving is_set
    else (if code == at.WITHDRAWING then state.Withdrawing number (cause_of why)
    else (if code == at.CANCELLING_PLACE then state.Cancelling held.Place
    else (if code == at.CANCELLING_CREATION then state.Cancelling held.Creation
    else (if code == at.CANCELLING_OBJECT then state.Cancelling held.Object
    else (if code == at.RETURNING then state.Returning
    else (if code == at.TAKING then state.Taking
    else (if code == at.PARTING then state.Parting
    else (if code == at.PARTED then state.Parted
    else (if code == at.YIELDING then state.Yielding
    else (if code == at.DETACHING_TO_GO_ON then state.Detaching then.GoOn
    else (if code == at.DETACHING_TO_CANCEL then state.Detaching then.Cancel
    else (if code == at.DETACHING_TO_END then state.Detaching (then.End (cause_of why))
    else (if code == at.RELEASING_TO_GO_ON then state.Releasing then.GoOn
    else (if code == at.RELEASING_TO_CANCEL then state.Releasing then.Cancel
    else (if code == at.RELEASING_TO_END then state.Releasing (then.End (cause_of why))
    else (if code == at.TELLING then state.Telling (cause_of why)
    else state.Over (cause_of why))))))))))))))))))))))))))))))))

abbrev pub state_in : Order → State
state_in order = state_of order.state order.number order.is_set order.cause

abbrev pub allowance_in : Order → Option ℕ
allowance_in order = if order.is_limited then Some order.left else None

abbrev pub hooks_in : Hooks → HookCounts
hooks_in hooks = record {
  pre_recycle = hooks.pre_recycle;
  post_recycle = hooks.post_recycle;
  post_create = hooks.post_create;
}

abbrev pub numbers : ℕ → ℕ → Bool → ℕ → Order
numbers code number is_set why = record {
  command = command.END;
  state = code;
  number = number;
  is_set = is_set;
  cause = why;
  is_limited = false;
  left = 0;
}

-- what is next, at each state
abbrev pub command_at : State → ℕ
command_at state.New = command.END
command_at (state.Over cause) = command.END
command_at state.Returning = command.BACK
command_at (state.Queued ticket) = command.WAIT
command_at state.Going = command.PAUSE
command_at state.Creating = command.CREATE
command_at (state.PreRecycling number) = command.PRE_RECYCLE
command_at state.Recycling = command.RECYCLE
command_at (state.PostRecycling number) = command.POST_RECYCLE
command_at (state.Checking number) = command.POST_CREATE
command_at state.Parting = command.DETACH
command_at (state.Detaching next) = command.DETACH
command_at (state.Releasing next) = command.RELEASE
command_at state.Parted = command.TELL
command_at (state.Telling cause) = command.TELL
command_at (state.Giving recycled) = command.GIVE
command_at state.Yielding = command.GIVE
command_at _ = command.ADVANCE

-- an order at a state, with what its get may take
abbrev pub IsAt : State → Option ℕ → Order → Type 0
IsAt s left order =
    (state_in order ≡ s) × (allowance_in order ≡ left) × (order.command ≡ command_at s)

-- An event is told where its state allows it, and otherwise nothing changes.
abbrev pub Told : (State → Type 0) → (State → Option ℕ → State → Option ℕ → Type 0) → Order → Bool → Order → Type 0
Told May Follows order told order' =
    (told ≡ true → May (state_in order) × ((s : State) × (left : Option ℕ)
    × (Follows (state_in order) (allowance_in order) s left × IsAt s left order')))
    × (told ≡ false → (order' ≡ order) × (May (state_in order) → ⊥))

-- A step and its reply are one: the order of the get is told it.
abbrev pub AdvancesBy : Option Step → Journaling ℕ → Order → Hooks → ℕ → ℕ → Reply → Journaling ℕ → Order → Type 0
AdvancesBy (Some step) j order hooks number key raw j' order' =
    (hand : Option (Slot ℕ)) × (reply : DeskReply) × (s : State)
    × MakesNoted j step (brought step number key) reply hand j' × Leaves reply (brought step number key) hand
    × (raw ≡ raw_in_hand reply hand) × FollowsReply (hooks_in hooks) (state_in order) reply s
    × IsAt s (allowance_by reply (allowance_in order)) order'
AdvancesBy None j order hooks number key raw j' order' =
    (raw ≡ plain UNKNOWN) × (j' ≡ j) × (order' ≡ order)

abbrev pub AdvancesRaw : Journaling ℕ → Order → Hooks → ℕ → ℕ → Reply → Journaling ℕ → Order → Type 0
AdvancesRaw j order = AdvancesBy (step_in (allowance_in order) (state_in order)) j order
