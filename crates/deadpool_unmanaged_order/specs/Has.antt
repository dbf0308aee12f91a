-- What an order has at each state, and after each reply: an entry in a queue or an object that is out, and something in
-- the hand.
use Rattle.std.specs.Prelude.{ℕ, Option, Some, None}
use Rattle.deadpool_unmanaged.specs.declared.step.Reply.{Reply}
use Rattle.deadpool_unmanaged.specs.declared.step.Reply.TheVariants as reply
use Rattle.deadpool_unmanaged.specs.declared.step.Step.{Step}
use Rattle.deadpool_unmanaged.specs.declared.step.Step.TheVariants as step
use Rattle.deadpool_unmanaged_order.specs.declared.state.Line.{Line}
use Rattle.deadpool_unmanaged_order.specs.declared.state.Line.TheVariants as line
use Rattle.deadpool_unmanaged_order.specs.declared.state.State.{State}
use Rattle.deadpool_unmanaged_order.specs.declared.state.State.TheVariants as state

-- the step by which it leaves its queue
abbrev pub cancel_of : Line → ℕ → Step
cancel_of line.Gets ticket = step.GetCancel ticket
cancel_of line.Adds ticket = step.AddCancel ticket

-- What it has at the pool, as the step that gives it back. Where a step is under way it is what it has before it.
abbrev pub held_in : State → Option Step
held_in (state.Asking of ticket expired) = Some (cancel_of of ticket)
held_in (state.Queued of ticket) = Some (cancel_of of ticket)
held_in (state.Withdrawing of ticket cause) = Some (cancel_of of ticket)
held_in state.Giving = Some step.Back
held_in state.Returning = Some step.Back
held_in state.Taking = Some step.Back
held_in _ = None

-- what a step needs there
abbrev pub needed : Step → Option Step
needed (step.GetAsk ticket expired) = Some (step.GetCancel ticket)
needed (step.GetCancel ticket) = Some (step.GetCancel ticket)
needed (step.AddAsk ticket) = Some (step.AddCancel ticket)
needed (step.AddCancel ticket) = Some (step.AddCancel ticket)
needed step.Back = Some step.Back
needed step.Take = Some step.Back
needed _ = None

-- what it has there after a reply: an object that is out, or an entry in the queue
abbrev pub held_by : Step → Reply → Option Step
held_by (step.GetEnter wait) (reply.Waiting ticket) = Some (step.GetCancel ticket)
held_by (step.GetAsk before expired) (reply.Waiting ticket) = Some (step.GetCancel ticket)
held_by (step.AddEnter wait) (reply.Waiting ticket) = Some (step.AddCancel ticket)
held_by (step.AddAsk before) (reply.Waiting ticket) = Some (step.AddCancel ticket)
held_by _ reply.Object = Some step.Back
held_by _ _ = None

-- how many values an add, or an order of its kind, has in the hand as long as it is in its queue
abbrev pub has_of : Line → ℕ
has_of line.Gets = 0
has_of line.Adds = 1

-- how many values are in the hand
abbrev pub has_in : State → ℕ
has_in (state.Entering of wait) = has_of of
has_in (state.Asking of ticket expired) = has_of of
has_in (state.Queued of ticket) = has_of of
has_in (state.Withdrawing of ticket cause) = has_of of
has_in state.Telling = 0
has_in (state.Over cause) = 0
has_in _ = 1

-- after a reply: an object that is given is in the hand, one that is stored or kept is not, and else it is as it was
abbrev pub has_after : Reply → ℕ → ℕ
has_after reply.Object before = 1
has_after reply.Stored before = 0
has_after reply.Kept before = 0
has_after _ before = before
