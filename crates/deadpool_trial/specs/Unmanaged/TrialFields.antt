-- What a trial makes of what a party comes to, and what is seen of one.
use Rattle.std.specs.Prelude.{◌≡◌, ℕ, ⊤, List, Option, Some, None, Result, Ok, Err, if◌then◌else◌}
use Rattle.deadpool_gate.specs.Numbers.{has_number}
use Rattle.deadpool_gate.specs.Queue.{Queue}
use Rattle.futures.specs.declared.task.Poll.{Poll}
use Rattle.futures.specs.declared.task.Poll.TheVariants as poll
use Rattle.deadpool_parts.specs.declared.moment.Moment.{Moment}
use Rattle.deadpool_parts.specs.declared.moment.Runtime.{Runtime}
use Rattle.deadpool_unmanaged.specs.Adds.{PollsAdd, CancelsAdd, held_by}
use Rattle.deadpool_unmanaged.specs.Gets.{PollsGet, CancelsGet}
use Rattle.deadpool_unmanaged.specs.State.{State}
use Rattle.deadpool_trial.specs.Unmanaged.Steps.{with_item}
use Rattle.deadpool_unmanaged.specs.declared.add.AddStage.{AddStage}
use Rattle.deadpool_unmanaged.specs.declared.add.AddStage.TheVariants as adding
use Rattle.deadpool_unmanaged.specs.declared.error.PoolError.{PoolError}
use Rattle.deadpool_unmanaged.specs.declared.get.GetStage.{GetStage}
use Rattle.deadpool_unmanaged.specs.declared.get.GetStage.TheVariants as getting
use Rattle.deadpool_trial.specs.declared.unmanaged.look.Look.{Look}
use Rattle.deadpool_trial.specs.declared.unmanaged.look.Look.TheVariants as look
use Rattle.deadpool_trial.specs.declared.unmanaged.moves.Item.{Item}
use Rattle.deadpool_trial.specs.declared.unmanaged.moves.Reply.{Reply}
use Rattle.deadpool_trial.specs.declared.unmanaged.moves.Reply.TheVariants as reply
use Rattle.deadpool_trial.specs.declared.unmanaged.trial.Visitor.{Visitor}
use Rattle.deadpool_trial.specs.declared.unmanaged.trial.Visitor.TheVariants as visitor
use Rattle.deadpool_trial.specs.declared.unmanaged.trial.Turn.{Turn}
use Rattle.deadpool_trial.specs.declared.unmanaged.trial.Turn.TheVariants as turn
use Rattle.deadpool_unmanaged.specs.declared.error.PoolError.TheVariants.{Closed, Timeout}
use Rattle.deadpool_unmanaged.specs.declared.step.Reply.{Reply as CoreReply}
use Rattle.deadpool_unmanaged.specs.declared.step.Reply.TheVariants as core
use Rattle.deadpool_parts.specs.declared.replies.HandleReply.{HandleReply}
use Rattle.deadpool_parts.specs.declared.replies.HandleReply.TheVariants as handle

-- what is seen of a get at a stage; one in the queue by its ticket
abbrev pub look_at_get : Queue → GetStage → Look
look_at_get gets (getting.Unpolled wait) = look.NewGet
look_at_get gets (getting.Queued ticket deadline) =
    if has_number ticket gets.granted then look.GrantedGet else look.QueuedGet
look_at_get gets getting.Finished = look.Finished

-- one that does not wait is refused so, and why
abbrev pub IsRefusal : CoreReply → Type 0
IsRefusal core.Closed = ⊤
IsRefusal core.Full = ⊤
IsRefusal _ = ⊥

abbrev pub refusal_of : CoreReply → PoolError
refusal_of core.Full = Timeout
refusal_of _ = Closed

-- the pool knew of the object that came back
abbrev pub IsKnown : CoreReply → Type 0
IsKnown core.Kept = ⊤
IsKnown core.Dropped = ⊤
IsKnown _ = ⊥

module _ {V : Type 0} where
  -- what is seen of an add
  abbrev pub look_at_add : Queue → AddStage (Item V) → Look
  look_at_add adds (adding.Unpolled item) = look.NewAdd item.number
  look_at_add adds (adding.Queued ticket item) =
      if has_number ticket adds.granted then look.GrantedAdd item.number else look.QueuedAdd item.number
  look_at_add adds adding.Finished = look.Finished

  -- what a get's poll comes to
  abbrev pub got : Poll (Result (Item V) PoolError) → Turn V
  got poll.Pending = turn.Pending
  got (poll.Ready (Ok item)) = turn.Object item
  got (poll.Ready (Err cause)) = turn.Failed cause

  -- an object is named by its number
  abbrev pub stored : Option (Item V) → Turn V
  stored (Some item) = turn.Added item.number
  stored None = turn.Pending

  -- what an add's poll comes to, by the object that it had
  abbrev pub added : Option (Item V) → Poll (Result (Unit {0}) (Item V × PoolError)) → Turn V
  added held poll.Pending = turn.Pending
  added held (poll.Ready (Ok done)) = stored held
  added held (poll.Ready (Err (item, cause))) = turn.Refused cause item.value

  -- the objects out, with the one that a turn gives
  abbrev pub given : Turn V → List (Item V) → List (Item V)
  given (turn.Object item) out = with_item item out
  given _ out = out

  abbrev pub reply_to : Turn V → Reply V
  reply_to turn.Pending = reply.Pending
  reply_to (turn.Object item) = reply.Object item.number
  reply_to (turn.Added number) = reply.Added number
  reply_to (turn.Failed cause) = reply.Failed cause
  reply_to (turn.Refused cause v) = reply.Refused cause v

  -- an add that does not wait has stored its object, or has it back and is refused
  abbrev pub IsAtOnce : CoreReply → Option (Item V) → Type 0
  IsAtOnce answer None = ⊤
  IsAtOnce answer (Some item) = IsRefusal answer

  abbrev pub reply_to_try_add : ℕ → CoreReply → Option (Item V) → Reply V
  reply_to_try_add number answer None = reply.Added number
  reply_to_try_add number answer (Some item) = reply.Refused (refusal_of answer) item.value

  abbrev pub reply_to_back : CoreReply → Reply V
  reply_to_back core.Kept = reply.Kept
  reply_to_back core.Dropped = reply.Dropped
  reply_to_back _ = reply.NoSuch

  -- a step that needs a handle is done, or there is none
  abbrev pub reply_to_handle : HandleReply → Reply V
  reply_to_handle handle.Done = reply.Done
  reply_to_handle handle.NoHandle = reply.NoHandle

  -- one poll of a get: what it comes to, the visitor and the state after it
  pub record PolledGet (runtime : Option Runtime) (now : Moment) (stage : GetStage) (d : State (Item V))
      (came_to : Option (Turn V)) (after : Option (Visitor V)) (d' : State (Item V)) : Type 0 where
    pub polled : Poll (Result (Item V) PoolError)
    pub left : GetStage
    pub polls : PollsGet runtime now stage d polled left d'
    pub turn_is : came_to ≡ Some (got polled)
    pub visitor_is : after ≡ Some (visitor.Get left)

  -- the same of an add
  pub record PolledAdd (stage : AddStage (Item V)) (d : State (Item V)) (came_to : Option (Turn V))
      (after : Option (Visitor V)) (d' : State (Item V)) : Type 0 where
    pub polled : Poll (Result (Unit {0}) (Item V × PoolError))
    pub left : AddStage (Item V)
    pub polls : PollsAdd stage d polled left d'
    pub turn_is : came_to ≡ Some (added (held_by stage) polled)
    pub visitor_is : after ≡ Some (visitor.Add left)

  -- a poll of a party that was cancelled changes nothing
  abbrev pub PollsVisitor : Option Runtime → Moment → Option (Visitor V) → State (Item V) → Option (Turn V)
      → Option (Visitor V) → State (Item V) → Type 0
  PollsVisitor runtime now None d came_to after d' = (came_to ≡ None) × (after ≡ None) × (d' ≡ d)
  PollsVisitor runtime now (Some (visitor.Get stage)) d came_to after d' =
      PolledGet runtime now stage d came_to after d'
  PollsVisitor runtime now (Some (visitor.Add stage)) d came_to after d' = PolledAdd stage d came_to after d'

  abbrev pub CancelsVisitor : Visitor V → State (Item V) → State (Item V) → Type 0
  CancelsVisitor (visitor.Get stage) d d' = CancelsGet stage d d'
  CancelsVisitor (visitor.Add stage) d d' = CancelsAdd stage d d'
