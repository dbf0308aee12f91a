-- A get of the pool, as contracts see it, what it gives to who polls it, and what its poll is at its seat.
use Rattle.std.specs.Option.{option_or}
use Rattle.std.specs.Prelude.{◌≡◌, ⊤, ℕ, Option, Some, None, Result, Ok, Err, IfOk}
use Rattle.futures.specs.declared.task.Poll.{Poll}
use Rattle.futures.specs.declared.task.Poll.TheVariants as poll
use Rattle.deadpool_chronicle.specs.History.{Knowing}
use Rattle.deadpool_parts.specs.declared.errors.PoolError.{PoolError}
use Rattle.deadpool_parts.specs.declared.moment.Moment.{Moment}
use Rattle.deadpool_desk.specs.declared.desk.Desk.{Ghosts as DeskOf}
use Rattle.deadpool_desk.specs.declared.slot.Slot.{Slot}
use Rattle.deadpool_history.specs.declared.line.Line.{Line}
use Rattle.deadpool_journal.specs.ByNumber.{number_in}
use Rattle.deadpool_desk.specs.declared.step.Held.{Held}
use Rattle.deadpool_lock.specs.declared.request.Stage.{Stage as Future}
use Rattle.deadpool_lock.specs.declared.request.Stage.TheVariants.{Asking}
use Rattle.deadpool_managed.specs.Holds.{WaitsUnder, held_at}
use Rattle.deadpool_managed.specs.Outside.{May}
use Rattle.deadpool_managed.specs.Phases.{Working, stage_of}
use Rattle.deadpool_managed.specs.Prepare.{object_of}
use Rattle.deadpool_managed.specs.Stages.{Stage, Recycling, Checking}
use Rattle.deadpool_managed.specs.Steps.{CancelsAt, Lent, PollsAt}
use Rattle.deadpool_managed.specs.declared.get.Turn.{Turn}
use Rattle.deadpool_managed.specs.declared.get.Turn.TheVariants as turn
use Rattle.deadpool_managed.specs.declared.kept.Kept.{Kept}
use Rattle.deadpool_managed.specs.declared.work.Phase.TheVariants.{Unpolled}
use Rattle.deadpool_shared.specs.Calling.{CallsFromSeat}
use Rattle.deadpool_shared.specs.Counts.{Holder, IsHeldBy, IsKnown, caller_of, held_by, waits_by}
use Rattle.deadpool_shared.specs.Waits.{WaitsOn, is_queued, nanos_waited}
use Rattle.deadpool_shared.specs.declared.waiting.Waiting.{Waiting}
use Rattle.deadpool_shared.specs.declared.waiting.Waiting.TheVariants.{Never}

-- its timeouts, how far it is, how long it waits, and what it holds, once it was handed out shares
pub record Get (D V C R S : Type 0) : Type 0 where
  pub timeouts : D
  pub progress : Working V C R S
  pub waiting : Waiting
  pub shares : Option Holder

module _ {D V C R S : Type 0} where
  -- it was not polled yet
  abbrev pub getting : D → Get D V C R S
  getting timeouts = record {
    timeouts = timeouts;
    progress = record { phase = Unpolled; slot = None };
    waiting = Never;
    shares = None;
  }

  abbrev pub stage_in : Get D V C R S → Stage V C R S
  stage_in get = stage_of get.progress.phase get.progress.slot

-- what a get holds at a stage, while its future asks
abbrev pub held_while : {K V C R S : Type 0} → Future K → Stage V C R S → Option Held
held_while (Asking kept) stage = held_at stage
held_while _ stage = None

-- the object that a get prepares is the one that it has
abbrev pub PreparesOwn : {V C R S : Type 0} → Stage V C R S → Option ℕ → Type 0
PreparesOwn (Recycling preparation allowance) has = has ≡ Some (object_of preparation).number
PreparesOwn (Checking slot at) has = has ≡ Some slot.number
PreparesOwn _ has = ⊤

-- while its future asks
abbrev pub PreparesWhile : {K V C R S : Type 0} → Future K → Stage V C R S → Option ℕ → Type 0
PreparesWhile (Asking kept) stage has = PreparesOwn stage has
PreparesWhile _ stage has = ⊤

-- while its future asks, a get in the queue waits under the ticket that it has
abbrev pub WaitsWhile : {K V C R S : Type 0} → Future K → Stage V C R S → Option ℕ → Type 0
WaitsWhile (Asking kept) stage waits = WaitsUnder (λ ticket. waits ≡ Some ticket) stage
WaitsWhile _ stage waits = ⊤

module _ {O W E : Type 0} where
  -- What is given comes from an object that is ready. The relation says what comes from which object, the test which
  -- objects are ready.
  abbrev pub GivesReady : (O → W → Type 0) → (O → Type 0) → Result W E → Type 0
  GivesReady comes_from is_ready r = IfOk r (λ w. (o : O) × (is_ready o × comes_from o w))

-- the seat of a holder, as a desk: each step is one call of its caller's
abbrev pub seat_desk : {T : Type 0} → DeskOf (Option Holder) T
seat_desk = record {
  holds = λ seat held. IsHeldBy seat held;
  takes_back = λ seat number. held_by seat ≡ Some number;
  waits = λ seat ticket. waits_by seat ≡ Some ticket;
  makes = λ s step was reply hand s'.
      IsKnown reply × CallsFromSeat step (number_in (option_or was hand)) reply s s';
}

module _ {O W V E : Type 0} (comes_from : O → W → Type 0) (slot_of : O → Slot (Kept V)) (holder_of : O → Holder)
    (waited_of : O → ℕ) where
  -- How a poll ends: an object that is given takes what the holder has with it, which otherwise stays with the get, and
  -- knows how long the get waited.
  abbrev pub Ends : Turn V E → Option Holder → Waiting → Option Holder → Poll (Result W (PoolError E)) → Type 0
  Ends (turn.Done (Ok slot)) holder waiting left (poll.Ready (Ok w)) =
      (o : O) × (comes_from o w × (slot_of o ≡ slot) × (holder ≡ Some (holder_of o))
      × (waited_of o ≡ nanos_waited waiting))
  Ends (turn.Done (Err cause)) holder waiting left (poll.Ready (Err given)) = (given ≡ cause) × (left ≡ holder)
  Ends turn.Pending holder waiting left poll.Pending = left ≡ holder
  Ends turn.More holder waiting left poll.Pending = left ≡ holder
  Ends _ _ _ _ _ = ⊥

  -- One poll of a get between threads: its calls are those of one run of a get's definition at a moment, one after the
  -- other. It joins and leaves the queue at that moment too.
  abbrev pub PollsFrom : {C R S F A : Type 0} → (Moment → Lent V E C R S F A) → Option Holder → Stage V C R S → Waiting
      → Option Holder → Stage V C R S → Waiting → Poll (Result W (PoolError E)) → Type 0
  PollsFrom lent holder stage waiting left stage' waiting' polled =
      (now : Moment) × ((came : Turn V E) × ((after : Option Holder)
      × (PollsAt seat_desk (lent now) holder stage after stage' came
      × WaitsOn now (is_queued stage') waiting waiting' × Ends came after waiting' left polled)))

module _ {V E C R S F A : Type 0} where
  -- A get that asks is given up between threads: its call is that of one cancel of a get's definition, by which it
  -- leaves the queue or gives back what it holds. What is left of it is its caller, if it was handed out shares.
  abbrev pub CancelsTo : May V E C R S F A → Option Holder → Stage V C R S → Option (Knowing Line) → Type 0
  CancelsTo may holder stage left =
      (after : Option Holder) × (CancelsAt seat_desk may holder stage after × (left ≡ caller_of after))
