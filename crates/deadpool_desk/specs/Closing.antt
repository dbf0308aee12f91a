-- A pool that has closed: whatever is done with it, it stays closed and only shrinks, until nothing is left in it. Then
-- it is drained, and stays so.
use Rattle.std.specs.Prelude.{◌≡◌, ℕ, ◌+◌, ◌<◌, ◌≤◌, ⊤, Bool, true, false, ◌==◌, ◌&&◌, not, Option, Result}
use Rattle.std.specs.declared.alloc.AllocError.{AllocError}
use Rattle.deadpool_parts.specs.declared.status.Status.{Status}
use Rattle.deadpool_desk.specs.Counts.{reach}
use Rattle.deadpool_desk.specs.DeskState.{DeskState, size, status_of}
use Rattle.deadpool_desk.specs.DeskSteps.{Does, DoesForOwner}
use Rattle.deadpool_desk.specs.Retained.{Retained}
use Rattle.deadpool_desk.specs.Retains.{Retains}
use Rattle.deadpool_desk.specs.declared.owner_step.OwnerReply.{OwnerReply}
use Rattle.deadpool_desk.specs.declared.owner_step.OwnerStep.{OwnerStep}
use Rattle.deadpool_desk.specs.declared.owner_step.OwnerStep.TheVariants as owner
use Rattle.deadpool_desk.specs.declared.retain.Retainer.{Ghosts as RetainerOf}
use Rattle.deadpool_desk.specs.declared.slot.Slot.{Slot}
use Rattle.deadpool_desk.specs.declared.step.Reply.{Reply}
use Rattle.deadpool_desk.specs.declared.step.Reply.TheVariants.{Exhausted, Done, Detach, Dropped, Taken}
use Rattle.deadpool_desk.specs.declared.step.Step.{Step}
use Rattle.deadpool_desk.specs.declared.step.Step.TheVariants.{Again, Failed, Refused, Back, Cancel, Take}

-- no object is counted
abbrev pub IsEmpty : Status → Type 0
IsEmpty status = status.size ≡ 0

-- an object is counted, or a get that asks
abbrev pub HasSome : Status → Type 0
HasSome status = 0 < status.size + status.waiting

abbrev pub ShowsLeft : Bool → Status → Type 0
ShowsLeft true status = IsEmpty status
ShowsLeft false status = HasSome status

module _ {O : Type 0} where
  -- what is left in a pool: its objects, and the gets that hold a place or have a creation under way. A get in the
  -- queue of a closed pool is refused when it asks, so it does not count.
  abbrev pub left_in : DeskState O → ℕ
  left_in d = size d + d.going + d.creations

  -- it has closed, and nothing is left in it
  abbrev pub is_drained : DeskState O → Bool
  is_drained d = not d.is_open && (left_in d == 0)

  -- a closed pool stays closed, and neither its reach nor what is left in it grows
  pub record OnlyShrinks (d d' : DeskState O) : Type 0 where
    pub closed : d'.is_open ≡ false
    pub reach : reach d' ≤ reach d
    pub left : left_in d' ≤ left_in d

  abbrev pub ShrinksIfClosed : DeskState O → DeskState O → Type 0
  ShrinksIfClosed d d' = d.is_open ≡ false → OnlyShrinks d d'

  abbrev pub StaysDrained : DeskState O → DeskState O → Type 0
  StaysDrained d d' = is_drained d ≡ true → is_drained d' ≡ true

  -- the pool is drained now, and was not before
  abbrev pub Drains : DeskState O → DeskState O → Type 0
  Drains d d' = (is_drained d ≡ false) × (is_drained d' ≡ true)

  -- What the status of a closed pool says of that: once it is drained there is no object, and until then there is one,
  -- or a get that asks.
  abbrev pub ShowsWhatIsLeft : DeskState O → Type 0
  ShowsWhatIsLeft d = d.is_open ≡ false → ShowsLeft (is_drained d) (status_of d)

  -- so it is with each step of a get or an object, and with each of the owner
  abbrev pub EachStep : (Step → Reply → DeskState O → DeskState O → Type 0) → Type 0
  EachStep Holds = (d d' : DeskState O) (step : Step) (object : Option O) (reply : Reply) → Does d step object reply d'
      → Holds step reply d d'

  abbrev pub EachOwnerStep : (OwnerStep → OwnerReply → DeskState O → DeskState O → Type 0) → Type 0
  EachOwnerStep Holds = (d d' : DeskState O) (step : OwnerStep) (reply : OwnerReply) → DoesForOwner d step reply d'
      → Holds step reply d d'

-- and with each retain
abbrev pub EachRetain : {T R L : Type 0} → RetainerOf R T L → (DeskState (Slot T) → DeskState (Slot T) → Type 0)
    → Type 0
EachRetain {T} {R} {L} asks Holds =
    (d d' : DeskState (Slot T)) (r r' : R) (result : Result (Retained L) AllocError) → Retains asks d r result d' r'
    → Holds d d'

-- a step by which a place is let go of, with the object or the creation that held it, if one did
abbrev pub LetsGo : Step → Reply → Type 0
LetsGo (Again allowance) Exhausted = ⊤
LetsGo Failed Done = ⊤
LetsGo Refused Done = ⊤
LetsGo Back Detach = ⊤
LetsGo Back Dropped = ⊤
LetsGo Take (Taken detach) = ⊤
LetsGo (Cancel held) Done = ⊤
LetsGo _ _ = ⊥

-- a step of the owner that lets go of the idle objects
abbrev pub LetsIdleGo : OwnerStep → Type 0
LetsIdleGo owner.Close = ⊤
LetsIdleGo owner.DropHandle = ⊤
LetsIdleGo _ = ⊥
