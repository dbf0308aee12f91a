-- A pool that has closed: whatever is done with it, it stays closed and only shrinks, until no object is left. Then it
-- is drained, and stays so. The owner's steps are not among these; the crate of the journal has them.
use Rattle.std.specs.Prelude.{◌≡◌, ◌<◌, ◌≤◌, ⊤, Bool, true, false, ◌==◌, ◌&&◌, not, Option}
use Rattle.deadpool_parts.specs.declared.status.Status.{Status}
use Rattle.deadpool_unmanaged.specs.State.{State, size, status_of}
use Rattle.deadpool_unmanaged.specs.StateSteps.{Does}
use Rattle.deadpool_unmanaged.specs.declared.step.Reply.{Reply}
use Rattle.deadpool_unmanaged.specs.declared.step.Reply.TheVariants.{Dropped, Taken}
use Rattle.deadpool_unmanaged.specs.declared.step.Step.{Step}
use Rattle.deadpool_unmanaged.specs.declared.step.Step.TheVariants.{Back, Take}

-- no object is counted
abbrev pub IsEmpty : Status → Type 0
IsEmpty status = status.size ≡ 0

-- an object is counted
abbrev pub HasSome : Status → Type 0
HasSome status = 0 < status.size

abbrev pub ShowsLeft : Bool → Status → Type 0
ShowsLeft true status = IsEmpty status
ShowsLeft false status = HasSome status

module _ {T : Type 0} where
  -- It has closed, and no object is left in it, idle or outside. A get or an add in the queue of a closed pool is
  -- refused when it asks, so neither counts.
  abbrev pub is_drained : State T → Bool
  is_drained d = not d.is_open && (size d == 0)

  -- a closed pool stays closed, and what is left in it does not grow
  pub record OnlyShrinks (d d' : State T) : Type 0 where
    pub closed : d'.is_open ≡ false
    pub left : size d' ≤ size d

  abbrev pub ShrinksIfClosed : State T → State T → Type 0
  ShrinksIfClosed d d' = d.is_open ≡ false → OnlyShrinks d d'

  abbrev pub StaysDrained : State T → State T → Type 0
  StaysDrained d d' = is_drained d ≡ true → is_drained d' ≡ true

  -- the pool is drained now, and was not before
  abbrev pub Drains : State T → State T → Type 0
  Drains d d' = (is_drained d ≡ false) × (is_drained d' ≡ true)

  -- what the status of a closed pool says of that: no object once it is drained, and until then one or more
  abbrev pub ShowsWhatIsLeft : State T → Type 0
  ShowsWhatIsLeft d = d.is_open ≡ false → ShowsLeft (is_drained d) (status_of d)

  -- so it is with each step of a get, an add or an object
  abbrev pub EachStep : (Step → Reply → State T → State T → Type 0) → Type 0
  EachStep Holds =
      (d d' : State T) (step : Step) (object : Option T) (reply : Reply) → Does d step object reply d'
      → Holds step reply d d'

-- a step by which an object leaves: it comes back to a pool that has no use for it, or is taken
abbrev pub LetsGo : Step → Reply → Type 0
LetsGo Back Dropped = ⊤
LetsGo Take Taken = ⊤
LetsGo _ _ = ⊥
