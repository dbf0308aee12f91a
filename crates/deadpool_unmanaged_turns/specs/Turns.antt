-- Who is granted an object or room, and when: in the order of each queue, by the time as many have come in, or left.
use Rattle.std.specs.Prelude.{◌≡◌, ◌⊎◌, ℕ, ◌+◌, ◌<◌, ◌≤◌, true, false, List, [], ◌∷◌, ◌++◌, length, Option, Some}
use Rattle.deadpool_gate.specs.Numbers.{has_number}
use Rattle.deadpool_gate.specs.Orders.{KeepsOrder}
use Rattle.deadpool_gate.specs.Queue.{Queue, members}
use Rattle.deadpool_gate.specs.Served.{IsServed}
use Rattle.deadpool_unmanaged.specs.State.{State, bounded, free_objects, free_room, opened, size}
use Rattle.deadpool_unmanaged_journal.specs.Replay.{IsStep, Runs}
use Rattle.deadpool_unmanaged_journal.specs.declared.entry.Entry.{Entry}
use Rattle.deadpool_turns.specs.Ahead.{ahead}
use Rattle.deadpool_unmanaged_turns.specs.Steps.{add_gives_up_by, add_named_by, come_by, come_in, gone_by, gone_in}
use Rattle.deadpool_unmanaged_turns.specs.Steps.{get_gives_up_by, get_named_by}

-- the one with this ticket waits in the queue, was granted what it asks for, or is there either way
abbrev pub Waits : ℕ → Queue → Type 0
Waits t q = has_number t q.waiting ≡ true

abbrev pub IsGranted : ℕ → Queue → Type 0
IsGranted t q = has_number t q.granted ≡ true

abbrev pub IsQueued : ℕ → Queue → Type 0
IsQueued t q = has_number t (members q) ≡ true

-- how many have to come in, or to leave, until it is granted what it asks for: one for each that waits ahead, and one
abbrev pub distance : ℕ → Queue → ℕ
distance t q = ahead t q.waiting + 1

module _ {O : Type 0} where
  -- In an open pool no get waits for an object that is free, and no add for room. No ticket stands in a queue twice.
  -- What was granted is there: idle objects while the pool is open and has a handle, and room.
  pub record IsOrderly (d : State O) : Type 0 where
    pub gets : IsServed d.is_open (free_objects d) d.gets
    pub adds : IsServed d.is_open (free_room d) d.adds
    pub objects : d.is_open ≡ true → 0 < d.handles → length d.gets.granted ≤ length d.idle
    pub room : size d + length d.adds.granted ≤ d.limit

  -- the pool is open, and has a handle
  pub record IsInUse (d : State O) : Type 0 where
    pub opens : d.is_open ≡ true
    pub handles : 0 < d.handles

  -- A step that leaves the pool open with a handle, and by which the get with this ticket does not give up.
  pub record IsCalmForGet (t : ℕ) (d : State O) (e : Entry O) (d' : State O) : Type 0 where
    pub step : IsStep d e d'
    pub in_use : IsInUse d'
    pub stays : get_gives_up_by t e ≡ false

  -- One that leaves it open, and by which the add with this ticket does not give up.
  pub record IsCalmForAdd (t : ℕ) (d : State O) (e : Entry O) (d' : State O) : Type 0 where
    pub step : IsStep d e d'
    pub opens : d'.is_open ≡ true
    pub stays : add_gives_up_by t e ≡ false

  -- runs of such steps
  abbrev pub RunsCalmlyForGet : ℕ → State O → List (Entry O) → State O → Type 0
  RunsCalmlyForGet t d [] d' = d' ≡ d
  RunsCalmlyForGet t d (e ∷ es) d' = (next : State O) × (IsCalmForGet t d e next × RunsCalmlyForGet t next es d')

  abbrev pub RunsCalmlyForAdd : ℕ → State O → List (Entry O) → State O → Type 0
  RunsCalmlyForAdd t d [] d' = d' ≡ d
  RunsCalmlyForAdd t d (e ∷ es) d' = (next : State O) × (IsCalmForAdd t d e next × RunsCalmlyForAdd t next es d')

  -- After some of these steps a state has this.
  abbrev pub IsWithin : (State O → Type 0) → State O → List (Entry O) → Type 0
  IsWithin Has d es =
      (done : List (Entry O)) × ((left : List (Entry O)) × ((es ≡ done ++ left)
      × ((now : State O) × (Runs d done now × Has now))))

-- The one with this ticket is nearer by so many, or was granted what it asks for.
abbrev pub Nears : ℕ → ℕ → Queue → Queue → Type 0
Nears t count q q' = (Waits t q' × (distance t q' + count ≤ distance t q)) ⊎ IsGranted t q'

-- some leave each queue, and at most one joins it, at its end
pub record KeepsQueues {O : Type 0} (d d' : State O) : Type 0 where
  pub gets : KeepsOrder (members d.gets) (members d'.gets)
  pub adds : KeepsOrder (members d.adds) (members d'.adds)

-- Each step keeps the pool orderly, and the order of its queues.
abbrev pub EachStepKeepsOrder : Type 0 → Type 0
EachStepKeepsOrder O = (d d' : State O) (e : Entry O) → IsOrderly d → IsStep d e d' → IsOrderly d' × KeepsQueues d d'

-- who has this of its queue after a step, or is named by the step
pub record StaysSo {O : Type 0} (Has : ℕ → Queue → Type 0) (t : ℕ) (d : State O) (e : Entry O) (d' : State O) :
    Type 0 where
  pub get : Has t d.gets → Has t d'.gets ⊎ (get_named_by e ≡ Some t)
  pub add : Has t d.adds → Has t d'.adds ⊎ (add_named_by e ≡ Some t)

-- Who is in a queue stays there, and who was granted what it asks for keeps it, whatever step does not name it.
abbrev pub EachStaysQueued : Type 0 → Type 0
EachStaysQueued O = (t : ℕ) (d d' : State O) (e : Entry O) → IsOrderly d → IsStep d e d' → StaysSo IsQueued t d e d'

abbrev pub EachKeepsItsGrant : Type 0 → Type 0
EachKeepsItsGrant O = (t : ℕ) (d d' : State O) (e : Entry O) → IsOrderly d → IsStep d e d' → StaysSo IsGranted t d e d'

-- Each calm step brings one that waits nearer: a get by as many as come in by it, an add by as many as leave.
abbrev pub EachGetNears : Type 0 → Type 0
EachGetNears O = (t : ℕ) (d d' : State O) (e : Entry O) → IsOrderly d → IsInUse d → Waits t d.gets
    → IsCalmForGet t d e d' → Nears t (come_by e) d.gets d'.gets

abbrev pub EachAddNears : Type 0 → Type 0
EachAddNears O = (t : ℕ) (d d' : State O) (e : Entry O) → IsOrderly d → d.is_open ≡ true → Waits t d.adds
    → IsCalmForAdd t d e d' → Nears t (gone_by e) d.adds d'.adds

-- In a run of calm steps by which as many come in, or leave, as it is away, one that waits is granted what it asks for.
abbrev pub EachGetIsGrantedInTurn : Type 0 → Type 0
EachGetIsGrantedInTurn O = (t : ℕ) (d d' : State O) (es : List (Entry O)) → IsOrderly d → IsInUse d → Waits t d.gets
    → RunsCalmlyForGet t d es d' → distance t d.gets ≤ come_in es → IsWithin (λ now. IsGranted t now.gets) d es

abbrev pub EachAddIsGrantedInTurn : Type 0 → Type 0
EachAddIsGrantedInTurn O = (t : ℕ) (d d' : State O) (es : List (Entry O)) → IsOrderly d → d.is_open ≡ true
    → Waits t d.adds → RunsCalmlyForAdd t d es d' → distance t d.adds ≤ gone_in es
    → IsWithin (λ now. IsGranted t now.adds) d es

-- Each state to which a history leads from its opening is orderly.
abbrev pub EachReachedIsOrderly : Type 0 → Type 0
EachReachedIsOrderly O = (limit : ℕ) (most : Option ℕ) (es : List (Entry O)) (d : State O)
    → Runs (bounded most (opened limit [])) es d → IsOrderly d
