-- Who is granted a place, and when: in the order of the queue, by the time as many others have let go of one.
use Rattle.std.specs.Prelude.{◌≡◌, ◌⊎◌, ℕ, ◌+◌, ◌-◌, ◌≤◌, true, false, List, [], ◌∷◌, ◌++◌, Option, Some}
use Rattle.deadpool_gate.specs.Numbers.{has_number}
use Rattle.deadpool_gate.specs.Orders.{KeepsOrder}
use Rattle.deadpool_gate.specs.Queue.{members}
use Rattle.deadpool_gate.specs.Served.{IsServed}
use Rattle.deadpool_parts.specs.declared.config.QueueMode.{QueueMode}
use Rattle.deadpool_desk.specs.DeskState.{DeskState, bounded, new_core, places}
use Rattle.deadpool_desk.specs.Settled.{free_places, queue}
use Rattle.deadpool_journal.specs.Replay.{IsStep, Runs}
use Rattle.deadpool_journal.specs.declared.entry.Entry.{Entry}
use Rattle.deadpool_turns.specs.Ahead.{ahead}
use Rattle.deadpool_turns.specs.Steps.{gives_up_by, let_go_by, let_go_in, named_by}

module _ {O : Type 0} where
  -- the get with this ticket waits, was granted a place, or is in the queue either way
  abbrev pub Waits : ℕ → DeskState O → Type 0
  Waits t d = has_number t d.waiting ≡ true

  abbrev pub IsGranted : ℕ → DeskState O → Type 0
  IsGranted t d = has_number t d.granted ≡ true

  abbrev pub IsQueued : ℕ → DeskState O → Type 0
  IsQueued t d = has_number t (members (queue d)) ≡ true

  -- How many places have to be let go of until it is granted one: as many as there are above the limit, one for each
  -- that waits ahead of it, and one for itself.
  abbrev pub distance : ℕ → DeskState O → ℕ
  distance t d = (places d - d.limit) + ahead t d.waiting + 1

  -- no place is free in an open pool in which somebody waits, and no ticket stands in the queue twice
  abbrev pub IsOrderly : DeskState O → Type 0
  IsOrderly d = IsServed d.is_open (free_places d) (queue d)

-- A step that leaves the pool open with no smaller limit, and by which the get with this ticket does not give up.
pub record IsCalm (t : ℕ) (d : DeskState ℕ) (e : Entry) (d' : DeskState ℕ) : Type 0 where
  pub step : IsStep d e d'
  pub opens : d'.is_open ≡ true
  pub limit : d.limit ≤ d'.limit
  pub stays : gives_up_by t e ≡ false

-- a run of such steps
abbrev pub RunsCalmly : ℕ → DeskState ℕ → List Entry → DeskState ℕ → Type 0
RunsCalmly t d [] d' = d' ≡ d
RunsCalmly t d (e ∷ es) d' = (next : DeskState ℕ) × (IsCalm t d e next × RunsCalmly t next es d')

-- The get is nearer by so many, or was granted a place.
abbrev pub Nears : ℕ → ℕ → DeskState ℕ → DeskState ℕ → Type 0
Nears t count d d' = (Waits t d' × (distance t d' + count ≤ distance t d)) ⊎ IsGranted t d'

-- After some of these steps it was granted a place.
abbrev pub IsGrantedWithin : ℕ → DeskState ℕ → List Entry → Type 0
IsGrantedWithin t d es =
    (done : List Entry) × ((left : List Entry) × ((es ≡ done ++ left)
    × ((now : DeskState ℕ) × (Runs d done now × IsGranted t now))))

-- Each step keeps the pool orderly. It keeps the queue's order: some leave, and at most one joins, at the end.
abbrev pub EachStepKeepsOrder : Type 0
EachStepKeepsOrder = (d d' : DeskState ℕ) (e : Entry) → IsOrderly d → IsStep d e d'
    → IsOrderly d' × KeepsOrder (members (queue d)) (members (queue d'))

-- Who is in the queue stays there, and who was granted a place keeps it, whatever step is made that does not name it.
abbrev pub EachStaysQueued : Type 0
EachStaysQueued = (t : ℕ) (d d' : DeskState ℕ) (e : Entry) → IsOrderly d → IsStep d e d' → IsQueued t d
    → IsQueued t d' ⊎ (named_by e ≡ Some t)

abbrev pub EachKeepsItsPlace : Type 0
EachKeepsItsPlace = (t : ℕ) (d d' : DeskState ℕ) (e : Entry) → IsOrderly d → IsStep d e d' → IsGranted t d
    → IsGranted t d' ⊎ (named_by e ≡ Some t)

-- Each calm step brings one that waits nearer by as many places as are let go of by it, and never puts it back.
abbrev pub EachStepNears : Type 0
EachStepNears = (t : ℕ) (d d' : DeskState ℕ) (e : Entry) → IsOrderly d → d.is_open ≡ true → Waits t d
    → IsCalm t d e d' → Nears t (let_go_by e) d d'

-- In a run of calm steps by which as many places are let go of as it is away, one that waits is granted a place.
abbrev pub EachIsGrantedInTurn : Type 0
EachIsGrantedInTurn = (t : ℕ) (d d' : DeskState ℕ) (es : List Entry) → IsOrderly d → d.is_open ≡ true → Waits t d
    → RunsCalmly t d es d' → distance t d ≤ let_go_in es → IsGrantedWithin t d es

-- Each state to which a history leads from its opening is orderly.
abbrev pub EachReachedIsOrderly : Type 0
EachReachedIsOrderly = (limit min_idle : ℕ) (mode : QueueMode) (most : Option ℕ) (es : List Entry) (d : DeskState ℕ)
    → Runs (bounded most (new_core limit mode 0 min_idle)) es d → IsOrderly d
