-- A retain: which of the idle objects stay, what is given of the others, and what the calls leave of the retainer.
use Rattle.std.specs.Prelude.{◌≡◌, ◌≢◌, ◌⊎◌, ℕ, ◌+◌, ◌-◌, ◌<◌, ◌≤◌, true, false, List, [], ◌∷◌, length, Result, Ok, Err}
use Rattle.std.specs.declared.alloc.AllocError.{AllocError}
use Rattle.deadpool_desk.specs.DeskState.{DeskState, least_idle}
use Rattle.deadpool_desk.specs.Retained.{Retained}
use Rattle.deadpool_desk.specs.declared.retain.Removal.{Removal}
use Rattle.deadpool_desk.specs.declared.retain.Retainer.{Ghosts as RetainerOf}
use Rattle.deadpool_desk.specs.declared.slot.Slot.{Slot}

module _ {T R L : Type 0} (asks : RetainerOf R T L) where
  -- the retainer is asked about an object and keeps it
  abbrev pub KeepsSlot : Slot T → R → R → Type 0
  KeepsSlot slot r r' = asks.may_keep r slot.number slot.value true r'

  -- it is asked about an object, does not keep it, and takes its value, of which this is left
  abbrev pub GivesUpSlot : Slot T → R → L → R → Type 0
  GivesUpSlot slot r left r' = (asked : R) × asks.may_keep r slot.number slot.value false asked
      × asks.may_detach asked slot.value left r'

  -- it is asked about an object, does not keep it, and is not given its value
  abbrev pub SparesSlot : Slot T → R → R → Type 0
  SparesSlot slot r r' = asks.may_keep r slot.number slot.value false r'

  -- While so many are idle, and this least number is to be, an object stays that is kept, or where no more are idle
  -- than that.
  abbrev pub Stays : ℕ → ℕ → Slot T → R → R → Type 0
  Stays least idle slot r r' = KeepsSlot slot r r' ⊎ ((idle ≤ least) × SparesSlot slot r r')

  -- and it goes where more are idle, and it is not kept
  abbrev pub Goes : ℕ → ℕ → Slot T → R → L → R → Type 0
  Goes least idle slot r left r' = (least < idle) × GivesUpSlot slot r left r'

  -- Of a list of objects, front to back, each is asked about once: those that stay, in order, and what is left of the
  -- others, in order. One that goes leaves one fewer idle for those after it.
  abbrev pub Reviews : ℕ → ℕ → List (Slot T) → R → List (Slot T) → List L → R → Type 0
  Reviews least idle [] r kept removed r' = (kept ≡ []) × (removed ≡ []) × (r' ≡ r)
  Reviews least idle (slot ∷ slots) r kept removed r' =
      ((next : R) × (others : List (Slot T)) × Stays least idle slot r next × (kept ≡ slot ∷ others)
      × Reviews least idle slots next others removed r')
      ⊎ ((next : R) × (left : L) × (others : List L) × Goes least idle slot r left next × (removed ≡ left ∷ others)
      × Reviews least (idle - 1) slots next kept others r')

  -- Those that stay are idle after it. Without memory for the list of values nothing is asked, and with nothing idle it
  -- needs none.
  abbrev pub Retains : DeskState (Slot T) → R → Result (Retained L) AllocError → DeskState (Slot T) → R → Type 0
  Retains d r (Ok given) d' r' =
      (kept : List (Slot T)) × Reviews (least_idle d.limit d) (length d.idle) d.idle r kept given.removed r'
      × (given.retained ≡ length kept)
      × (d' ≡ record d { idle = kept })
  Retains d r (Err e) d' r' = (d.idle ≢ []) × (d' ≡ d) × (r' ≡ r)

  -- The same, where so many were asked about before. Those that are given up are noted.
  abbrev pub ReviewsFrom : ℕ → ℕ → ℕ → List (Slot T) → R → List (Slot T) → List L → List Removal → R → Type 0
  ReviewsFrom least idle at [] r kept removed noted r' = (kept ≡ []) × (removed ≡ []) × (noted ≡ []) × (r' ≡ r)
  ReviewsFrom least idle at (slot ∷ slots) r kept removed noted r' =
      ((next : R) × (others : List (Slot T)) × Stays least idle slot r next × (kept ≡ slot ∷ others)
      × ReviewsFrom least idle (at + 1) slots next others removed noted r')
      ⊎ ((next : R) × (left : L) × (others : List L) × (notes : List Removal) × Goes least idle slot r left next
      × (removed ≡ left ∷ others)
      × (noted ≡ record { position = at; number = slot.number } ∷ notes)
      × ReviewsFrom least (idle - 1) (at + 1) slots next kept others notes r')

  abbrev pub RetainsNoting : DeskState (Slot T) → R → Result (Retained L × List Removal) AllocError → DeskState (Slot T)
      → R → Type 0
  RetainsNoting d r (Ok given) d' r' =
      (kept : List (Slot T)) × ReviewsFrom (least_idle d.limit d)
      (length d.idle) 0 d.idle r kept given.0.removed given.1 r' × (given.0.retained ≡ length kept)
      × (d' ≡ record d { idle = kept })
  RetainsNoting d r (Err e) d' r' = (d.idle ≢ []) × (d' ≡ d) × (r' ≡ r)
