-- An object of a managed pool: its number, and what is kept of it.
use Rattle.deadpool_desk.specs.declared.slot.Slot as desk
use Rattle.deadpool_managed.specs.declared.kept.Kept.{Kept}

-- the slot of an object with such a value
abbrev pub Slot : Type 0 → Type 0
Slot V = desk.Slot (Kept V)
