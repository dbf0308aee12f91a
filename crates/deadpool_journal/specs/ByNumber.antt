-- A desk, with the objects by number.
use Rattle.std.specs.Prelude.{ℕ, map, Option, option_map}
use Rattle.deadpool_desk.specs.DeskState.{DeskState}
use Rattle.deadpool_desk.specs.declared.slot.Slot.{Slot}

module _ {T : Type 0} where
  abbrev pub number_of : Slot T → ℕ
  number_of slot = slot.number

  -- the number of the object in a hand
  abbrev pub number_in : Option (Slot T) → Option ℕ
  number_in hand = option_map number_of hand

  abbrev pub numbered : DeskState (Slot T) → DeskState ℕ
  numbered d = record {
    limit = d.limit;
    is_open = d.is_open;
    mode = d.mode;
    min_idle = d.min_idle;
    max_waiting = d.max_waiting;
    next = d.next;
    handles = d.handles;
    reserve = d.reserve;
    idle = map number_of d.idle;
    granted = d.granted;
    waiting = d.waiting;
    going = d.going;
    creations = d.creations;
    outside = d.outside;
  }
