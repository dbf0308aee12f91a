-- What a pool counts, as its state says it.
use Rattle.std.specs.Prelude.{ℕ, ◌+◌, ◌-◌, length}
use Rattle.deadpool_desk.specs.DeskState.{DeskState, places, size}
use Rattle.deadpool_desk.specs.declared.counts.Counts.{Counts}

module _ {O : Type 0} where
  -- how large the pool becomes if each place that was given leads to an object
  abbrev pub reach : DeskState O → ℕ
  reach d = size d + d.creations + (length d.granted + d.going - length d.idle)

  abbrev pub counts_of : DeskState O → Counts
  counts_of d = record {
    limit = d.limit;
    size = size d;
    places = places d;
    reach = reach d;
    granted = length d.granted;
    waiting = length d.waiting;
  }
