-- What a pool counts, as its state says it.
use Rattle.std.specs.Prelude.{length}
use Rattle.deadpool_unmanaged.specs.State.{State, size}
use Rattle.deadpool_unmanaged.specs.declared.counts.Counts.{Counts}

abbrev pub counts_of : {T : Type 0} → State T → Counts
counts_of d = record {
  limit = d.limit;
  size = size d;
  gets_granted = length d.gets.granted;
  gets_waiting = length d.gets.waiting;
  adds_granted = length d.adds.granted;
  adds_waiting = length d.adds.waiting;
}
