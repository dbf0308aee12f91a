-- What was added so far, and the rest as it was told.
use Rattle.std.proofs.Common.{◌≡◌, ℕ, List, length, vec_items}
use Rattle.std.specs.List.{AllZip}
use Rattle.std.specs.Vec.Iter.{into_iter_items, into_iter_len}
use Rattle.every_call_threads.proofs.Sums.{Adds, IsAsTold}
use Rattle.every_call_threads.proofs.sheets.total_of.Given as goal

abbrev pub invariant-loop-end : goal.invariant-loop-end
invariant-loop-end l = record {
  left : into_iter_len l.end-iterator ≡ length (into_iter_items l.end-iterator);
  adds :
      (told : List ℕ) → AllZip IsAsTold told (vec_items l.fn.ended)
      → Adds told l.total (into_iter_items l.end-iterator);
}
