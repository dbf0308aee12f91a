-- Each state that a history reaches is orderly.
use Rattle.std.proofs.Common.{ℕ, List, [], ◌∷◌, refl}
use Rattle.deadpool_desk.specs.DeskState.{DeskState}
use Rattle.deadpool_journal.specs.Replay.{Runs}
use Rattle.deadpool_journal.specs.declared.entry.Entry.{Entry}
use Rattle.deadpool_turns.specs.Turns.{EachReachedIsOrderly, IsOrderly}
use Rattle.deadpool_turns.proofs.Steps.{keeps_order}

-- a run keeps it orderly
stays_orderly : (d d' : DeskState ℕ) (es : List Entry) → IsOrderly d → Runs d es d' → IsOrderly d'
stays_orderly d d' [] s runs = rw runs s
stays_orderly d d' (e ∷ es) s runs = stays_orderly runs.0 d' es (keeps_order d runs.0 e s runs.1.0).0 runs.1.1

pub reached : EachReachedIsOrderly
reached limit min_idle mode most es d runs =
    stays_orderly _ d es (record { nobody_waits = λ opens some. refl; once = tt }) runs
