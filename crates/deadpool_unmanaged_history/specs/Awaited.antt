-- Those that wait for the end of a pool, and what is still to be dropped, by its history.
use Rattle.std.specs.Prelude.{ℕ, Bool, not, ◌&&◌, ◌==◌, List, [], ◌∷◌}
use Rattle.deadpool_unmanaged_history.specs.declared.line.Line.{Line}
use Rattle.deadpool_unmanaged_history.specs.declared.line.Line.TheVariants.{Ending}

-- how many drains wait for a pool's end, and how many holders have let go of what is still to be dropped
pub record Awaited : Type 0 where
  pub drains : ℕ
  pub departing : ℕ

abbrev pub nobody_awaited : Awaited
nobody_awaited = record { drains = 0; departing = 0 }

-- a drain waits for the end of a pool that is drained, or is not, and the end has come
abbrev pub is_drain_due : Bool → Awaited → Bool
is_drain_due drained a = not (a.drains == 0) && (drained && (a.departing == 0))

module _ {T : Type 0} where
  abbrev pub awaited_after : Line T → Awaited → Awaited
  awaited_after (Ending drains departing) a = record { drains = drains; departing = departing }
  awaited_after _ a = a

  abbrev pub awaited_from : Awaited → List (ℕ × Line T) → Awaited
  awaited_from a [] = a
  awaited_from a ((by, line) ∷ lines) = awaited_from (awaited_after line a) lines

  -- and at the end of a history: as its last line of that kind says, and nobody before the first
  abbrev pub awaited : List (ℕ × Line T) → Awaited
  awaited log = awaited_from nobody_awaited log
