-- How a new connection is made.
use Rattle.std.specs.Prelude.{◌≡◌, ◌⊎◌, List, ℕ, IsTrue, Result, Ok, Err}
use Rattle.futures.specs.declared.task.Poll.{Poll}
use Rattle.futures.specs.declared.task.Poll.TheVariants.{Ready, Pending}
use Rattle.sqlite.specs.Batch.{ExecutesAll}
use Rattle.sqlite.specs.Held.{Held, state}
use Rattle.sqlite.specs.State.{HasCleanDisk}
use Rattle.sqlite.specs.Store.{Ghosts}
use Rattle.sqlite.specs.declared.error.ErrorCode.TheVariants.{TransactionState}
use Rattle.sqlite.specs.declared.error.Error.{Error}
use Rattle.sqlite.specs.declared.error.Error.TheVariants.{SqliteFailure}

module _ {S : Type 0} (store : Ghosts S) where
  -- the batch has run on a connection that was opened, has ended so, and has left it so
  abbrev pub HasRun : List ℕ → Held S → Held S → Result (Unit {0}) Error → Type 0
  HasRun batch opened left ended = HasCleanDisk (state store left) → ExecutesAll store batch opened left ended

  -- the batch has a fault, or leaves a transaction open
  abbrev pub FailsToPrepare : List ℕ → Held S → Error → Type 0
  FailsToPrepare batch opened cause =
      (left : Held S) × (HasRun batch opened left (Err cause)
      ⊎ (HasRun batch opened left (Ok tt)
      × (IsTrue (state store left).in_transaction × (cause ≡ SqliteFailure TransactionState))))

  -- A creation ends at its first poll: the whole batch has run with no fault on a connection that was opened, or the
  -- error is that of the open or of the batch.
  abbrev pub Creates : (Result (Held S) Error → Type 0) → List ℕ → Poll (Result (Held S) Error) → Type 0
  Creates may_open batch (Ready (Ok left)) =
      (opened : Held S) × (may_open (Ok opened) × HasRun batch opened left (Ok tt))
  Creates may_open batch (Ready (Err cause)) =
      may_open (Err cause) ⊎ ((opened : Held S) × (may_open (Ok opened) × FailsToPrepare batch opened cause))
  Creates may_open batch Pending = ⊥
