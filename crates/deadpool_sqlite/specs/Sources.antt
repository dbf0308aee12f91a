-- What sources answer.
use Rattle.std.specs.Prelude.{◌≡◌, List, ℕ, Result, Ok, Err, IfOk, IfErr, IsTrue, codes}
use Rattle.sqlite.specs.Held.{Held, IsNew, state}
use Rattle.sqlite.specs.Opening.{is_open_error}
use Rattle.sqlite.specs.State.{State, HasCleanDisk, IsLive, Opens}
use Rattle.sqlite.specs.Steps.{IsEmpty}
use Rattle.sqlite.specs.Store.{Ghosts}
use Rattle.sqlite.specs.declared.error.ErrorCode.TheVariants.{CannotOpen, OutOfMemory}
use Rattle.sqlite.specs.declared.error.Error.{Error}
use Rattle.sqlite.specs.declared.error.Error.TheVariants.{SqliteFailure}

-- an empty database, or no memory for one
abbrev pub OpensEmpty : {S : Type 0} → Ghosts S → Result (Held S) Error → Type 0
OpensEmpty store (Ok conn) = IsNew conn × IsEmpty (state store conn)
OpensEmpty store (Err cause) = cause ≡ SqliteFailure OutOfMemory

-- A new connection that shows what was committed, or an error of an open. A file is not in memory.
abbrev pub OpensFile : {S : Type 0} → (Held S → State) → List ℕ → Result (Held S) Error → Type 0
OpensFile shown path answer =
    IfOk answer IsNew
    × IfOk answer (λ conn. HasCleanDisk (shown conn) → Opens (shown conn) × IsLive (shown conn))
    × IfErr answer (λ cause. IsTrue (is_open_error cause))
    × (path ≡ codes ":memory:" → answer ≡ Err (SqliteFailure CannotOpen))
