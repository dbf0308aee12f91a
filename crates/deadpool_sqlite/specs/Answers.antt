-- What the manager answers of a connection that came back.
use Rattle.std.specs.Prelude.{◌≡◌, List, ℕ, Result, Ok, Err, codes}
use Rattle.std.specs.Cow.{cow_str_bytes}
use Rattle.futures.specs.declared.task.Poll.{Poll}
use Rattle.futures.specs.declared.task.Poll.TheVariants.{Ready, Pending}
use Rattle.deadpool.specs.RecycleError.{RecycleError}
use Rattle.deadpool.specs.RecycleError.TheVariants.{Message, Backend}
use Rattle.sqlite.specs.Held.{Held, state}
use Rattle.sqlite.specs.State.{HasCleanDisk, KeepsCommit}
use Rattle.sqlite.specs.Store.{Ghosts}
use Rattle.sqlite.specs.declared.error.Error.{Error}
use Rattle.deadpool_sqlite.specs.Recycling.{Accepts, Refuses}
use Rattle.deadpool_sqlite.specs.declared.recycling.RecyclingMethod.{RecyclingMethod}
use Rattle.deadpool_sqlite.specs.declared.recycling.Refusal.{Refusal}
use Rattle.deadpool_sqlite.specs.declared.recycling.Refusal.TheVariants.{NotRolledBack, QueryFailed, StaysOpen}

abbrev pub refusal_text : Refusal → List ℕ
refusal_text NotRolledBack = codes "the transaction was not rolled back"
refusal_text QueryFailed = codes "the query failed"
refusal_text StaysOpen = codes "a transaction stays open"

module _ {S : Type 0} (store : Ghosts S) (method : RecyclingMethod) where
  -- A recycling ends at its first poll. One that is refused is refused with a message that says why.
  abbrev pub Ends : Held S → Poll (Result (Unit {0}) (RecycleError Error)) → Held S → Type 0
  Ends conn (Ready (Ok done)) left = Accepts store method conn left
  Ends conn (Ready (Err (Message text))) left =
      (refusal : Refusal) × ((cow_str_bytes text ≡ refusal_text refusal) × Refuses store method refusal conn left)
  Ends conn (Ready (Err (Backend cause))) left = ⊥
  Ends conn Pending left = ⊥

  -- Whether it is accepted or refused, nothing is committed.
  abbrev pub Recycles : Held S → Poll (Result (Unit {0}) (RecycleError Error)) → Held S → Type 0
  Recycles conn answer left = (HasCleanDisk (state store left) → KeepsCommit (state store conn) (state store left))
      × Ends conn answer left
