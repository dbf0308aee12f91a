-- What is done to a connection that came back.
use Rattle.std.specs.Prelude.{◌≡◌, false, [], codes, IsTrue, Err}
use Rattle.sqlite.specs.Held.{Held, state}
use Rattle.sqlite.specs.State.{HasCleanDisk, Executes, QueriesRow}
use Rattle.sqlite.specs.Store.{Ghosts}
use Rattle.sqlite.specs.declared.error.Error.{Error}
use Rattle.deadpool_sqlite.specs.declared.recycling.RecyclingMethod.{RecyclingMethod}
use Rattle.deadpool_sqlite.specs.declared.recycling.RecyclingMethod.TheVariants.{Fast, Verified}
use Rattle.deadpool_sqlite.specs.declared.recycling.Refusal.{Refusal}
use Rattle.deadpool_sqlite.specs.declared.recycling.Refusal.TheVariants.{NotRolledBack, QueryFailed, StaysOpen}

module _ {S : Type 0} (store : Ghosts S) (method : RecyclingMethod) where
  -- If nothing is asked of the database, one with no transaction open stays as it is. Else its store is open.
  pub record Accepts (conn left : Held S) : Type 0 where
    pub same : method ≡ Fast → (state store conn).in_transaction ≡ false → left ≡ conn
    pub is_open : method ≡ Verified → HasCleanDisk (state store left) → IsTrue (state store left).is_open

  -- the query has failed, on what a rollback left
  pub record FailsToAnswer (conn left : Held S) : Type 0 where
    pub asked : method ≡ Verified
    pub before : Held S
    pub same : (state store conn).in_transaction ≡ false → before ≡ conn
    pub cause : Error
    pub failed : HasCleanDisk (state store left)
        → QueriesRow (codes "SELECT 1") [] (state store before) (state store left) (Err cause)

  -- Why it is refused. On a clean disk no transaction stays open after a rollback.
  abbrev pub Refuses : Refusal → Held S → Held S → Type 0
  Refuses NotRolledBack conn left =
      IsTrue (state store conn).in_transaction
      × ((cause : Error) × (HasCleanDisk (state store left)
      → Executes (codes "ROLLBACK") [] (state store conn) (state store left) (Err cause)))
  Refuses QueryFailed conn left = FailsToAnswer conn left
  Refuses StaysOpen conn left = IsTrue (state store conn).in_transaction
      × (IsTrue (state store left).in_transaction × (¬ HasCleanDisk (state store left)))
