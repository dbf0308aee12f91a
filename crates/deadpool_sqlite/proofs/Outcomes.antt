-- What an answer of the database comes to.
use Rattle.std.proofs.Common.{◌≡◌, inl, inr, ℕ, List, [], false, true, Result, Ok, Err, IfErr, IfOk, is_err, refl}
use Rattle.std.proofs.Common.{subst}
use Rattle.futures.specs.declared.task.Poll.TheVariants.{Ready}
use Rattle.sqlite.specs.Held.{Held, state}
use Rattle.sqlite.specs.State.{HasCleanDisk, QueriesRow}
use Rattle.sqlite.specs.Store.{Ghosts}
use Rattle.sqlite.specs.declared.error.Error.{Error}
use Rattle.deadpool_sqlite.specs.Creating.{HasRun, FailsToPrepare, Creates}
use Rattle.deadpool_sqlite.specs.Recycling.{FailsToAnswer}
use Rattle.deadpool_sqlite.specs.declared.recycling.RecyclingMethod.{RecyclingMethod}
use Rattle.deadpool_sqlite.specs.declared.recycling.RecyclingMethod.TheVariants.{Fast, Verified}
use Rattle.deadpool_sqlite.proofs.Texts.{query_text}

module _ {S : Type 0} (store : Ghosts S) where
  -- the error of a batch is that of the creation
  pub batch_fails : (batch : List ℕ) (opened left : Held S) (ran : Result (Unit {0}) Error)
      (ended : Result (Held S) Error) → IfErr ended (λ cause. ran ≡ Err cause)
      → HasRun store batch opened left ran → IfErr ended (FailsToPrepare store batch opened)
  batch_fails batch opened left ran (Ok conn) same h = tt
  batch_fails batch opened left ran (Err cause) same h = (left, inl (subst (HasRun store batch opened left) same h))

  -- a connection that was opened is prepared, or fails to be
  pub prepared : (may_open : Result (Held S) Error → Type 0) (batch : List ℕ) (opened : Held S)
      (ended : Result (Held S) Error) → may_open (Ok opened)
      → IfOk ended (λ left. HasRun store batch opened left (Ok tt)) → IfErr ended (FailsToPrepare store batch opened)
      → Creates store may_open batch (Ready ended)
  prepared may_open batch opened (Ok left) may ran failed = (opened, (may, ran))
  prepared may_open batch opened (Err cause) may ran failed = inr (opened, (may, failed))

  -- nothing fails that is not asked
  pub query_fails : (method : RecyclingMethod) (conn before left : Held S) (ended : Result (Unit {0}) Error)
      → is_err ended ≡ true
      → ((state store conn).in_transaction ≡ false → before ≡ conn) → (method ≡ Fast → ended ≡ Ok tt)
      → IfErr ended (λ cause. HasCleanDisk (state store left)
      → QueriesRow query_text [] (state store before) (state store left) (Err cause))
      → FailsToAnswer store method conn left
  query_fails method conn before left (Ok done) failed same fast told = absurd cc
  query_fails Fast conn before left (Err cause) failed same fast told = absurd (let e = fast refl in cc)
  query_fails Verified conn before left (Err cause) failed same fast told =
      record { asked = refl; before = before; same = same; cause = cause; failed = told }
