-- What a rollback and a query do to what was committed.
use Rattle.std.proofs.Common.{◌≡◌, inl, inr, ℕ, List, [], codes, false, None, Some, Ok, Err, IsTrue, refl, subst, ◌∙◌}
use Rattle.std.proofs.lemmas.Bool.{cases_Bool}
use Rattle.sqlite.specs.Schema.{Schema}
use Rattle.sqlite.specs.Order.{Row}
use Rattle.sqlite.specs.Command.TheVariants.{Rollback}
use Rattle.sqlite_tied.specs.Compute.{everything}
use Rattle.sqlite.specs.declared.error.Error.{Error}
use Rattle.sqlite.specs.Listing.{understood}
use Rattle.sqlite.specs.Clock.{timed}
use Rattle.sqlite.specs.State.{State, Executes, ExecutesIn, KeepsCommit, Shown, QueriesRow, ShowsRows, IsUnchanged}
use Rattle.sqlite.specs.State.{IsRolledBack, IsNotRun, RunsCommand, FailsToQuery, FailsToShow, shows_rows}
use Rattle.sqlite.proofs.Callers.{IsPlain, command_of, runs_as}

pub same_keeps : (s : State) → KeepsCommit s s
same_keeps s = record { was_open = λ is_open. is_open; committed = λ _. refl }

pub keeps_then : (a b c : State) → KeepsCommit a b → KeepsCommit b c → KeepsCommit a c
keeps_then a b c p q = record {
  was_open = λ is_open. p.was_open (q.was_open is_open);
  committed = λ is_open. q.committed is_open ∙ p.committed (q.was_open is_open);
}

pub unchanged_keeps : (old new : State) → IsUnchanged old new → KeepsCommit old new
unchanged_keeps old new h = record { was_open = λ _. h.0.was_open; committed = λ _. h.0.committed_is }

pub undone_keeps : (old new : State) → IsRolledBack old new → KeepsCommit old new
undone_keeps old new h = record { was_open = h.was_open; committed = λ is_open. (h.undone is_open).1 }

-- A statement that fails commits nothing.
module _ (old new : State) (cause : Error) where
  not_run_keeps : (sql : List ℕ) (params : Row) → IsNotRun old new sql params cause → KeepsCommit old new
  unfolding IsNotRun
  not_run_keeps sql params (inl h) = unchanged_keeps old new h.1
  not_run_keeps sql params (inr h) = undone_keeps old new h.3

  command_keeps : (sql : List ℕ) (c : _) (params : Row) → RunsCommand old new sql c params (Err cause)
      → KeepsCommit old new
  command_keeps sql c params (inl h) = unchanged_keeps old new h.1
  command_keeps sql c params (inr h) = undone_keeps old new h.3

  pub failed_keeps : (sql : List ℕ) (params : Row) → Executes sql params old new (Err cause) → KeepsCommit old new
  unfolding ExecutesIn
  failed_keeps sql params (inl h) = not_run_keeps sql params h
  failed_keeps sql params (inr h) = elim (cases_Bool (shows_rows false h.0)) [
    | inl shows ↦ unchanged_keeps old new (rw shows at h.2).1
    | inr runs ↦ command_keeps sql h.0 _ (rw runs at h.2)
  ]

  show_keeps : (sql : List ℕ) (c : _) (params : Row) (returning : _) → FailsToShow old new sql c params cause returning
      → KeepsCommit old new
  show_keeps sql c params None h = unchanged_keeps old new h.3
  show_keeps sql c params (Some what) h = command_keeps sql c params h

-- A rollback takes back what is not committed.
abbrev pub rollback_text : List ℕ
rollback_text = codes "ROLLBACK"

rollback_is : (schema : Schema) → command_of (understood schema rollback_text) ≡ Rollback
unfolding understood everything
rollback_is schema = refl

rollback_plain : (schema : Schema) → IsPlain (understood schema rollback_text)
unfolding understood everything
rollback_plain schema = (refl, refl)

pub rollback_undoes : (old new : State) (count : ℕ) → Executes rollback_text [] old new (Ok count)
    → IsRolledBack old new
rollback_undoes old new count h =
    (runs_as rollback_text [] old new old.now.schema refl Rollback (rollback_is old.now.schema)
    (rollback_plain old.now.schema) count h).1

pub rollback_keeps : (old new : State) (count : ℕ) → Executes rollback_text [] old new (Ok count) → KeepsCommit old new
rollback_keeps old new count h = undone_keeps old new (rollback_undoes old new count h)

-- A query that is answered changes nothing, and its store is open.
abbrev pub query_text : List ℕ
query_text = codes "SELECT 1"

query_plain : (schema : Schema) → IsPlain (understood schema query_text)
unfolding understood everything
query_plain schema = (refl, refl)

shown_unchanged : (old new : State) (rows : List Row) → Shown query_text [] old new rows → IsUnchanged old new
unfolding Shown
shown_unchanged old new rows h =
    let none = (subst IsPlain h.1.is (query_plain old.now.schema)).0 in
    let shown = subst (ShowsRows old new query_text h.0 (timed [] h.0.formats h.1.now) rows) none h.2 in
    shown.3

answer_unchanged : (old new : State) (row : Row) → QueriesRow query_text [] old new (Ok row) → IsUnchanged old new
unfolding QueriesRow
answer_unchanged old new row (inl h) = h.1
answer_unchanged old new row (inr h) = shown_unchanged old new h.0 h.1

pub answer_keeps : (old new : State) (row : Row) → QueriesRow query_text [] old new (Ok row) → KeepsCommit old new
answer_keeps old new row h = unchanged_keeps old new (answer_unchanged old new row h)

pub answer_is_open : (old new : State) (row : Row) → QueriesRow query_text [] old new (Ok row) → IsTrue new.is_open
answer_is_open old new row h = (answer_unchanged old new row h).0.is_open

pub no_answer_keeps : (old new : State) (cause : Error) → QueriesRow query_text [] old new (Err cause)
    → KeepsCommit old new
unfolding QueriesRow FailsToQuery
no_answer_keeps old new cause (inl (inl h)) = not_run_keeps old new cause query_text [] h
no_answer_keeps old new cause (inl (inr h)) = show_keeps old new cause query_text h.0 _ h.0.returning h.2
no_answer_keeps old new cause (inr h) = unchanged_keeps old new (shown_unchanged old new [] h.1)
