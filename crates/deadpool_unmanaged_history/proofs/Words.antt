-- The words of a pool, its journal and its history that the proofs cite, passed on from one place.
pub use mathlib.Core.List.{IsPrefix}
pub use Rattle.std.proofs.Common.{◌≡◌, ◌∙◌, ℕ, ◌-◌, ◌<◌, ◌≤◌, true, false, List, [], ◌∷◌, ◌++◌, length, nat_lt, map}
pub use Rattle.std.proofs.Common.{refl, Bool, ◌⊎◌, ◌||◌, ◌==◌, if◌then◌else◌, is_some, append-nil}
pub use Rattle.std.proofs.Common.{Result, Ok, Err, IfOk, Option, Some, None, drop, take, ap, sym, arith, inl, inr}
pub use Rattle.std.proofs.Common.{length-append, ltb-true, ltb-false}
pub use Rattle.std.proofs.lemmas.Bool.{cases_Bool, lt-ltb, le-ltb}
pub use Rattle.std.proofs.lemmas.List.{drop_all, length-take-le, take_all, take-append-le, take-append-drop, map-append}
pub use Rattle.std.proofs.lemmas.List.{length-map}
pub use Rattle.std.proofs.lemmas.List.Elements.{All-nil, All-push}
pub use Rattle.std.proofs.lemmas.Option.{slice_get-get_or}
pub use Rattle.std.proofs.Math.Seq.{get_or-append_seam}
pub use Rattle.std.specs.Option.{option_or}
pub use Rattle.std.specs.declared.alloc.AllocError.{AllocError}
pub use Rattle.deadpool_chronicle.specs.History.{Calls, Knowing, calls_by}
pub use Rattle.deadpool_unmanaged.specs.{State.State, State.CoreState, State.bounded, State.last_idle, State.opened}
pub use Rattle.deadpool_unmanaged.specs.{State.size, State.settled, State.has_due, State.due_get, State.due_add}
pub use Rattle.deadpool_gate.specs.{Numbers.without_number, Numbers.most_handles, Waking.next_due}
pub use Rattle.deadpool_unmanaged_journal.specs.{OwnerSteps.DoesForOwner}
pub use Rattle.deadpool_unmanaged_journal.specs.declared.owner_step.{OwnerReply.OwnerReply, OwnerStep.OwnerStep}
pub use Rattle.deadpool_unmanaged.specs.{StateSteps.Does, StateSteps.TakesAddWake, StateSteps.TakesGetWake}
pub use Rattle.deadpool_unmanaged.specs.{Replies.Brings, Replies.Leaves, declared.step.Reply.Reply}
pub use Rattle.deadpool_unmanaged.specs.{declared.step.Step.Step}
pub use Rattle.deadpool_unmanaged_journal.proofs.{Balance.RunsCounted-snoc, Balance.runs, Kept.step_silent}
pub use Rattle.deadpool_unmanaged_journal.specs.{ByName.silent, Journaling.Journaling, Journaling.Notes}
pub use Rattle.deadpool_unmanaged_journal.specs.{Copies.HasSteps, Kept.JournalInvariant, Tally.counted, Tally.no_tally}
pub use Rattle.deadpool_unmanaged_journal.specs.{declared.tally.Tally.Tally}
pub use Rattle.deadpool_unmanaged_journal.specs.{LogState.LogState, LogState.no_entries, LogState.noted, Replay.Steps}
pub use Rattle.deadpool_unmanaged_journal.specs.{Replay.Runs, declared.entry.Entry.Entry}
pub use Rattle.deadpool_unmanaged_journal.specs.{declared.journal.Journal.Journal}
pub use Rattle.deadpool_unmanaged.specs.{Closing.is_drained}
pub use Rattle.deadpool_unmanaged_history.specs.Awaited.{Awaited, awaited, awaited_after, awaited_from, is_drain_due}
pub use Rattle.deadpool_unmanaged_history.specs.Awaited.{nobody_awaited}
pub use Rattle.deadpool_unmanaged_history.specs.History.{DrainsAreTold, QueuesAreTold, HasCalled, HasFirst}
pub use Rattle.deadpool_unmanaged_history.specs.History.{IsBeginning, IsDueAfter}
pub use Rattle.deadpool_unmanaged_history.specs.History.{IsHistoryOf}
pub use Rattle.deadpool_unmanaged_history.specs.History.{IsLater, IsLegal, IsNext, IsTallyOf, LeadsTo, LeadsWith}
pub use Rattle.deadpool_unmanaged_history.specs.History.{Reaches, TellsInTurn, entries_of, named, object_of, told_by}
pub use Rattle.deadpool_unmanaged_history.specs.Unheard.{Unnotified, unheard, unheard_after, unheard_from}
pub use Rattle.deadpool_unmanaged_history.specs.Unheard.{unnotified_of}
pub use Rattle.deadpool_unmanaged_history.specs.declared.line.{Line.Line, Wake.Wake}
