-- The words of a pool, a journal and its entries that the proofs cite, passed on from one place.
pub use Rattle.std.proofs.Common.{◌≡◌, ℕ, ◌+◌, ◌-◌, ◌<◌, ◌≤◌, Bool, true, false, List, [], ◌∷◌, ◌++◌, length, map, refl}
pub use Rattle.std.proofs.Common.{sym, ap, subst, ◌∙◌, Option, Some, None, if◌then◌else◌, ◌==◌, option_map, arith, inl}
pub use Rattle.std.proofs.Common.{inr, length-append, nat_lt, ltb-true, ltb-false}
pub use Rattle.std.proofs.lemmas.{Bool.cases_Bool, List.length-map, List.length-take, List.map-append}
pub use Rattle.std.proofs.lemmas.{List.take-map, Option.slice_get-map}
pub use Rattle.std.specs.Option.{option_or}
pub use Rattle.deadpool_gate.specs.Numbers.{most_handles}
pub use Rattle.deadpool_unmanaged.specs.{State.State, State.CoreState, State.bounded, State.last_idle, State.other_idle}
pub use Rattle.deadpool_unmanaged.specs.{State.settled, State.size, State.status_of, StateSteps.handed}
pub use Rattle.deadpool_unmanaged.specs.{StateSteps.stored}
pub use Rattle.deadpool_unmanaged.specs.{StateSteps.without_get, StateSteps.without_add, StateSteps.one_handle_less}
pub use Rattle.deadpool_unmanaged.specs.{StateSteps.TakesGetWake, StateSteps.TakesAddWake}
pub use Rattle.deadpool_unmanaged.specs.{StateSteps.Does, declared.step.Reply.Reply, declared.step.Step.Step}
pub use Rattle.deadpool_unmanaged_journal.specs.{ByName.by_name, ByName.name_in, ByName.silent, OwnerSteps.DoesForOwner}
pub use Rattle.deadpool_unmanaged_journal.specs.{declared.owner_step.OwnerReply.OwnerReply}
pub use Rattle.deadpool_unmanaged_journal.specs.{declared.owner_step.OwnerStep.OwnerStep, declared.entry.Entry.Entry}
pub use Rattle.deadpool_unmanaged_journal.specs.{Journaling.Journaling, Journaling.opening, Kept.JournalInvariant}
pub use Rattle.deadpool_unmanaged_journal.specs.{JournaledFields.journaling_of, LogState.noted, Replay.IsStep}
pub use Rattle.deadpool_unmanaged_journal.specs.{Replay.Runs}
pub use Rattle.deadpool_unmanaged_journal.specs.{Replay.Steps}
