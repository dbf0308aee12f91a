-- The words of a desk, a journal and its entries that the proofs cite, passed on from one place.
pub use Rattle.std.proofs.Common.{◌≡◌, ◌≢◌, ℕ, ◌+◌, ◌-◌, Bool, true, false, List, [], ◌∷◌, length, map, refl, sym, ap}
pub use Rattle.std.proofs.Common.{◌∙◌, Option, Some, None, drop, if◌then◌else◌, ◌==◌, max, Result, Ok, Err, option_map}
pub use Rattle.std.proofs.Common.{◌<◌, ◌≤◌, ◌++◌, arith, inl, inr, length-append, nat_lt, ltb-true, ltb-false, eq-eqb}
pub use Rattle.std.proofs.Common.{ne_eqb, take, vec_capacity, subst}
pub use Rattle.std.proofs.lemmas.{Bool.cases_Bool, List.length-map, List.map-append, List.take-map, List.drop-map}
pub use Rattle.std.proofs.lemmas.{Option.slice_get-map}
pub use Rattle.std.specs.declared.alloc.AllocError.{AllocError}
pub use Rattle.deadpool_gate.specs.Numbers.{most_handles}
pub use Rattle.deadpool_parts.specs.declared.{config.QueueMode.QueueMode, config.QueueMode.TheVariants.Fifo}
pub use Rattle.deadpool_parts.specs.declared.{config.QueueMode.TheVariants.Lifo}
pub use Rattle.deadpool_desk.proofs.Reviewing.{retains_forget}
pub use Rattle.deadpool_desk.specs.{CoreState.CoreState, DeskState.DeskState, DeskState.next_idle, DeskState.other_idle}
pub use Rattle.deadpool_desk.specs.{DeskState.settled, DeskState.status_of, DeskState.least_idle, DeskSteps.Serves}
pub use Rattle.deadpool_desk.specs.{DeskSteps.Does, DeskSteps.DoesForOwner, DeskSteps.GivesUp}
pub use Rattle.deadpool_desk.specs.{declared.owner_step.OwnerReply.OwnerReply, declared.owner_step.OwnerStep.OwnerStep}
pub use Rattle.deadpool_desk.specs.{declared.step.Reply.Reply, declared.step.Step.Step, DeskSteps.unqueued}
pub use Rattle.deadpool_desk.specs.{DeskSteps.given_up, DeskSteps.resized, Retained.Retained, Retains.Reviews}
pub use Rattle.deadpool_desk.specs.{Retains.ReviewsFrom, Retains.Retains, Retains.RetainsNoting}
pub use Rattle.deadpool_desk.specs.{declared.retain.Removal.Removal, declared.retain.Retainer.Ghosts}
pub use Rattle.deadpool_desk.specs.{declared.slot.Slot.Slot}
pub use Rattle.deadpool_journal.specs.{ByNumber.number_of, ByNumber.number_in, ByNumber.numbered}
pub use Rattle.deadpool_journal.specs.{JournaledFields.journaling_of, Journaling.Journaling, Journaling.opening}
pub use Rattle.deadpool_journal.specs.{Kept.JournalInvariant, LogState.noted, Removals.remaining}
pub use Rattle.deadpool_journal.specs.{Removals.StandIn, Replay.IsStep}
pub use Rattle.deadpool_journal.specs.{Replay.Runs, Steps.NotesRetain, declared.entry.Entry.Entry}
