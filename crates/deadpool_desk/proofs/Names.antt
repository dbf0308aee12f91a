-- The names that the proofs cite, passed on from one place.
pub use Rattle.std.proofs.Common.{◌≡◌, ℕ, ◌+◌, ◌-◌, ◌<◌, ◌≤◌, true, false, not, [], ◌∷◌, ◌++◌, length, take, drop, max}
pub use Rattle.std.proofs.Common.{refl, arith, ap, ◌∙◌, append_assoc, Bool, Option, List, min, sym}
pub use Rattle.std.proofs.Common.{length-append, Some, None, slice_get, inl, inr, add-zero}
pub use Rattle.std.proofs.Common.{length-drop, Ok, rules, vec_len, vec_capacity, subst}
pub use Rattle.std.proofs.lemmas.List.{append-nil}
pub use Rattle.std.proofs.lemmas.Bool.{and_parts, ltb-true}
pub use Rattle.std.proofs.Common.{nat_lt}
pub use Rattle.deadpool_gate.proofs.GateAnswers.{asked-granted, asked-waiting, asked-closed}
pub use Rattle.deadpool_gate.proofs.GateAnswers.{asked-unknown, withdrawn-unknown, withdrawn-known, entered-waiting}
pub use Rattle.deadpool_gate.proofs.GateAnswers.{entered-without_memory, unlisted}
pub use Rattle.deadpool_gate.proofs.GateTickets.{granted_tickets-arrived, waiting_tickets-arrived}
pub use Rattle.deadpool_gate.proofs.GateTickets.{granted_tickets-without_waiter, waiting_tickets-without_waiter}
pub use Rattle.deadpool_gate.proofs.GateTickets.{unnotified_tickets-arrived, unnotified_tickets-without_waiter}
pub use Rattle.deadpool_gate.proofs.GateTickets.{length-both_tickets, granted_count-length, waiting_count-length}
pub use Rattle.deadpool_gate.proofs.Numbers.{without_number-shorter, without_number-fewer, has_number-append}
pub use Rattle.deadpool_gate.proofs.Numbers.{without_number-append, without_number-same, without_number-one}
pub use Rattle.deadpool_gate.proofs.Orders.{IsOnce-without, IsOnce-front}
pub use Rattle.deadpool_gate.specs.Gate.{Line, arrived, without_waiter, granted_tickets, waiting_tickets}
pub use Rattle.deadpool_gate.specs.Gate.{unnotified_tickets, IsLine}
pub use Rattle.deadpool_gate.specs.Numbers.{has_number, without_number, largest_usize}
pub use Rattle.deadpool_gate.specs.Orders.{IsOnce}
pub use Rattle.deadpool_gate.specs.Room.{IsFull, KeepsRoom}
pub use Rattle.deadpool_desk.specs.CoreFields.{desk_of, CoreInvariant}
pub use Rattle.deadpool_desk.specs.DeskState.{settled, DeskState, places, least_idle}
pub use Rattle.deadpool_desk.specs.DeskSteps.{is_listed, unqueued, Serves}
pub use Rattle.deadpool_desk.specs.Places.{grants_at, held_at}
pub use Rattle.deadpool_desk.specs.Retained.{Retained}
pub use Rattle.deadpool_desk.specs.Retains.{Goes, Reviews, ReviewsFrom, Retains, RetainsNoting, Stays}
pub use Rattle.deadpool_desk.specs.Settled.{IsSettled}
pub use Rattle.deadpool_desk.specs.declared.retain.Removal.{Removal}
pub use Rattle.deadpool_desk.specs.declared.slot.Slot.{Slot}
pub use Rattle.deadpool_desk.specs.declared.state.Core.TheInside.{Inside}
pub use Rattle.deadpool_gate.proofs.Queues.{joined_served, left_served, once-without}
pub use Rattle.deadpool_gate.specs.Served.{NobodyWaits, queue_of}
