-- Lines, queues and steps of an unmanaged pool: the words that the proofs cite, passed on from one place.
pub use Rattle.std.proofs.{lemmas.Bool.cond_both, lemmas.Bool.or_left}
pub use Rattle.std.proofs.Common.{◌≡◌, ℕ, ◌+◌, ◌<◌, ◌≤◌, Bool, not, List, [], ◌∷◌, ◌++◌, length}
pub use Rattle.std.proofs.Common.{refl, ◌∙◌, arith, true, false, Option, None, zero, suc, ◌-◌, length-append, slice_get}
pub use Rattle.std.proofs.Common.{sym, subst, Some, length-take, ap}
pub use Rattle.std.proofs.Common.{vec_len, rules, cond, min, take}
pub use Rattle.deadpool_gate.proofs.{GateAnswers.asked-granted}
pub use Rattle.deadpool_gate.proofs.{GateAnswers.asked-waiting, GateAnswers.asked-closed, GateAnswers.asked-unknown}
pub use Rattle.deadpool_gate.proofs.{GateAnswers.withdrawn-unknown, GateAnswers.withdrawn-known}
pub use Rattle.deadpool_gate.proofs.{GateAnswers.entered-waiting, GateAnswers.entered-without_memory}
pub use Rattle.deadpool_gate.proofs.{GateAnswers.unlisted}
pub use Rattle.deadpool_gate.proofs.{GateTickets.unnotified_tickets-arrived}
pub use Rattle.deadpool_gate.proofs.{GateTickets.unnotified_tickets-without_waiter}
pub use Rattle.deadpool_gate.proofs.{GateTickets.granted_count-length, GateTickets.waiting_count-length}
pub use Rattle.deadpool_gate.proofs.{Numbers.without_number-shorter, Numbers.without_number-fewer}
pub use Rattle.deadpool_gate.proofs.{Numbers.without_number-same, Numbers.without_number-one}
pub use Rattle.deadpool_gate.proofs.{Orders.IsOnce-front}
pub use Rattle.deadpool_gate.specs.{Gate.Waiter, Gate.Line, Gate.arrived, Gate.without_waiter, Gate.granted_tickets}
pub use Rattle.deadpool_gate.specs.{Gate.waiting_tickets, Gate.unnotified_tickets, Gate.IsApart}
pub use Rattle.deadpool_gate.specs.{Numbers.has_number, Orders.IsOnce}
pub use Rattle.deadpool_gate.specs.{Queue.Queue, Queue.served, Queue.members, Queue.is_listed}
pub use Rattle.deadpool_gate.specs.{Room.IsFull, Room.KeepsRoom, Waking.still_unnotified}
pub use Rattle.std.specs.Prelude.{IsSome}
pub use Rattle.deadpool_unmanaged.specs.{CoreFields.state_of, Kept.IsKept}
pub use Rattle.deadpool_unmanaged.specs.{State.listed, State.free_objects, State.free_room, State.settled}
pub use Rattle.deadpool_unmanaged.specs.{State.last_idle, State.State, State.size, StateSteps.without_get}
pub use Rattle.deadpool_unmanaged.specs.{StateSteps.without_add, StateSteps.with_get, StateSteps.with_add}
pub use Rattle.deadpool_unmanaged.specs.{StateSteps.handed, StateSteps.stored}
pub use Rattle.deadpool_unmanaged.specs.{declared.state.Core.TheInside.Inside}
pub use Rattle.std.proofs.lemmas.Bool.{and_parts, ltb-true}
pub use Rattle.std.proofs.Common.{nat_lt}
pub use Rattle.deadpool_gate.proofs.{Queues.served_fewer}
pub use Rattle.deadpool_gate.proofs.{Queues.served-settled, Queues.served_served, Queues.served_within}
pub use Rattle.deadpool_gate.proofs.{Queues.still_served, Queues.left_served, Queues.joined_served, Queues.once-without}
pub use Rattle.deadpool_gate.proofs.{Served.queue-without, Served.queue-joined, Served.queue-length}
pub use Rattle.deadpool_gate.specs.{Served.queue_of, Served.free_of, Served.NobodyWaits}
