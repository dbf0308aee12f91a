-- Numbers, lists and computations: the names that the proofs cite, passed on from one place.
pub use Rattle.std.proofs.Common.{◌≡◌, ℕ, List, Bool, true, false, set, map, refl, sym, ap, ◌∙◌, subst, arith, Option}
pub use Rattle.std.proofs.Common.{Some, eq-eqb, nat_lt, Result, ◌+◌, ◌-◌, zero, suc, [], ◌∷◌, ◌==◌, length, take, ◌<◌}
pub use Rattle.std.proofs.Common.{not, inl, inr, ◌≤◌, if◌then◌else◌, None, length-append, length-take, ◌≢◌, ◌++◌, ◌⊎◌}
pub use Rattle.std.proofs.Common.{eqb, ◌&&◌, cond, min, append-nil, vec_len, rules, append_assoc, vec_capacity}
pub use Rattle.std.proofs.Math.Bool.{and-true, and-false, or-true, or-false}
pub use Rattle.std.proofs.lemmas.Bool.{lt-ltb, le-ltb, le-leb, lt-leb, cases_Bool, not-true, cond_both, ltb-true}
pub use Rattle.std.proofs.lemmas.Bool.{cases_lt}
pub use Rattle.std.proofs.Common.{nat_le}
pub use Rattle.std.proofs.lemmas.Bool.Decides.{eqb_tells, nat_tests}
pub use Rattle.std.proofs.lemmas.List.{length-map, map-append, take-map, drop-map, map-set}
pub use Rattle.std.proofs.lemmas.Option.{slice_get_within, slice_get-map, slice_get_read, slice_get_past}
pub use Rattle.std.proofs.lemmas.Option.{slice_get-get_or}
pub use Rattle.std.specs.{List.slice_get, List.filter, Option.option_map, Vec.Iter.into_iter_items}
pub use Rattle.std.specs.{Vec.Iter.into_iter_len, declared.time.Duration.Duration}
pub use Rattle.futures.specs.declared.task.Poll.{Poll}
pub use Rattle.deadpool_gate.proofs.Counts.{one_if}
pub use Rattle.deadpool_gate.proofs.Lists.{set-same, get-set_same, get-set_other, get-append, get-pushed, none_left}
pub use Rattle.deadpool_gate.proofs.Lists.{one_less}
pub use Rattle.deadpool_gate.proofs.Numbers.{without_number-shorter, without_number-fewer, has_number-append}
pub use Rattle.deadpool_gate.proofs.Numbers.{has_number-without}
pub use Rattle.deadpool_gate.proofs.Orders.{IsOnce-without, IsOnce-push, order_same, order_without, order_joined}
pub use Rattle.deadpool_gate.proofs.Orders.{IsOnce-append}
pub use Rattle.deadpool_gate.proofs.Owners.{granted-renamed, renamed-set, NoTicket, owned-push, renamed-push}
pub use Rattle.deadpool_gate.proofs.Owners.{owned-granting, OneTicket, owned-set, absent, owned-leaves, renamed-leaves}
pub use Rattle.deadpool_gate.proofs.Owners.{owned-joins, renamed-joins}
pub use Rattle.deadpool_gate.specs.{Orders.KeepsOrder, Owners.owner}
pub use Rattle.deadpool_gate.specs.Numbers.{has_number, largest_usize, most_handles, without_number}
pub use Rattle.deadpool_gate.specs.Queue.{is_listed, joined, Queue, members, without, renamed, served}
pub use Rattle.deadpool_parts.proofs.Numbered.{none_there}
pub use Rattle.deadpool_parts.proofs.NumberedCounts.{count-cons, count-cons_option, count-push, count-with}
pub use Rattle.deadpool_parts.proofs.NumberedCounts.{count-set_held, count-without, count-found, count-push_held}
pub use Rattle.deadpool_parts.specs.{Moments.deadline_after, Moments.is_reached, Moments.cannot_wait}
pub use Rattle.deadpool_parts.specs.{declared.moment.Moment.Moment, declared.moment.Runtime.Runtime}
pub use Rattle.deadpool_parts.specs.{declared.replies.HandleReply.HandleReply, declared.status.Status.Status}
pub use Rattle.deadpool_parts.specs.Runs.{all_states, Each, Neighbours, Later}
