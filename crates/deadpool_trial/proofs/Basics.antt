-- Numbers, lists, options and computations: the names that the proofs cite, passed on from one place.
pub use Rattle.deadpool_gate.proofs.Counts.{one_if, count-push, held-push, count-set, held-set, length-cond}
pub use Rattle.deadpool_gate.proofs.Lists.{set-same, get-append, get-set_other, get-set_same, none_left, one_less}
pub use Rattle.deadpool_parts.proofs.Numbered.{length-with_numbered, length-without_numbered, none_there}
pub use Rattle.deadpool_parts.proofs.NumberedCounts.{count-cons, count-append, count-without, count-found}
pub use Rattle.deadpool_parts.proofs.NumberedCounts.{count-cons_option, is_at, count-with}
pub use Rattle.deadpool_gate.proofs.Numbers.{without_number-same, has_number-append, has_number-without}
pub use Rattle.deadpool_gate.proofs.Numbers.{without_number-append, without_number-shorter}
pub use Rattle.deadpool_gate.proofs.Orders.{order_same, order_joined, IsOnce-push, IsOnce-without}
pub use Rattle.deadpool_gate.proofs.Owners.{owned-set, owned-leaves, owned-granting, absent, renamed-set}
pub use Rattle.deadpool_gate.proofs.Owners.{renamed-leaves, renamed-joins, owned-push, renamed-push, owned-joins}
pub use Rattle.deadpool_gate.proofs.Owners.{granted-renamed}
pub use Rattle.deadpool_parts.proofs.Places.{place_is, found_at_place, place_within, nothing_found}
pub use Rattle.deadpool_parts.proofs.Programs.{Gives-bind, Always-bind, Always-Gives}
pub use Rattle.deadpool_parts.specs.Numbered.{count_numbered}
pub use Rattle.deadpool_gate.specs.Numbers.{has_number, most_handles, without_number, largest_usize}
pub use Rattle.deadpool_gate.specs.Orders.{IsOnce, KeepsOrder}
pub use Rattle.deadpool_gate.specs.Owners.{owner, TicketsMatch}
pub use Rattle.deadpool_parts.specs.Program.{Return, ◌>>=◌, Gives, Always, Program, Ask, ask}
pub use Rattle.deadpool_gate.specs.Queue.{Queue}
pub use Rattle.deadpool_parts.specs.Runs.{last_of, all_states, Each, Neighbours, Later}
pub use Rattle.std.proofs.Common.{◌≡◌, ℕ, ◌+◌, ◌-◌, ◌≤◌, List, false, set, refl, ap, ◌∙◌, arith, inl, inr, Option, Some}
pub use Rattle.std.proofs.Common.{None, Result, Ok, Err, length, true, [], ◌∷◌, ◌++◌, ◌==◌, nat_le, sym, ◌<◌, Bool, not}
pub use Rattle.std.proofs.Common.{min, length-drop, nat_lt, unwrap_or, max, take, drop, length-append, zero, suc}
pub use Rattle.std.proofs.Common.{if◌then◌else◌, subst, eq-eqb, eqb, map, cond, append-nil, is_some, ◌&&◌, is_none}
pub use Rattle.std.proofs.Common.{option_map, lt-ltb, le-ltb, get_or, ◌≢◌, ◌||◌, append_assoc, ◌⊎◌, length-take}
pub use Rattle.std.proofs.Common.{set-set, vec_len, vec_capacity, rules}
pub use Rattle.std.proofs.Math.Bool.{and-true, and-false, or-true, or-false}
pub use Rattle.std.proofs.Math.ListN.{length-set as length-set_n}
pub use Rattle.std.proofs.Math.Numerals.{one-add}
pub use Rattle.std.proofs.lemmas.Bool.{cond-true, cond-false, cond_both, cases_Bool, leb-true, cases_lt, not-true}
pub use Rattle.std.proofs.lemmas.Bool.{not-false, eqb-true, ne_eqb, or_parts, and_parts, le-leb, lt-leb, ltb-true}
pub use Rattle.std.proofs.lemmas.Bool.{ltb-false, leb-false}
pub use Rattle.std.proofs.lemmas.Bool.Decides.{nat_tests, eqb_tells}
pub use Rattle.std.proofs.lemmas.List.{take-map, drop-map, map-append, length-map, map-set, length-set, take_more}
pub use Rattle.std.proofs.lemmas.List.{take_all, take-append-drop, drop_all, nil_from_length}
pub use Rattle.std.proofs.lemmas.List.Elements.{filter-append}
pub use Rattle.std.proofs.lemmas.Option.{slice_get-map, slice_get_within, get_or_from_slice_get, slice_get-get_or}
pub use Rattle.std.proofs.lemmas.Option.{slice_get_read, slice_get_past}
pub use Rattle.std.specs.List.{position, position_or_len}
pub use Rattle.std.specs.Prelude.{slice_get, filter, filter_map, ⊤}
pub use Rattle.std.specs.Vec.Iter.{into_iter_items, into_iter_len}
pub use Rattle.std.specs.declared.alloc.AllocError.{AllocError}
pub use Rattle.std.specs.declared.time.Duration.{Duration}
