-- Numbers, lists and keys: the names that the proofs cite, passed on from one place.
pub use Rattle.std.proofs.Common.{◌≡◌, ◌∙◌, sym, ap, ℕ, ◌+◌, ◌<◌, List, [], ◌∷◌, ◌++◌, length, take, drop, slice_get}
pub use Rattle.std.proofs.Common.{slice_set, Some, arith, take-take, length-take, drop-drop, drop-set-lt, Global, subst}
pub use Rattle.std.proofs.Common.{length-set, ◌≤◌}
pub use Rattle.std.proofs.lemmas.{List.take_more_set, List.take_more, Option.slice_get_within}
pub use Rattle.std.proofs.lemmas.{Option.get_or_from_slice_get}
pub use Rattle.deadpool_desk.specs.DeskSteps.{surplus}
pub use Rattle.deadpool_c.specs.{Keys.Writes, Keys.written_count, Keys.idle_keys, Keys.surplus_keys}
pub use Rattle.deadpool_c.specs.{ManagedOwned.managed_owns, ManagedReplies.MakesForOwnerRaw}
pub use Rattle.deadpool_c.specs.{UnmanagedOwned.unmanaged_owns}
