-- Numbers, lists, marks and frames: the words that the proofs cite, passed on from one place.
pub use Rattle.std.proofs.Common.{◌≡◌, ◌≢◌, ℕ, ◌+◌, ◌-◌, ◌<◌, ◌≤◌, List, [], ◌∷◌, ◌++◌, length, refl, sym, ◌∙◌, ap}
pub use Rattle.std.proofs.Common.{subst, arith, zero, suc, inl, inr, get_or, set, get_or-set_same, get_or-set_other}
pub use Rattle.std.proofs.Common.{length-append, Option, Some, None, slice_get, true, false, append_assoc, replicate}
pub use Rattle.std.proofs.Common.{nat_le, nat_lt, filter, le-leb, zero-add, suc-add, append-nil, lt-ltb, le-ltb, rules}
pub use Rattle.std.proofs.Common.{length-set}
pub use Rattle.std.proofs.lemmas.{Bool.cases_lt, Bool.lt-leb, Grind.replicate_next, List.get_or_past}
pub use Rattle.std.proofs.lemmas.{List.get_or_append_left, List.get_or-replicate, List.length-replicate}
pub use Rattle.std.proofs.lemmas.{List.get_or_default, Option.get_or_from_slice_get, Option.slice_get_past}
pub use Rattle.std.proofs.lemmas.{Option.slice_get_read}
pub use Rattle.pool_shapes.specs.Drawn.{Frames.lane_at, Frames.shown_at, Frames.Draws, Frames.EndAt, Frames.Extends}
pub use Rattle.pool_shapes.specs.Drawn.{Frames.AllExtend, Frames.AllBegin, Frames.Rows}
pub use Rattle.pool_shapes.specs.Drawn.{Marks.columns, Marks.first_column}
pub use Rattle.pool_shapes.specs.Drawn.{Marks.next_column, Marks.cells, Marks.column_behind}
pub use Rattle.pool_shapes.specs.Drawn.{Marks.AreLaid, Marks.AreBehind}
pub use Rattle.pool_shapes.specs.Drawn.{Marks.AreApart, Marks.has_column, Marks.IsShownAt}
pub use Rattle.pool_shapes.specs.declared.marks.mark.{Mark.Mark}
