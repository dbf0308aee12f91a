-- Numbers, lists and computations: the words that the proofs cite, passed on from one place.
pub use Rattle.std.proofs.{Math.Numerals.one-add, lemmas.Bool.cases_Bool, lemmas.Grind.common_steps}
pub use Rattle.std.proofs.{lemmas.List.Elements.filter-append, lemmas.List.Elements.filter_map-append}
pub use Rattle.std.proofs.{lemmas.List.Folds.find_at, lemmas.List.Sums.prefix_len-le-length}
pub use Rattle.std.proofs.{lemmas.Option.slice_get_past, lemmas.Option.slice_get_read}
pub use Rattle.std.proofs.Common.{◌≡◌, ℕ, ◌+◌, ◌<◌, List, [], ◌∷◌, ◌==◌, nat_lt, length, refl, ap, arith, inl, inr}
pub use Rattle.std.proofs.Common.{Some, None, position, insert, remove, ◌≤◌, zero, suc, ◌++◌, Bool, false, cond, set}
pub use Rattle.std.proofs.Common.{◌∙◌, Option, length-append, slice_get, filter, filter_map, not, unwrap_or, get_or}
pub use Rattle.std.proofs.Common.{find, ltb-true, ltb-false, subst, sym, ◌^◌, Ok, IfSome, rules, vec_len}
pub use Rattle.std.specs.List.{position_or_len, cons_option}
pub use Rattle.deadpool_parts.specs.{Numbered.with_numbered, Numbered.find_numbered, Numbered.without_numbered}
pub use Rattle.deadpool_parts.specs.{Numbered.count_numbered, Program.Program, Program.Return, Program.Ask}
pub use Rattle.deadpool_parts.specs.{Program.◌>>=◌, Program.Gives, Program.Always, declared.config.QueueMode.QueueMode}
pub use Rattle.deadpool_parts.specs.{declared.config.QueueMode.TheVariants.Fifo}
pub use Rattle.deadpool_parts.specs.{declared.config.QueueMode.TheVariants.Lifo}
