-- Numbers, lists, looks and shapes: the words that the proofs cite, passed on from one place.
pub use Rattle.std.proofs.Common.{◌≡◌, ℕ, ◌+◌, ◌<◌, ◌≤◌, List, [], ◌∷◌, ◌++◌, Some, length, set, refl, sym, ◌∙◌, subst}
pub use Rattle.std.proofs.Common.{arith, inl, inr, slice_get, length-set, None, rules, length-append}
pub use Rattle.std.proofs.lemmas.{Bool.Decides.eqb_tells, Option.slice_get-get_or, Option.slice_get_within}
pub use Rattle.deadpool_gate.proofs.Lists.{get-append, get-set_same, get-set_other}
pub use Rattle.deadpool_trial.specs.Unmanaged.Look.{look_of as unmanaged_look_of}
pub use Rattle.deadpool_trial.specs.Look.{look_of}
pub use Rattle.pool_shapes.specs.{Given.left_without, Shapes.shape_of, Shapes.unmanaged_shape_of}
