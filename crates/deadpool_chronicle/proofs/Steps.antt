-- What the walks by hand are written in, in one place; and how a walk tells the clauses at its end, one after the
-- other.
use seplogic.Ra.Ura.{Ura}
use base.Logic.{ent, sep, mono∗, emp∗}
pub use Rattle.std.proofs.Common.{◌≡◌, ℕ, ◌+◌, List, [], ◌∷◌, ◌++◌, refl}
pub use Rattle.atomic_table.proofs.Walks.{proved}
pub use Rattle.logbook.proofs.Fields.{token, Token, token_told, token_made, ends, lends_twice}
pub use mathlib.Core.List.{IsPrefix}
pub use mir.Syntax.{a_type, dcons, dnil, named}
pub use mir.Val.{Val, vunit, vptr, vstruct, vcons, vnil, of_list}
pub use mir.MapTy.{inst_fn}
pub use base.Logic.{SProp, emp, via}
pub use base.Fml.{Fml, ftrue, fsep, feq, flft, fhide}
pub use types.Kit.{‵, raw, ◌⊛◌, some, given, later, ◌$◌, ◌∵◌, !, qed, by, move, keep, drop, split, split3, fsplit}
pub use types.Kit.{fsplit3, fjoin, fjoin3, fpack, pick, learn, use0, use1, use2, await, rewrite, feq_i}
pub use types.Owned.{basic}
pub use types.Run.{no_more, and_then, unit_lit, of_opd, returns, enter}
pub use types.ByLocal.{alloc_all, pass_all, free_all, look_at, get, sets}
pub use types.Part.{agg}
pub use contract.Monad.{fact, fact_i}
pub use contract.Running.{tables}
pub use denote.Builtin.{unit, RefOf}
pub use denote.Exit.{yes}
pub use denote.Memory.{hidden_shr}
pub use denote.Opens.{unhide}
pub use denote.Param.{param, bounded}
pub use denote.RattleType.{RattleType, owns, Valss}
pub use denote.Ref.{mut_vals, mut_Tells, shr_vals, shr_Tells}
pub use denote.Signature.{types_at, plain}
pub use denote.Steps.{nothing, opens, closes}
pub use denote.Struct.Lending.{lent_out}
pub use denote.Struct.Tuple.{Tuple}
pub use denote.Triple.Walked.{Stays, stay_dropped, stay_ref, walk_of, Goes-dropped, Goes-ref}

module _ {M : Type 1} (𝓤 : Ura M) where
  -- a clause, and those after it
  pub tell : {φ : Type 0} {P : SProp 𝓤} → φ → ent 𝓤 (emp 𝓤) P → ent 𝓤 (emp 𝓤) (sep 𝓤 (fact 𝓤 φ) P)
  tell {φ} x rest = via 𝓤 (sep 𝓤 (emp 𝓤) (emp 𝓤)) (emp∗ 𝓤 (emp 𝓤)) (mono∗ 𝓤 (fact_i 𝓤 φ (emp 𝓤) x) rest)

  pub tell_last : {φ : Type 0} → φ → ent 𝓤 (emp 𝓤) (fact 𝓤 φ)
  tell_last {φ} x = fact_i 𝓤 φ (emp 𝓤) x
