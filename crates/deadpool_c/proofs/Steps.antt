-- The names of the logic, of boxes and of the heap that the walks of this crate cite, passed on from one place.
pub use Prim.Native.Nat.{ℕ}
pub use Rattle.std.proofs.raw_atomic.Walks.{proved_at}
pub use Rattle.std.specs.Box.Ownership.{box_owns}
pub use base.{Fml.ftrue, Fml.fsep, Fml.Fml, Fml.flft, Fraction.full_share, Shift.Keyless}
pub use base.Logic.{emp, id⊢, SProp, ent, sep, via}
pub use contract.{BorrowLft.◌⊑◌, BorrowLft.⊑_static, Monad.fact, Monad.Fun, Monad.fact_i, Monad.fm→mono, Running.tables}
pub use contract.{Running.Running}
pub use denote.{Builtin.unit, Exit.yes, Exit.Last, Exit.left, Exit.no, Memory.lone, Param.bounded, Param.arg}
pub use denote.{Param.layout, Param.Glue.Met as GlueMet, Param.Glue.signature as glue_signature}
pub use denote.{Param.Glue.spent as glue_spent, Param.Laws.Laws, Param.Laws.arg_laws, Param.Send.IsSend}
pub use denote.{Param.Send.AllSend, Param.Send.owning_send, Param.Send.struct_send, Param.Send.sendable}
pub use denote.{RattleType.RattleType, Signature.plain, Signature.Slot, Steps.heard, Steps.nothing, Steps.only}
pub use denote.{Struct.Owning.shape, Struct.Owning.fields, Struct.Owning.to, Struct.Struct.exits_of, Struct.Tuple.Tuple}
pub use denote.{Triple.Call.calls_at, Triple.Call.calls_at_last, Triple.Carry.grown, Triple.Carry.spared}
pub use denote.{Triple.Clauses.Ended, Triple.Clauses.Clauses, Triple.Clauses.closing, Triple.Spec.Back}
pub use denote.{Triple.Spec.Meets, Triple.Spec.triple_of, Triple.Statement.Contract, Triple.Statement.Triple}
pub use denote.{Triple.Statement.FmF, Triple.Table.framed, Triple.Table.run_framed, Triple.Table.widened}
pub use denote.RawPtr.{InBlock, block_ptr, Ptr, RawPtr, at_block, block_of, count_of, null_ptr}
pub use denote.Triple.Walked.{Stays, stay_dropped, Goes-dropped, walk_of, says, ends_at}
pub use lib.Dec.{T}
pub use mathlib.Core.List.{List, [], ◌∷◌, ◌++◌}
pub use mathlib.Core.Path.{refl, ◌∙◌, ◌≡◌, sym, ap, subst}
pub use mir.{Raw.raw as raw_type, Val.Val, Val.vptr, Val.has_ty, Val.WT}
pub use mir.Syntax.{Callee, Opd as Operand, Place, Body, Dict, a_type, dcons, dnil, seq, call, impl, tnil, method}
pub use mir.Syntax.{no_args, Fn, tcons}
pub use prog.{Memory.Memory, Model.Model, Routine.Routine, Wired.Wired, Wp.Env, Wp.Calls, Wp.Loops, Wp.WpFn}
pub use seplogic.Ra.Ura.{Ura}
pub use sound.WpLaws.{FmC}
pub use types.{Logic.Logic, Logic.sem, Part.whole, Part.sub, Part.agg}
pub use types.ByLocal.{alloc_all, pass_all, free_all, look_at, get, get_in, sets, lands_as, lands_last, env}
pub use types.Kit.{‵, raw, ◌⊛◌, at_ret, ◌$◌, ◌∵◌, !, qed, done, move, keep, drop, use1, split, join, fsplit, fjoin}
pub use types.Kit.{suffices, Goal, Seq, Step, step, Post, Item, some, later, runs, lands, settles, use0, split3, pick}
pub use types.Kit.{frame, feq_i, show, await, updating, now, rewrite, prop, regoal}
pub use types.Run.{enter, of_opd, fld, stop, no_more, and_then, first, blocks, exec, returns, Opds}
pub use Rattle.core.proofs.{alloc.Calls.Fits, mem.Facts.says_two}
pub use Rattle.std_alloc.proofs.{BoxSteps.Steps.box_out, BoxSteps.Steps.box_in, SendSync.quiet, SendSync.lies}
pub use Rattle.std_alloc.proofs.{boxed.Box.from_raw.Met.met as from_raw_met}
pub use Rattle.std_alloc.proofs.{boxed.Box.from_raw.Symbol.code as from_raw_code}
pub use Rattle.std_alloc.proofs.{boxed.Box.from_raw.Symbol.name as from_raw_name}
pub use Rattle.std_alloc.proofs.{boxed.Box.into_raw_with_allocator.Met.met as into_raw_met}
pub use Rattle.std_alloc.proofs.{boxed.Box.into_raw_with_allocator.Symbol.code as into_raw_code}
pub use Rattle.std_alloc.proofs.{boxed.Box.into_raw_with_allocator.Symbol.name as into_raw_name}
pub use Rattle.std_alloc.proofs.BoxSteps.Form.{R, P, args, Bx, D, B, box_ty, box_typed, word, handle}
pub use Rattle.std_alloc.specs.contracts.boxed.{Box.the_row as box_row, Box.from_raw.signature as from_raw_signature}
pub use Rattle.std_alloc.specs.contracts.boxed.{Box.from_raw.spec as from_raw_spec}
pub use Rattle.std_alloc.specs.contracts.boxed.{Box.into_raw_with_allocator.signature as into_raw_signature}
pub use Rattle.std_alloc.specs.contracts.boxed.{Box.into_raw_with_allocator.spec as into_raw_spec}
pub use Rattle.std_heap.proofs.{Global.TheLaws.the_row_laws as heap_laws}
pub use Rattle.std_heap.proofs.{Global.TheSendSync.the_field_send as handle_send}
pub use Rattle.std_heap.proofs.{GlobalAllocator.TheImpl.Met.passed as allocator_passed}
pub use Rattle.std_heap.proofs.{GlobalAllocator.allocate.Symbol.code as allocate_code}
pub use Rattle.std_heap.proofs.{GlobalAllocator.deallocate.Symbol.code as deallocate_code}
pub use Rattle.std_heap.proofs.{GlobalAllocator.grow.Symbol.code as grow_code}
pub use Rattle.std_heap.proofs.{GlobalAllocator.shrink.Symbol.code as shrink_code}
pub use Rattle.std_heap.specs.contracts.{Global.the_row as heap_row, GlobalAllocator.TheImpl.ghosts}
pub use Rattle.std_heap.specs.contracts.{GlobalAllocator.TheImpl.dict}
pub use Rattle.deadpool_c.proofs.Destruct++none.drop.Symbol.{code as no_drop_code, glues as no_drop_glues}
pub use Rattle.deadpool_c.proofs.Destruct++none.drop.Symbol.{symbol as no_drop_symbol}
