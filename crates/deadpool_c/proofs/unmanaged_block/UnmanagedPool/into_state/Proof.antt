-- The block's two fields go to `from_raw`, which gives the box.
use Rattle.deadpool_c.proofs.Steps.{refl, ◌∙◌, [], ◌∷◌, ftrue, fsep, fact, tables, yes, InBlock, plain, heard, nothing}
use Rattle.deadpool_c.proofs.Steps.{framed, Stays, stay_dropped, Goes-dropped, walk_of, says, ends_at, alloc_all}
use Rattle.deadpool_c.proofs.Steps.{pass_all, free_all, look_at, get, get_in, sets, lands_last, env, ‵, raw, ◌⊛◌}
use Rattle.deadpool_c.proofs.Steps.{at_ret, ◌$◌, ◌∵◌, !, qed, done, move, keep, drop, split, join, fsplit, fjoin}
use Rattle.deadpool_c.proofs.Steps.{suffices, whole, sub, enter, of_opd, fld, stop, no_more, and_then, first, blocks}
use Rattle.deadpool_c.proofs.Steps.{exec, returns, proved_at}
use Rattle.deadpool_c.proofs.{BoxCalls.closed, BoxCalls.closes, UnmanagedBox.S, UnmanagedBox.L, UnmanagedBox.lasting}
use Rattle.deadpool_c.proofs.{UnmanagedBox.as_box, UnmanagedBox.is_a_box, Unboxed.begins, Unboxed.parts_sound}
use Rattle.deadpool_c.proofs.unmanaged_block.UnmanagedPool.into_state as walk
use Rattle.deadpool_c.specs.contracts.unmanaged_block.UnmanagedPool as Block

abbrev stayed : Stays Block.into_state.ended.signature.params Block.into_state.ended.kept
stayed = (stay_dropped (plain (λ _. Block.the_row)) yes, tt)

pub into_state_spec : {M : Type 1} → walk.Statement.statement M
into_state_spec 𝓤 𝓛 𝓜 𝓡 wired =
    let c = Block.into_state.clauses 𝓛 𝓜.mem 𝓡.returns in
    let 𝓣 = tables 𝓤 𝓛.H 𝓜 𝓡 𝓡.env in
    let known = closed S L 𝓤 𝓛 𝓜 𝓡 (walk.Code.calls-std_heap::GlobalAllocator::allocate 𝓡.env wired)
    (walk.Code.calls-std_heap::GlobalAllocator::deallocate 𝓡.env wired)
    (walk.Code.calls-std_heap::GlobalAllocator::grow 𝓡.env wired)
    (walk.Code.calls-std_heap::GlobalAllocator::shrink 𝓡.env wired)
    (walk.Code.calls-deadpool_c::Destruct++none::drop 𝓡.env wired)
    (walk.Code.calls-std_alloc::boxed::Box::from_raw 𝓡.env wired) in
    proved_at 𝓛 Block.into_state.ended stayed c 𝓜 𝓡 (
      Goes-dropped 𝓛 0 (plain (λ _. Block.the_row)) yes (λ κs x w. refl),
      tt,
    ) Block.into_state.Key.name walk.Code.function (walk.Code.unfolded 𝓤 𝓛.H 𝓜 𝓡 wired) (λ y are.
    let pool = y.0.3.0 in
    qed 𝓛 ((‵ ftrue ⊛ ‵ (fsep (Block.the_row.own_val pool y.0.4.0) ftrue)) ∷ raw (fact 𝓤 (InBlock pool.at)) ∷ []) ∵
    move ! (1 ∷ []) $ heard ! (InBlock pool.at)
    (λ inside. split ! $ drop ! $ fsplit ! $ keep ! (0 ∷ []) $ is_a_box ! pool inside y.0.4.0 $
    begins S L ! 𝓣.C 𝓣.Λ walk.Code.function _ (as_box pool) y.0.4.0 (λ k same sound.
    enter ! _ _ _ _ _ $ alloc_all ! (λ l. pass_all ! refl (parts_sound S L k sound, tt) $
    -- the pointer, the handle, and the pointer as one to a state
    sets ! (of_opd ! (get_in ! (fld ! refl (stop !)) (sub ! 0 refl (whole !)))) refl (tt, tt) $
    sets ! (of_opd ! (get_in ! (fld ! refl (stop !)) (sub ! 1 refl (whole !)))) refl sound $
    first ! $ blocks ! $ sets ! (of_opd ! (get ! refl)) refl (tt, tt) $
    closes S L lasting 𝓜.mem 𝓡.returns ! (framed 𝓤 𝓛.H 𝓜 𝓣) known k
    (and_then ! (get ! refl) (and_then ! (get ! refl) (no_more !))) (λ u box its typed.
    lands_last ! refl typed $ exec ! 𝓣.C 𝓣.Λ (env walk.Code.function.locals l) walk.Code.Mir.t-4
    (at_ret (env walk.Code.function.locals l) ((walk_of 𝓛 Block.into_state.ended stayed c).post y)) $
    sets ! (of_opd ! (get ! refl)) refl typed $ returns ! (look_at ! 0 refl) $ free_all ! refl $ keep ! (0 ∷ []) $
    suffices ! _ (ends_at 𝓛 Block.into_state.ended stayed c y u box (tt, tt) (tt, tt)) $ says ! (its ∙ same) $
    nothing ! $ nothing ! $ fjoin ! $ join ! $ nothing ! $ join ! $ done !)))))
