-- `into_raw_with_allocator` gives the block's two fields.
use Rattle.deadpool_c.proofs.Steps.{refl, ◌∙◌, [], ◌∷◌, ftrue, fsep, emp, id⊢, tables, yes, block_ptr, nothing, framed}
use Rattle.deadpool_c.proofs.Steps.{Stays, stay_dropped, Goes-dropped, ends_at, alloc_all, pass_all, free_all, look_at}
use Rattle.deadpool_c.proofs.Steps.{get, get_in, sets, lands_as, ‵, raw, ◌⊛◌, ◌$◌, ◌∵◌, !, qed, done, keep, drop, use1}
use Rattle.deadpool_c.proofs.Steps.{split, join, fsplit, fjoin, suffices, whole, sub, agg, enter, of_opd, fld, stop}
use Rattle.deadpool_c.proofs.Steps.{no_more, and_then, returns, says_two, proved_at}
use Rattle.deadpool_c.proofs.{BoxCalls.opened, BoxCalls.opens, ManagedBox.S, ManagedBox.L, ManagedBox.AsPassed}
use Rattle.deadpool_c.proofs.{ManagedBox.lasting, ManagedBox.dropping, ManagedBox.let_go, Unboxed.owned, Unboxed.parts}
use Rattle.deadpool_c.proofs.{Unboxed.parts_sound, Unboxed.begins, Unboxed.boxes}
use Rattle.deadpool_c.proofs.managed_block.ManagedPool.of as walk
use Rattle.deadpool_c.specs.contracts.managed_block.ManagedPool as Block

abbrev stayed : Stays Block.of.ended.signature.params Block.of.ended.kept
stayed = (stay_dropped AsPassed yes, tt)

pub of_spec : {M : Type 1} → walk.Statement.statement M
of_spec 𝓤 𝓛 𝓜 𝓡 wired =
    let c = Block.of.clauses 𝓛 𝓜.mem 𝓡.returns in
    let 𝓣 = tables 𝓤 𝓛.H 𝓜 𝓡 𝓡.env in
    let known = opened S L 𝓤 𝓛 𝓜 𝓡 (walk.Code.calls-std_heap::GlobalAllocator::allocate 𝓡.env wired)
    (walk.Code.calls-std_heap::GlobalAllocator::deallocate 𝓡.env wired)
    (walk.Code.calls-std_heap::GlobalAllocator::grow 𝓡.env wired)
    (walk.Code.calls-std_heap::GlobalAllocator::shrink 𝓡.env wired)
    (walk.Code.calls-deadpool_c::Destruct++none::drop 𝓡.env wired)
    dropping
    (let_go 𝓤 𝓛 𝓜 𝓡 (walk.Code.calls-deadpool_c::deadpool_c++managed_state++ManagedState+Destruct::drop 𝓡.env wired))
    (walk.Code.calls-std_alloc::boxed::Box::into_raw_with_allocator 𝓡.env wired) in
    proved_at 𝓛 Block.of.ended stayed c 𝓜 𝓡 (
      Goes-dropped 𝓛 0 AsPassed yes (λ κs x w. refl),
      tt,
    ) Block.of.Key.name walk.Code.function (walk.Code.unfolded 𝓤 𝓛.H 𝓜 𝓡 wired) (λ y are.
    let box = y.0.3.0 in
    qed 𝓛 ((‵ ftrue ⊛ ‵ (fsep (owned S L box y.0.4.0) ftrue)) ∷ raw (emp 𝓤) ∷ []) ∵ split ! $ drop ! $ fsplit ! $ keep
    ! (0 ∷ []) $
    begins S L ! 𝓣.C 𝓣.Λ walk.Code.function _ box y.0.4.0 (λ k same sound.
    enter ! _ _ _ _ _ $ alloc_all ! (λ l. pass_all ! refl (parts_sound S L k sound, tt) $
    sets ! (of_opd ! (get ! refl)) refl (parts_sound S L k sound) $
    opens S L lasting 𝓜.mem 𝓡.returns ! (framed 𝓤 𝓛.H 𝓜 𝓣) dropping known k (and_then ! (get ! refl) (no_more !))
    (λ u j is its fits.
    lands_as ! is refl (parts_sound S L j fits) $
    -- the pointer, the handle, and the pointer as one to bytes
    sets ! (of_opd ! (get_in ! (fld ! refl (stop !)) (sub ! 0 refl (whole !)))) refl (tt, tt) $
    sets ! (of_opd ! (get_in ! (fld ! refl (stop !)) (sub ! 1 refl (whole !)))) refl fits $
    sets ! (of_opd ! (get ! refl)) refl (tt, tt) $
    sets ! (agg ! (and_then ! (get ! refl) (and_then ! (get ! refl) (no_more !)))) refl (parts_sound S L j fits) $
    returns ! (look_at ! 0 refl) $ free_all ! refl $ keep ! (0 ∷ []) $
    let pool : Block.the_row.Denot = record { at = block_ptr j.block j.offset; alloc = j.alloc; state = j.value } in
    boxes S L ! j $ use1 𝓛 (‵ (Block.the_row.own_val pool (parts S L j ∷ []))) (id⊢ 𝓤 _) $
    suffices ! _ (ends_at 𝓛 Block.of.ended stayed c y (parts S L j) pool (tt, tt) (tt, tt)) $ says_two
    ! (tt, its ∙ same) $
    nothing ! $ nothing ! $ fjoin ! $ join ! $ nothing ! $ join ! $ done !))))
