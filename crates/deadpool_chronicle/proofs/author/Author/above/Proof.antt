-- What was seen is a beginning of what the author has.
use Rattle.core.specs.contracts.marker.PhantomData as marker
use Rattle.deadpool_chronicle.proofs.Steps.{List, [], ◌∷◌, refl, IsPrefix, a_type, dcons, dnil, named, Val, vunit, vptr}
use Rattle.deadpool_chronicle.proofs.Steps.{inst_fn, SProp, Fml, ftrue, fsep, flft, fhide, ‵, raw, ◌⊛◌, given, ◌$◌, ◌∵◌}
use Rattle.deadpool_chronicle.proofs.Steps.{ !, qed, by, move, keep, drop, split, fsplit, fsplit3, fjoin, fjoin3, learn}
use Rattle.deadpool_chronicle.proofs.Steps.{use1, use2, feq_i, unit_lit, of_opd, returns, enter, alloc_all, pass_all}
use Rattle.deadpool_chronicle.proofs.Steps.{free_all, look_at, sets, tables, yes, RattleType, owns, types_at, plain}
use Rattle.deadpool_chronicle.proofs.Steps.{RefOf, mut_vals, mut_Tells, shr_vals, shr_Tells, hidden_shr, unhide}
use Rattle.deadpool_chronicle.proofs.Steps.{nothing, opens, closes, param, bounded, Tuple, lent_out, Stays}
use Rattle.deadpool_chronicle.proofs.Steps.{stay_dropped, stay_ref, walk_of, Goes-dropped, Goes-ref, proved, Token}
use Rattle.deadpool_chronicle.proofs.Steps.{ends, tell, tell_last}
use Rattle.deadpool_chronicle.specs.Owned.{author_owns, beginning_owns}
use Rattle.deadpool_chronicle.specs.contracts.author.Author as Author
use Rattle.deadpool_chronicle.specs.contracts.beginning.Beginning as Beginning
use Rattle.deadpool_chronicle.proofs.Changes as changes
use Rattle.deadpool_chronicle.specs.contracts.author.Author.above.{ended, clauses}
use Rattle.deadpool_chronicle.specs.contracts.author.Author.above.Key.{name as #self}
use Rattle.deadpool_chronicle.proofs.author.Author.above.Statement.{statement}
use Rattle.deadpool_chronicle.proofs.author.Author.above.Code as code

pub above_spec : {M : Type 1} → statement M
above_spec 𝓤 𝓛 𝓜 𝓡 wired E N _ _ g d _ =
    let H = 𝓛.H in let 𝓣 = tables 𝓤 H 𝓜 𝓡 𝓡.env in
    let E' : RattleType = param 0 E in let N' : RattleType = param 1 N in let all : RattleType = Tuple (E' ∷ N' ∷ []) in
    let of = E'.coded in
    let inst = bounded (a_type ∷ a_type ∷ []) (E, (N, tt)) (dcons d dnil) in let fn = inst_fn inst code.function in
    let En = ended E N g d in let c = clauses E N g d 𝓛 𝓜.mem 𝓡.returns in let A = Author.the_row E' N' g in let B =
    Beginning.the_row E' N' g in
    let Shown = RefOf (1 ∷ []) tt (plain (λ _. B)) (λ _. tt) in
    let hs : Stays En.signature.params En.kept =
    (stay_ref (0 ∷ []) tt (plain (λ _. A)), (stay_dropped Shown yes, tt)) in
    proved 𝓛 En hs c 𝓜 𝓡 (
      Goes-ref 𝓛 4 0 tt (plain (λ _. A)),
      (Goes-dropped 𝓛 4 Shown yes (λ κs x f. refl), tt),
    ) (#self inst) fn
    (code.unfolded 𝓤 H 𝓜 𝓡 wired (E, (N, tt)) d) (λ κs. (mut_vals, (shr_vals, tt)))
    (λ κs. (mut_Tells (named 0) κs.0 A, (shr_Tells (named 1) κs.1.0 B, tt)))
    (λ κs qs bounds a gh are.
    let me = a.0.now in let b = a.0.ref_ptr.0 in let o = a.0.ref_ptr.1 in let it = a.1.0.now in let b₁ =
    a.1.0.ref_ptr.0 in let o₁ = a.1.0.ref_ptr.1 in
    let me' : A.Denot = record { marker = record {}; log = me.log } in
    let y : (walk_of 𝓛 En hs c).Ghost = ((κs, qs, bounds, a, (vptr b o ∷ [], (vptr b₁ o₁ ∷ [], tt))), gh) in
    let Post : Val → SProp 𝓤 = (walk_of 𝓛 En hs c).post y in
    let alive : Fml = fsep (flft κs.0 qs.0)
    (fsep (flft κs.1.0 qs.1.0) (fsep (flft κs.1.1.0 qs.1.1.0) (fsep (flft κs.1.1.1.0 qs.1.1.1.0) ftrue))) in
    qed 𝓛 ((‵ alive ⊛ ‵ (owns (types_at En.signature.params κs) a y.0.4)) ∷ raw ((c κs a).requires gh) ∷ []) ∵ keep
    ! (0 ∷ []) $ split ! $
    fsplit ! $ move ! (1 ∷ []) $ fsplit ! $ move ! (3 ∷ []) $ fsplit ! $ fsplit3 ! $ move ! (3 ∷ []) $ fsplit ! $ fsplit
    ! $ keep ! (1 ∷ 4 ∷ 5 ∷ 6 ∷ 7 ∷ 8 ∷ []) $
    enter ! 𝓣.C 𝓣.Λ fn (vptr b o ∷ vptr b₁ o₁ ∷ []) Post $ alloc_all
    ! (λ l. pass_all ! refl ((tt, tt), ((tt, tt), tt)) $
    use1 𝓛 (‵ (hidden_shr (Token all) κs.1.0 (record {}, tt) b₁ o₁) ⊛ ‵ (fhide (beginning_owns of g.names it.log)))
    (lent_out 𝓛 (Beginning.struct E' N' g)
    (Beginning.the_codes E.Denot N.Denot E'.coded N'.coded (marker.the_row all).coded) (Beginning.the_heap E' N' g)
    (Beginning.the_lent E' N' g) κs.1.0 it b₁ o₁) $
    split ! $ drop ! $ unhide ! $ move ! (1 ∷ 2 ∷ 5 ∷ []) $ opens
    ! tt A b o (λ ts. move ! (1 ∷ []) $ fsplit ! $ move ! (1 ∷ 6 ∷ []) $
    use2 𝓛 (given (IsPrefix it.log me.log) (‵ (author_owns of g.names me.log) ⊛ ‵ (beginning_owns of g.names it.log)))
    (changes.bounds 𝓛 of g.names me.log it.log) $
    learn ! (λ begins. split ! $ move ! (1 ∷ []) $ drop ! $ move ! (1 ∷ 0 ∷ []) $ fjoin ! $ move
    ! (1 ∷ 0 ∷ 2 ∷ 3 ∷ 4 ∷ []) $ closes ! tt A me' ts b o $
    sets ! (of_opd ! (unit_lit !)) refl (tt, tt) $ feq_i ! (List Val) (vunit ∷ []) (vunit ∷ []) refl $
    move ! (4 ∷ 5 ∷ []) $ fjoin ! $ move ! (4 ∷ 0 ∷ []) $ fjoin ! $ nothing ! $ nothing ! $ fjoin ! $
    feq_i ! (List Val) (vptr b o ∷ []) (vptr b o ∷ []) refl $ move ! (0 ∷ 4 ∷ 5 ∷ []) $ fjoin3 ! $ fjoin ! $
    returns ! (look_at ! 0 refl) $ free_all ! refl $ keep ! (1 ∷ 0 ∷ 2 ∷ []) $
    by ! (ends 𝓛 En hs c y vunit tt (me', (tt, tt)) (tt, (tt, tt)) (tell 𝓤 refl (tell_last 𝓤 begins)))))))
