-- A beginning is a fact, which can be had twice.
use Rattle.core.specs.contracts.marker.PhantomData as marker
use Rattle.deadpool_chronicle.proofs.Steps.{[], ◌∷◌, refl, a_type, dcons, dnil, named, Val, vptr, inst_fn, SProp, Fml}
use Rattle.deadpool_chronicle.proofs.Steps.{ftrue, fsep, flft, fhide, ‵, raw, ◌⊛◌, ◌$◌, ◌∵◌, !, qed, by, move, keep}
use Rattle.deadpool_chronicle.proofs.Steps.{drop, split, fsplit, fjoin, use0, use1, no_more, and_then, returns, enter}
use Rattle.deadpool_chronicle.proofs.Steps.{alloc_all, pass_all, free_all, look_at, get, sets, agg, tables, yes}
use Rattle.deadpool_chronicle.proofs.Steps.{RattleType, owns, types_at, plain, RefOf, shr_vals, shr_Tells, hidden_shr}
use Rattle.deadpool_chronicle.proofs.Steps.{unhide, nothing, param, bounded, Tuple, lent_out, Stays, stay_dropped}
use Rattle.deadpool_chronicle.proofs.Steps.{walk_of, Goes-dropped, proved, token, Token, token_made, ends, tell_last}
use Rattle.deadpool_chronicle.specs.Owned.{beginning_owns}
use Rattle.deadpool_chronicle.specs.contracts.beginning.Beginning as Beginning
use Rattle.deadpool_chronicle.specs.contracts.beginning.Beginning.again.{ended, clauses}
use Rattle.deadpool_chronicle.specs.contracts.beginning.Beginning.again.Key.{name as #self}
use Rattle.deadpool_chronicle.proofs.beginning.Beginning.again.Statement.{statement}
use Rattle.deadpool_chronicle.proofs.beginning.Beginning.again.Code as code

pub again_spec : {M : Type 1} → statement M
again_spec 𝓤 𝓛 𝓜 𝓡 wired E N _ _ g d _ =
    let H = 𝓛.H in let 𝓣 = tables 𝓤 H 𝓜 𝓡 𝓡.env in
    let E' : RattleType = param 0 E in let N' : RattleType = param 1 N in let all : RattleType = Tuple (E' ∷ N' ∷ []) in
    let of = E'.coded in
    let inst = bounded (a_type ∷ a_type ∷ []) (E, (N, tt)) (dcons d dnil) in let fn = inst_fn inst code.function in
    let En = ended E N g d in let c = clauses E N g d 𝓛 𝓜.mem 𝓡.returns in
    let Self = RefOf (0 ∷ []) tt (plain (λ _. Beginning.the_row E' N' g)) (λ _. tt) in
    let hs : Stays En.signature.params En.kept = (stay_dropped Self yes, tt) in
    proved 𝓛 En hs c 𝓜 𝓡 (
      Goes-dropped 𝓛 3 Self yes (λ κs x f. refl),
      tt,
    ) (#self inst) fn (code.unfolded 𝓤 H 𝓜 𝓡 wired (E, (N, tt)) d)
    (λ κs. (shr_vals, tt)) (λ κs. (shr_Tells (named 0) κs.0 (Beginning.the_row E' N' g), tt)) (λ κs qs bounds a gh are.
    let me = a.0.now in let b = a.0.ref_ptr.0 in let o = a.0.ref_ptr.1 in
    let y : (walk_of 𝓛 En hs c).Ghost = ((κs, qs, bounds, a, (vptr b o ∷ [], tt)), gh) in let Post : Val → SProp 𝓤 =
    (walk_of 𝓛 En hs c).post y in
    let alive : Fml = fsep (flft κs.0 qs.0) (fsep (flft κs.1.0 qs.1.0) (fsep (flft κs.1.1.0 qs.1.1.0) ftrue)) in
    qed 𝓛 ((‵ alive ⊛ ‵ (owns (types_at En.signature.params κs) a y.0.4)) ∷ raw ((c κs a).requires gh) ∷ []) ∵ keep
    ! (0 ∷ []) $ split ! $
    fsplit ! $ move ! (2 ∷ []) $ fsplit ! $ fsplit ! $ keep ! (1 ∷ 3 ∷ 4 ∷ []) $
    enter ! 𝓣.C 𝓣.Λ fn (vptr b o ∷ []) Post $ alloc_all ! (λ l. pass_all ! refl ((tt, tt), tt) $
    use1 𝓛 (‵ (hidden_shr (Token all) κs.0 (record {}, tt) b o) ⊛ ‵ (fhide (beginning_owns of g.names me.log)))
    (lent_out 𝓛 (Beginning.struct E' N' g)
    (Beginning.the_codes E.Denot N.Denot E'.coded N'.coded (marker.the_row all).coded) (Beginning.the_heap E' N' g)
    (Beginning.the_lent E' N' g) κs.0 me b o) $
    split ! $ drop ! $ unhide ! $ use0 𝓛 (‵ ((Token all).own_val (record {}, tt) (token ∷ []))) (token_made all 𝓛)
    $ fjoin ! $
    sets ! (agg ! (no_more !)) refl (tt, tt) $ sets ! (agg ! (and_then ! (get ! refl) (no_more !))) refl (tt, (tt, tt))
    $
    move ! (1 ∷ 2 ∷ []) $ fjoin ! $ nothing ! $ nothing ! $ fjoin ! $
    returns ! (look_at ! 0 refl) $ free_all ! refl $ keep ! (1 ∷ 0 ∷ 2 ∷ []) $
    by ! (ends 𝓛 En hs c y token (record { marker = record {}; log = me.log }) (tt, tt) (tt, tt) (tell_last 𝓤 refl))))
