-- A new page goes to a caller that another one lets in.
use Rattle.deadpool_chronicle.proofs.Steps.{◌≡◌, ℕ, ◌+◌, List, [], ◌∷◌, refl, a_type, dcons, dnil, named, Val, vptr}
use Rattle.deadpool_chronicle.proofs.Steps.{inst_fn, SProp, via, Fml, ftrue, fsep, flft, ‵, raw, ◌⊛◌, some, given}
use Rattle.deadpool_chronicle.proofs.Steps.{later, ◌$◌, ◌∵◌, !, qed, by, move, keep, split, split3, fsplit, fsplit3}
use Rattle.deadpool_chronicle.proofs.Steps.{fjoin, fjoin3, pick, learn, use0, use2, await, feq_i, basic, no_more}
use Rattle.deadpool_chronicle.proofs.Steps.{and_then, returns, enter, alloc_all, pass_all, free_all, look_at, get, sets}
use Rattle.deadpool_chronicle.proofs.Steps.{agg, tables, RattleType, owns, types_at, plain, mut_vals, mut_Tells}
use Rattle.deadpool_chronicle.proofs.Steps.{nothing, opens, closes, param, bounded, Tuple, Stays, stay_ref, walk_of}
use Rattle.deadpool_chronicle.proofs.Steps.{Goes-ref, proved, token, Token, token_made, ends, tell, tell_last}
use Rattle.deadpool_chronicle.specs.History.{calls_by}
use Rattle.deadpool_chronicle.specs.Owned.{author_owns, page_owns}
use Rattle.deadpool_chronicle.specs.contracts.author.Author as Author
use Rattle.deadpool_chronicle.specs.contracts.page.Page as Page
use Rattle.deadpool_chronicle.proofs.Changes.{admits}
use Rattle.deadpool_chronicle.specs.contracts.author.Author.admit_page.{ended, clauses}
use Rattle.deadpool_chronicle.specs.contracts.author.Author.admit_page.Key.{name as #self}
use Rattle.deadpool_chronicle.proofs.author.Author.admit_page.Statement.{statement}
use Rattle.deadpool_chronicle.proofs.author.Author.admit_page.Code as code

pub admit_page_spec : {M : Type 1} → statement M
admit_page_spec 𝓤 𝓛 𝓜 𝓡 wired E N _ _ g d _ =
    let H = 𝓛.H in let 𝓣 = tables 𝓤 H 𝓜 𝓡 𝓡.env in
    let E' : RattleType = param 0 E in let N' : RattleType = param 1 N in let all : RattleType = Tuple (E' ∷ N' ∷ []) in
    let of = E'.coded in
    let inst = bounded (a_type ∷ a_type ∷ []) (E, (N, tt)) (dcons d dnil) in let fn = inst_fn inst code.function in
    let En = ended E N g d in let c = clauses E N g d 𝓛 𝓜.mem 𝓡.returns in let A = Author.the_row E' N' g in let P =
    Page.the_row E' N' g in
    let hs : Stays En.signature.params En.kept =
    (stay_ref (0 ∷ []) tt (plain (λ _. A)), (stay_ref (1 ∷ []) tt (plain (λ _. P)), tt)) in
    proved 𝓛 En hs c 𝓜 𝓡 (Goes-ref 𝓛 4 0 tt (plain (λ _. A)), (Goes-ref 𝓛 4 1 tt (plain (λ _. P)), tt)) (#self inst) fn
    (code.unfolded 𝓤 H 𝓜 𝓡 wired (E, (N, tt)) d) (λ κs. (mut_vals, (mut_vals, tt)))
    (λ κs. (mut_Tells (named 0) κs.0 A, (mut_Tells (named 1) κs.1.0 P, tt)))
    (λ κs qs bounds a gh are.
    let me = a.0.now in let b = a.0.ref_ptr.0 in let o = a.0.ref_ptr.1 in let it = a.1.0.now in let b₁ =
    a.1.0.ref_ptr.0 in let o₁ = a.1.0.ref_ptr.1 in
    let me' : A.Denot = record { marker = record {}; log = me.log } in
    let it' : P.Denot = record { marker = record {}; number = it.number; mine = it.mine; admitted = it.admitted + 1 } in
    let y : (walk_of 𝓛 En hs c).Ghost = ((κs, qs, bounds, a, (vptr b o ∷ [], (vptr b₁ o₁ ∷ [], tt))), gh) in
    let Post : Val → SProp 𝓤 = (walk_of 𝓛 En hs c).post y in
    let alive : Fml = fsep (flft κs.0 qs.0)
    (fsep (flft κs.1.0 qs.1.0) (fsep (flft κs.1.1.0 qs.1.1.0) (fsep (flft κs.1.1.1.0 qs.1.1.1.0) ftrue))) in
    qed 𝓛 ((‵ alive ⊛ ‵ (owns (types_at En.signature.params κs) a y.0.4)) ∷ raw ((c κs a).requires gh) ∷ []) ∵ keep
    ! (0 ∷ []) $ split ! $
    fsplit ! $ move ! (1 ∷ []) $ fsplit ! $ move ! (3 ∷ []) $ fsplit ! $ fsplit3 ! $ move ! (3 ∷ []) $ fsplit
    ! $ fsplit3 ! $ keep ! (5 ∷ 6 ∷ 9 ∷ 1 ∷ 2 ∷ 7 ∷ 8 ∷ []) $
    enter ! 𝓣.C 𝓣.Λ fn (vptr b o ∷ vptr b₁ o₁ ∷ []) Post $ alloc_all
    ! (λ l. pass_all ! refl ((tt, tt), ((tt, tt), tt)) $
    opens ! tt A b o
    (λ ts. move ! (5 ∷ 6 ∷ 7 ∷ []) $ opens
    ! tt P b₁ o₁ (λ us. move ! (1 ∷ []) $ fsplit ! $ move ! (7 ∷ []) $ fsplit ! $ move ! (1 ∷ 3 ∷ []) $
    use2 𝓛 (later (some (λ (k : ℕ). given (calls_by k me.log ≡ [])
    (‵ (author_owns of g.names me.log) ⊛ ‵ (page_owns of g.names it.number it.mine (it.admitted + 1))
    ⊛ ‵ (page_owns of g.names k [] 0)))))
    (via 𝓤 _ (admits 𝓛 of g.names me.log it.number it.mine it.admitted) (basic 𝓛 _)) $ await ! tt $ pick
    ! (λ k. learn ! (λ fresh. split3 ! $
    let r : P.Denot = record { marker = record {}; number = k; mine = []; admitted = 0 } in
    move ! (3 ∷ 0 ∷ []) $ fjoin ! $ move ! (3 ∷ 1 ∷ []) $ fjoin ! $
    move ! (3 ∷ 0 ∷ 4 ∷ 5 ∷ 6 ∷ []) $ closes ! tt P it' us b₁ o₁ $ move ! (5 ∷ 3 ∷ 6 ∷ 7 ∷ 8 ∷ []) $ closes
    ! tt A me' ts b o $
    move ! (6 ∷ []) $ use0 𝓛 (‵ ((Token all).own_val (record {}, tt) (token ∷ []))) (token_made all 𝓛) $ fjoin ! $
    sets ! (agg ! (no_more !)) refl (tt, tt) $ sets ! (agg ! (and_then ! (get ! refl) (no_more !))) refl (tt, (tt, tt))
    $
    move ! (6 ∷ 7 ∷ []) $ fjoin ! $ move ! (4 ∷ 0 ∷ []) $ fjoin ! $
    feq_i ! (List Val) (vptr b₁ o₁ ∷ []) (vptr b₁ o₁ ∷ []) refl $ move ! (0 ∷ 5 ∷ 6 ∷ []) $ fjoin3 ! $ nothing ! $ move
    ! (1 ∷ 0 ∷ []) $ fjoin ! $
    feq_i ! (List Val) (vptr b o ∷ []) (vptr b o ∷ []) refl $ move ! (0 ∷ 4 ∷ 5 ∷ []) $ fjoin3 ! $ fjoin ! $
    returns ! (look_at ! 0 refl) $ free_all ! refl $ keep ! (1 ∷ 0 ∷ 2 ∷ []) $
    by ! (ends 𝓛 En hs c y token r (me', (it', tt)) (tt, (tt, tt))
    (tell 𝓤 refl (tell 𝓤 refl (tell 𝓤 refl (tell 𝓤 refl (tell 𝓤 refl (tell 𝓤 refl (tell_last 𝓤 fresh))))))))))))))
