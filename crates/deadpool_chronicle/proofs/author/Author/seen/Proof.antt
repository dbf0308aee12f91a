-- The author shows the history so far.
use Rattle.deadpool_chronicle.proofs.Steps.{ℕ, List, [], ◌∷◌, refl, a_type, dcons, dnil, named, Val, vptr, inst_fn}
use Rattle.deadpool_chronicle.proofs.Steps.{SProp, Fml, ftrue, fsep, flft, ‵, raw, ◌⊛◌, ◌$◌, ◌∵◌, !, qed, by, move}
use Rattle.deadpool_chronicle.proofs.Steps.{keep, split, fsplit, fsplit3, fjoin, fjoin3, use0, use1, feq_i, no_more}
use Rattle.deadpool_chronicle.proofs.Steps.{and_then, returns, enter, alloc_all, pass_all, free_all, look_at, get, sets}
use Rattle.deadpool_chronicle.proofs.Steps.{agg, tables, RattleType, owns, types_at, plain, mut_vals, mut_Tells}
use Rattle.deadpool_chronicle.proofs.Steps.{nothing, opens, closes, param, bounded, Tuple, Stays, stay_ref, walk_of}
use Rattle.deadpool_chronicle.proofs.Steps.{Goes-ref, proved, token, Token, token_made, ends, tell, tell_last}
use Rattle.deadpool_chronicle.specs.Owned.{author_owns, beginning_owns}
use Rattle.deadpool_chronicle.specs.contracts.author.Author as Author
use Rattle.deadpool_chronicle.specs.contracts.beginning.Beginning as Beginning
use Rattle.deadpool_chronicle.proofs.Changes.{shows}
use Rattle.deadpool_chronicle.specs.contracts.author.Author.seen.{ended, clauses}
use Rattle.deadpool_chronicle.specs.contracts.author.Author.seen.Key.{name as #self}
use Rattle.deadpool_chronicle.proofs.author.Author.seen.Statement.{statement}
use Rattle.deadpool_chronicle.proofs.author.Author.seen.Code as code

pub seen_spec : {M : Type 1} → statement M
seen_spec 𝓤 𝓛 𝓜 𝓡 wired E N _ _ g d _ =
    let H = 𝓛.H in let 𝓣 = tables 𝓤 H 𝓜 𝓡 𝓡.env in
    let E' : RattleType = param 0 E in let N' : RattleType = param 1 N in let all : RattleType = Tuple (E' ∷ N' ∷ []) in
    let of = E'.coded in
    let inst = bounded (a_type ∷ a_type ∷ []) (E, (N, tt)) (dcons d dnil) in let fn = inst_fn inst code.function in
    let En = ended E N g d in let c = clauses E N g d 𝓛 𝓜.mem 𝓡.returns in let A = Author.the_row E' N' g in
    let hs : Stays En.signature.params En.kept = (stay_ref (0 ∷ []) tt (plain (λ _. A)), tt) in
    proved 𝓛 En hs c 𝓜 𝓡 (
      Goes-ref 𝓛 3 0 tt (plain (λ _. A)),
      tt,
    ) (#self inst) fn (code.unfolded 𝓤 H 𝓜 𝓡 wired (E, (N, tt)) d)
    (λ κs. (mut_vals, tt)) (λ κs. (mut_Tells (named 0) κs.0 A, tt)) (λ κs qs bounds a gh are.
    let b : ℕ = a.0.ref_ptr.0 in let o : ℕ = a.0.ref_ptr.1 in let me = a.0.now in
    let me' : A.Denot = record { marker = record {}; log = me.log } in let r : (Beginning.the_row E' N' g).Denot =
    record { marker = record {}; log = me.log } in
    let y : (walk_of 𝓛 En hs c).Ghost = ((κs, qs, bounds, a, (vptr b o ∷ [], tt)), gh) in let Post : Val → SProp 𝓤 =
    (walk_of 𝓛 En hs c).post y in
    let alive : Fml = fsep (flft κs.0 qs.0) (fsep (flft κs.1.0 qs.1.0) (fsep (flft κs.1.1.0 qs.1.1.0) ftrue)) in
    qed 𝓛 ((‵ alive ⊛ ‵ (owns (types_at En.signature.params κs) a y.0.4)) ∷ raw ((c κs a).requires gh) ∷ []) ∵ keep
    ! (0 ∷ []) $ split ! $
    fsplit ! $ move ! (2 ∷ []) $ fsplit ! $ fsplit3 ! $ keep ! (1 ∷ 2 ∷ 4 ∷ 5 ∷ []) $
    enter ! 𝓣.C 𝓣.Λ fn (vptr b o ∷ []) Post $ alloc_all ! (λ l. pass_all ! refl ((tt, tt), tt) $
    opens ! tt A b o (λ ts. move ! (1 ∷ []) $ fsplit ! $ move ! (1 ∷ []) $
    use1 𝓛 (‵ (author_owns of g.names me.log) ⊛ ‵ (beginning_owns of g.names me.log)) (shows 𝓛 of g.names me.log)
    $ split ! $
    move ! (2 ∷ 0 ∷ []) $ fjoin ! $ move ! (2 ∷ 0 ∷ 3 ∷ 4 ∷ 5 ∷ []) $ closes ! tt A me' ts b o $
    move ! (3 ∷ []) $ use0 𝓛 (‵ ((Token all).own_val (record {}, tt) (token ∷ []))) (token_made all 𝓛) $ fjoin ! $
    sets ! (agg ! (no_more !)) refl (tt, tt) $ sets ! (agg ! (and_then ! (get ! refl) (no_more !))) refl (tt, (tt, tt))
    $
    move ! (3 ∷ 4 ∷ []) $ fjoin ! $ nothing ! $ feq_i ! (List Val) (vptr b o ∷ []) (vptr b o ∷ []) refl $ move
    ! (0 ∷ 4 ∷ 5 ∷ []) $ fjoin3 ! $ fjoin ! $
    returns ! (look_at ! 0 refl) $ free_all ! refl $ keep ! (1 ∷ 0 ∷ 2 ∷ []) $
    by ! (ends 𝓛 En hs c y token r (me', tt) (tt, tt) (tell 𝓤 refl (tell_last 𝓤 refl))))))
