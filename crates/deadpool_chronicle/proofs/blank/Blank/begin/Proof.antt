-- The history is opened under its names, with its first page.
use Rattle.deadpool_chronicle.proofs.Steps.{List, [], ◌∷◌, ◌++◌, refl, a_type, dcons, dnil, Val, vstruct, vcons, vnil}
use Rattle.deadpool_chronicle.proofs.Steps.{of_list, inst_fn, SProp, via, Fml, ftrue, fsep, feq, flft, ‵, raw, ◌⊛◌}
use Rattle.deadpool_chronicle.proofs.Steps.{given, later, ◌$◌, ◌∵◌, !, qed, by, move, keep, drop, split, fsplit, fjoin}
use Rattle.deadpool_chronicle.proofs.Steps.{fjoin3, fpack, learn, use0, use1, await, rewrite, feq_i, basic, no_more}
use Rattle.deadpool_chronicle.proofs.Steps.{and_then, returns, enter, alloc_all, pass_all, free_all, look_at, get, sets}
use Rattle.deadpool_chronicle.proofs.Steps.{agg, fact, tables, yes, RattleType, owns, Valss, types_at, plain, unit}
use Rattle.deadpool_chronicle.proofs.Steps.{nothing, param, bounded, Tuple, Stays, stay_dropped, walk_of, Goes-dropped}
use Rattle.deadpool_chronicle.proofs.Steps.{proved, token, Token, token_told, token_made, ends, tell, tell_last}
use Rattle.deadpool_chronicle.specs.Names.{Names}
use Rattle.deadpool_chronicle.specs.Owned.{blank_owns, author_owns, page_owns}
use Rattle.deadpool_chronicle.specs.contracts.blank.Blank as Blank
use Rattle.deadpool_chronicle.specs.contracts.author.Author as Author
use Rattle.deadpool_chronicle.specs.contracts.page.Page as Page
use Rattle.deadpool_chronicle.proofs.Changes.{opened}
use Rattle.deadpool_chronicle.specs.contracts.blank.Blank.begin.{ended, clauses}
use Rattle.deadpool_chronicle.specs.contracts.blank.Blank.begin.Key.{name as #self}
use Rattle.deadpool_chronicle.proofs.blank.Blank.begin.Statement.{statement}
use Rattle.deadpool_chronicle.proofs.blank.Blank.begin.Code as code

pub begin_spec : {M : Type 1} → statement M
begin_spec 𝓤 𝓛 𝓜 𝓡 wired E N _ _ g d _ =
    let H = 𝓛.H in let 𝓣 = tables 𝓤 H 𝓜 𝓡 𝓡.env in
    let E' : RattleType = param 0 E in let N' : RattleType = param 1 N in let all : RattleType = Tuple (E' ∷ N' ∷ []) in
    let of = E'.coded in
    let inst = bounded (a_type ∷ a_type ∷ []) (E, (N, tt)) (dcons d dnil) in let fn = inst_fn inst code.function in
    let En = ended E N g d in let c = clauses E N g d 𝓛 𝓜.mem 𝓡.returns in
    let hs : Stays En.signature.params En.kept = (stay_dropped (plain (λ _. Blank.the_row)) yes, tt) in
    proved 𝓛 En hs c 𝓜 𝓡 (
      Goes-dropped 𝓛 2 (plain (λ _. Blank.the_row)) yes (λ κs x f. refl),
      tt,
    ) (#self inst) fn (code.unfolded 𝓤 H 𝓜 𝓡 wired (E, (N, tt)) d)
    (λ κs. ((λ x. token ∷ []), tt)) (λ κs. ((λ x vs is. token_told unit vs is.0), tt)) (λ κs qs bounds a gh are.
    let y : (walk_of 𝓛 En hs c).Ghost = ((κs, qs, bounds, a, (token ∷ [], tt)), gh) in let Post : Val → SProp 𝓤 =
    (walk_of 𝓛 En hs c).post y in
    let alive : Fml = fsep (flft κs.0 qs.0) (fsep (flft κs.1.0 qs.1.0) ftrue) in
    let r : (Author.the_row E' N' g).Denot = record { marker = record {}; log = [] } in
    let p : (Page.the_row E' N' g).Denot = record { marker = record {}; number = 0; mine = []; admitted = 0 } in
    let v : Val = vstruct (vcons token (vcons token vnil)) in let Rs : List RattleType =
    Author.the_row E' N' g ∷ Page.the_row E' N' g ∷ [] in
    qed 𝓛 ((‵ alive ⊛ ‵ (owns (types_at En.signature.params κs) a y.0.4)) ∷ raw (fact 𝓤 _) ∷ raw (fact 𝓤 _)
    ∷ given _ (‵ ftrue) ∷ []) ∵
    keep ! (3 ∷ 0 ∷ []) $ learn ! (λ asked. drop ! $ split ! $
    move ! (1 ∷ []) $ fsplit ! $ fsplit ! $ keep ! (1 ∷ 3 ∷ []) $ rewrite
    ! 0 (λ (n : Names). ‵ (blank_owns n)) asked refl $
    enter ! 𝓣.C 𝓣.Λ fn (token ∷ []) Post $ alloc_all ! (λ l. pass_all ! refl ((tt, (tt, tt)), tt) $
    use1 𝓛 (later (‵ (author_owns of g.names []) ⊛ ‵ (page_owns of g.names 0 [] 0)))
    (via 𝓤 _ (opened 𝓛 of g.names) (basic 𝓛 _)) $ await ! tt $ split ! $
    sets ! (agg ! (no_more !)) refl (tt, tt) $ sets ! (agg ! (and_then ! (get ! refl) (no_more !))) refl (tt, (tt, tt))
    $
    sets ! (agg ! (no_more !)) refl (tt, tt) $ sets ! (agg ! (and_then ! (get ! refl) (no_more !))) refl (tt, (tt, tt))
    $
    sets ! (agg ! (and_then ! (get ! refl) (and_then ! (get ! refl) (no_more !)))) refl (tt, ((tt, tt), ((tt, tt), tt)))
    $
    use0 𝓛 (‵ ((Token all).own_val (record {}, tt) (token ∷ []))) (token_made all 𝓛) $ fjoin ! $ move ! (1 ∷ []) $
    use0 𝓛 (‵ ((Token all).own_val (record {}, tt) (token ∷ []))) (token_made all 𝓛) $ fjoin ! $ nothing ! $ move
    ! (2 ∷ 1 ∷ 0 ∷ []) $ fjoin3 ! $
    feq_i ! (List Val) (v ∷ []) (v ∷ []) refl $ fjoin ! $
    fpack ! (Valss Rs)
    (λ vss. fsep (feq (List Val) (v ∷ []) (vstruct (of_list (vss.0 ++ (vss.1.0 ++ []))) ∷ []))
    (owns Rs (r, (p, tt)) vss)) (token ∷ [], (token ∷ [], tt)) $
    nothing ! $ nothing ! $ fjoin ! $
    returns ! (look_at ! 0 refl) $ free_all ! refl $ keep ! (2 ∷ 0 ∷ 1 ∷ []) $
    by ! (ends 𝓛 En hs c y v (r, p) (tt, tt) (tt, tt) (tell 𝓤 refl (tell 𝓤 refl (tell 𝓤 refl (tell_last 𝓤 refl))))))))
