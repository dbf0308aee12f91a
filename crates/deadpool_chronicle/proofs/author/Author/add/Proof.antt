-- The history and its caller's page grow by one entry, which is one of those that say what was asked and replied.
use Rattle.deadpool_chronicle.proofs.Steps.{List, [], ◌∷◌, ◌++◌, refl, a_type, dcons, dnil, named, Val, vunit, vptr}
use Rattle.deadpool_chronicle.proofs.Steps.{inst_fn, SProp, via, Fml, ftrue, fsep, flft, ‵, raw, ◌⊛◌, given, later, ◌$◌}
use Rattle.deadpool_chronicle.proofs.Steps.{◌∵◌, !, qed, by, move, keep, drop, split, fsplit, fsplit3, fjoin, fjoin3}
use Rattle.deadpool_chronicle.proofs.Steps.{learn, use2, await, feq_i, basic, unit_lit, of_opd, returns, enter}
use Rattle.deadpool_chronicle.proofs.Steps.{alloc_all, pass_all, free_all, look_at, sets, fact, tables, yes, RattleType}
use Rattle.deadpool_chronicle.proofs.Steps.{owns, types_at, plain, RefOf, mut_vals, mut_Tells, shr_vals, shr_Tells}
use Rattle.deadpool_chronicle.proofs.Steps.{nothing, opens, closes, param, bounded, Stays, stay_dropped, stay_ref}
use Rattle.deadpool_chronicle.proofs.Steps.{walk_of, Goes-dropped, Goes-ref, proved, ends, tell, tell_last}
use Rattle.deadpool_chronicle.specs.History.{Adds}
use Rattle.deadpool_chronicle.specs.Owned.{author_owns, page_owns}
use Rattle.deadpool_chronicle.specs.contracts.author.Author as Author
use Rattle.deadpool_chronicle.specs.contracts.page.Page as Page
use Rattle.deadpool_chronicle.proofs.Changes.{IsNoted, notes}
use Rattle.deadpool_chronicle.specs.contracts.author.Author.add.{ended, clauses}
use Rattle.deadpool_chronicle.specs.contracts.author.Author.add.Key.{name as #self}
use Rattle.deadpool_chronicle.proofs.author.Author.add.Statement.{statement}
use Rattle.deadpool_chronicle.proofs.author.Author.add.Code as code

pub add_spec : {M : Type 1} → statement M
add_spec 𝓤 𝓛 𝓜 𝓡 wired E N X R Y _ _ _ _ _ g d gs ds _ _ =
    let H = 𝓛.H in let 𝓣 = tables 𝓤 H 𝓜 𝓡 𝓡.env in
    let E' : RattleType = param 0 E in let N' : RattleType = param 1 N in let X' : RattleType = param 2 X in
    let R' : RattleType = param 3 R in let of = E'.coded in
    let inst = bounded (a_type ∷ a_type ∷ a_type ∷ a_type ∷ a_type ∷ []) (
      E,
      (N, (X, (R, (Y, tt)))),
    ) (dcons d (dcons ds dnil)) in let fn = inst_fn inst code.function in
    let En = ended E N X R Y g d gs ds in let c = clauses E N X R Y g d gs ds 𝓛 𝓜.mem 𝓡.returns in let A =
    Author.the_row E' N' g in let P = Page.the_row E' N' g in
    let Asked = RefOf (2 ∷ []) tt (plain (λ _. X')) (λ _. tt) in let Replied =
    RefOf (3 ∷ []) tt (plain (λ _. R')) (λ _. tt) in
    let hs : Stays En.signature.params En.kept = (
      stay_ref (0 ∷ []) tt (plain (λ _. A)),
      (stay_ref (1 ∷ []) tt (plain (λ _. P)), (stay_dropped Asked yes, (stay_dropped Replied yes, tt))),
    ) in
    proved 𝓛 En hs c 𝓜 𝓡 (
      Goes-ref 𝓛 9 0 tt (plain (λ _. A)),
      (
        Goes-ref 𝓛 9 1 tt (plain (λ _. P)),
        (Goes-dropped 𝓛 9 Asked yes (λ κs x f. refl), (Goes-dropped 𝓛 9 Replied yes (λ κs x f. refl), tt)),
      ),
    ) (#self inst) fn
    (code.unfolded 𝓤 H 𝓜 𝓡 wired (E, (N, (X, (R, (Y, tt))))) d ds)
    (λ κs. (mut_vals, (mut_vals, (shr_vals, (shr_vals, tt)))))
    (λ κs. (
      mut_Tells (named 0) κs.0 A,
      (mut_Tells (named 1) κs.1.0 P, (shr_Tells (named 2) κs.1.1.0 X', (shr_Tells (named 3) κs.1.1.1.0 R', tt))),
    ))
    (λ κs qs bounds a gh are.
    let me = a.0.now in let b = a.0.ref_ptr.0 in let o = a.0.ref_ptr.1 in let it = a.1.0.now in let b₁ =
    a.1.0.ref_ptr.0 in let o₁ = a.1.0.ref_ptr.1 in
    let b₂ = a.1.1.0.ref_ptr.0 in let o₂ = a.1.1.0.ref_ptr.1 in let b₃ = a.1.1.1.0.ref_ptr.0 in let o₃ =
    a.1.1.1.0.ref_ptr.1 in
    let y : (walk_of 𝓛 En hs c).Ghost =
    ((κs, qs, bounds, a, (vptr b o ∷ [], (vptr b₁ o₁ ∷ [], (vptr b₂ o₂ ∷ [], (vptr b₃ o₃ ∷ [], tt))))), gh) in
    let Post : Val → SProp 𝓤 = (walk_of 𝓛 En hs c).post y in
    let alive : Fml =
    fsep (flft κs.0 qs.0) (fsep (flft κs.1.0 qs.1.0) (fsep (flft κs.1.1.0 qs.1.1.0) (fsep (flft κs.1.1.1.0 qs.1.1.1.0)
    (fsep (flft κs.1.1.1.1.0 qs.1.1.1.1.0)
    (fsep (flft κs.1.1.1.1.1.0 qs.1.1.1.1.1.0) (fsep (flft κs.1.1.1.1.1.1.0 qs.1.1.1.1.1.1.0)
    (fsep (flft κs.1.1.1.1.1.1.1.0 qs.1.1.1.1.1.1.1.0)
    (fsep (flft κs.1.1.1.1.1.1.1.1.0 qs.1.1.1.1.1.1.1.1.0) ftrue)))))))) in
    qed 𝓛 ((‵ alive ⊛ ‵ (owns (types_at En.signature.params κs) a y.0.4)) ∷ raw (fact 𝓤 _) ∷ raw (fact 𝓤 _)
    ∷ raw (fact 𝓤 _) ∷ raw (fact 𝓤 _) ∷ raw (fact 𝓤 _) ∷ given _ (‵ ftrue) ∷ []) ∵
    keep ! (6 ∷ 0 ∷ []) $ learn ! (λ says. drop ! $ split ! $
    let e = says.0 in let me' : A.Denot = record { marker = record {}; log = me.log ++ (it.number, e) ∷ [] } in
    let it' : P.Denot =
    record { marker = record {}; number = it.number; mine = it.mine ++ e ∷ []; admitted = it.admitted } in
    let added : Adds (gs.entry a.1.1.0.now a.1.1.1.0.now me.log) me.log it.number it.mine me'.log it'.mine =
    (e, (says.1, refl, refl)) in
    fsplit ! $ move ! (1 ∷ []) $ fsplit ! $ move ! (3 ∷ []) $ fsplit ! $ fsplit3 ! $ move ! (3 ∷ []) $ fsplit
    ! $ fsplit3 ! $ keep ! (5 ∷ 6 ∷ 9 ∷ 1 ∷ 2 ∷ 7 ∷ 8 ∷ []) $
    enter ! 𝓣.C 𝓣.Λ fn (vptr b o ∷ vptr b₁ o₁ ∷ vptr b₂ o₂ ∷ vptr b₃ o₃ ∷ []) Post $ alloc_all
    ! (λ l. pass_all ! refl ((tt, tt), ((tt, tt), ((tt, tt), ((tt, tt), tt)))) $
    opens ! tt A b o
    (λ ts. move ! (5 ∷ 6 ∷ 7 ∷ []) $ opens
    ! tt P b₁ o₁ (λ us. move ! (1 ∷ []) $ fsplit ! $ move ! (7 ∷ []) $ fsplit ! $ move ! (1 ∷ 3 ∷ []) $
    use2 𝓛
    (later (given (IsNoted 𝓛 of g.names it.number it.mine e me.log)
    (‵ (author_owns of g.names me'.log) ⊛ ‵ (page_owns of g.names it.number it'.mine it.admitted))))
    (via 𝓤 _ (notes 𝓛 of g.names me.log it.number it.mine it.admitted e) (basic 𝓛 _)) $ await ! tt $ learn
    ! (λ noted. split ! $
    move ! (2 ∷ 0 ∷ []) $ fjoin ! $ move ! (2 ∷ 1 ∷ []) $ fjoin ! $
    move ! (2 ∷ 0 ∷ 3 ∷ 4 ∷ 5 ∷ []) $ closes ! tt P it' us b₁ o₁ $ move ! (4 ∷ 3 ∷ 5 ∷ 6 ∷ 7 ∷ []) $ closes
    ! tt A me' ts b o $
    sets ! (of_opd ! (unit_lit !)) refl (tt, tt) $ feq_i ! (List Val) (vunit ∷ []) (vunit ∷ []) refl $ move
    ! (6 ∷ 7 ∷ []) $ fjoin ! $ move ! (4 ∷ 0 ∷ []) $ fjoin ! $
    feq_i ! (List Val) (vptr b₁ o₁ ∷ []) (vptr b₁ o₁ ∷ []) refl $ move ! (0 ∷ 5 ∷ 6 ∷ []) $ fjoin3 ! $
    nothing ! $ nothing ! $ fjoin ! $ nothing ! $ fjoin ! $ move ! (1 ∷ 0 ∷ []) $ fjoin ! $
    feq_i ! (List Val) (vptr b o ∷ []) (vptr b o ∷ []) refl $ move ! (0 ∷ 4 ∷ 5 ∷ []) $ fjoin3 ! $ fjoin ! $
    returns ! (look_at ! 0 refl) $ free_all ! refl $ keep ! (1 ∷ 0 ∷ 2 ∷ []) $
    by ! (ends 𝓛 En hs c y vunit tt (me', (it', (tt, (tt, tt)))) (tt, (tt, (tt, (tt, tt))))
    (tell 𝓤 added (tell 𝓤 refl (tell 𝓤 refl (tell 𝓤 noted.0 (tell_last 𝓤 noted.1))))))))))))
