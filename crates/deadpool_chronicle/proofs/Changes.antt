-- What each function does to what its tokens own. Assumes `Logic`.
use Rattle.std.proofs.Common.{◌≡◌, ℕ, ◌+◌, List, [], ◌∷◌, ◌++◌, map, length, set, ap, ◌∙◌, arith}
use Rattle.std.proofs.Math.ListN.{get_or-eq_default}
use mathlib.Core.List.{IsPrefix}
use seplogic.Ra.Ura.{Ura}
use base.Fraction.{full_share}
use base.Stored.{Gv, Coded, coded_ℕ, coded×, coded_list}
use base.Logic.{SProp, ent, sep, ex, guard, upd, emp, via, upd_i}
use base.Fml.{Fml, ftrue}
use base.Growing.{latest}
use types.Logic.{Logic, sem}
use types.Owned.{basic}
use types.Keyed.{entries_new}
use types.Growing.{latest_new, latest_grows, latest_shows, latest_bounds, at_least_dup}
use types.Kit.{‵, raw, ◌⊛◌, some, given, later, ◌$◌, ◌∵◌, !, qed, move, drop, split, split3, join, fsplit3, fjoin}
use types.Kit.{fjoin3, fpick, fpack, pick, learn, check, done, use0, use1, use2, show, suffices, settle, updating}
use types.Kit.{await, now}
use denote.Steps.{nothing}
use Rattle.logbook.proofs.Roster.{prefix_out, prefix_in}
use Rattle.deadpool_chronicle.proofs.Agreement.{agree-note, agree-count, agree-admit, agree-none, calls_by-own}
use Rattle.deadpool_chronicle.proofs.Roster.{Stands, Turned, turns, More, adds}
use Rattle.deadpool_chronicle.specs.History.{calls_by}
use Rattle.deadpool_chronicle.specs.Names.{Names}
use Rattle.deadpool_chronicle.specs.Owned.{growing, paper, nothing_written, unused_from, Agree, roster, blank_owns}
use Rattle.deadpool_chronicle.specs.Owned.{entry_code, page_code, keeps, author_owns, beginning_owns, page_owns}

abbrev Page : Type 0 → Type 0
Page E = List E × ℕ

module _ {M : Type 1} {𝓤 : Ura M} (𝓛 : Logic 𝓤) where
  open 𝓛 use {H}

  abbrev ⟦◌⟧ : Fml → SProp 𝓤
  ⟦ P ⟧ = sem 𝓛 P

  abbrev ◌∗◌ : SProp 𝓤 → SProp 𝓤 → SProp 𝓤
  P ∗ Q = sep 𝓤 P Q

  abbrev ◌⊢◌ : SProp 𝓤 → SProp 𝓤 → Type 1
  P ⊢ Q = ent 𝓤 P Q

  infix 26 ◌⊢◌
  infixr 35 ◌∗◌
  pub begins : emp 𝓤 ⊢ H.⇛ (ex 𝓤 (λ (n : Names). ⟦ blank_owns n ⟧))
  begins =
      qed 𝓛 [] ∵ updating ! $
      use0 𝓛 (later (some (λ (γ : ℕ). ‵ (latest growing full_share γ []))))
      (via 𝓤 _ (latest_new growing 𝓛 []) (basic 𝓛 _)) $ await ! tt $ pick ! (λ γ.
      use0 𝓛 (later (some (λ (δ : ℕ). ‵ (unused_from δ 0))))
      (via 𝓤 _ (entries_new paper 𝓛 0 (λ _. (full_share, nothing_written))) (basic 𝓛 _)) $ await ! tt $ pick ! (λ δ.
      now ! $ show ! (λ (n : Names). ⟦ blank_owns n ⟧) (record { entries = γ; pages = δ }) $ move ! (1 ∷ 0 ∷ []) $ fjoin
      ! $ done !))

  module _ {E : Type 0} (of : Coded E) (n : Names) where
    abbrev empty : Page E
    empty = ([], 0)

    abbrev entries : Page E → List E
    entries page = page.0

    abbrev code : Page E → Gv
    code = page_code of

    same_page : (x y : Page E) → code x ≡ code y → x ≡ y
    same_page = (coded× (coded_list of) coded_ℕ).inj

    abbrev whole : List (ℕ × E) → Fml
    whole log = latest growing full_share n.entries (map (entry_code of) log)

    abbrev all_pages : List (Page E) → Fml
    all_pages pages = roster code n.pages 0 pages

    abbrev StandsAt : List (Page E) → ℕ → Page E → Type 0
    StandsAt pages i page = Stands 𝓛 n.pages code same_page empty pages i page

    -- pages that agree with the history are what its author has
    kept : (log : List (ℕ × E)) (pages : List (Page E)) → Agree log pages
        → ⟦ whole log ⟧ ∗ ⟦ all_pages pages ⟧ ⊢ ⟦ author_owns of n log ⟧
    kept log pages agree =
        qed 𝓛 (‵ (whole log) ∷ ‵ (all_pages pages) ∷ []) ∵ nothing ! $ fpack ! (Agree log pages) (λ _. ftrue) agree
        $ fjoin3 ! $
        fpack ! (List (Page E)) (keeps of n log) pages $ done !

    pub opened : ⟦ blank_owns n ⟧ ⊢ upd 𝓤 (⟦ author_owns of n [] ⟧ ∗ ⟦ page_owns of n 0 [] 0 ⟧)
    opened =
        let G : SProp 𝓤 = ⟦ author_owns of n [] ⟧ ∗ ⟦ page_owns of n 0 [] 0 ⟧ in
        qed 𝓛 (‵ (whole []) ∷ ‵ (all_pages []) ∷ []) ∵ move ! (1 ∷ []) $
        use1 𝓛 (raw (upd 𝓤 (More 𝓛 n.pages code same_page empty 0 [] 0 empty)))
        (adds 𝓛 n.pages code same_page empty [] 0 0 empty (omega arith)) $
        settle 𝓛 G (‵ (all_pages (empty ∷ [])) ⊛ ‵ (page_owns of n 0 [] 0)) $ split ! $ move ! (2 ∷ 0 ∷ []) $ suffices
        ! G (upd_i 𝓤 G) $
        use2 𝓛 (‵ (author_owns of n [])) (kept [] (empty ∷ []) agree-none) $ join ! $ done !

    -- the author's pages, one of which is written anew, with what was known of them
    abbrev Turning : List (ℕ × E) → ℕ → Page E → Page E → List (Page E) → SProp 𝓤
    Turning log i was page pages =
        guard 𝓤 (Agree log pages × StandsAt pages i was)
        (⟦ whole log ⟧ ∗ (⟦ all_pages (set pages i page) ⟧ ∗ ⟦ page_owns of n i page.0 page.1 ⟧))

    turning : (log : List (ℕ × E)) (i : ℕ) (was page : Page E)
        → ⟦ author_owns of n log ⟧ ∗ ⟦ page_owns of n i was.0 was.1 ⟧ ⊢ upd 𝓤 (ex 𝓤 (Turning log i was page))
    turning log i was page =
        let G : SProp 𝓤 = ex 𝓤 (Turning log i was page) in
        qed 𝓛 (‵ (author_owns of n log) ∷ ‵ (page_owns of n i was.0 was.1) ∷ []) ∵ fpick
        ! (λ pages. fsplit3 ! $ fpick ! (λ agree. drop ! $ move ! (1 ∷ 2 ∷ []) $
        use2 𝓛 (raw (upd 𝓤 (Turned 𝓛 n.pages code same_page empty 0 pages i i was page)))
        (turns 𝓛 n.pages code same_page empty pages 0 i i was page (omega arith)) $
        settle 𝓛 G (given (StandsAt pages i was)
        (‵ (all_pages (set pages i page)) ⊛ ‵ (page_owns of n i page.0 page.1))) $ learn ! (λ stands. split ! $
        suffices ! G (upd_i 𝓤 G) $ show ! (Turning log i was page) pages $ check ! (agree, stands) $ join ! $ move
        ! (1 ∷ 0 ∷ []) $ join ! $ done !)))

    abbrev pub IsNoted : ℕ → List E → E → List (ℕ × E) → Type 0
    IsNoted i mine e log = (calls_by i log ≡ mine) × (calls_by i (log ++ (i, e) ∷ []) ≡ mine ++ e ∷ [])

    pub notes : (log : List (ℕ × E)) (i : ℕ) (mine : List E) (m : ℕ) (e : E)
        → ⟦ author_owns of n log ⟧ ∗ ⟦ page_owns of n i mine m ⟧
        ⊢ upd 𝓤 (guard 𝓤 (IsNoted i mine e log)
        (⟦ author_owns of n (log ++ (i, e) ∷ []) ⟧ ∗ ⟦ page_owns of n i (mine ++ e ∷ []) m ⟧))
    notes log i mine m e =
        let log' = log ++ (i, e) ∷ [] in let page : Page E = (mine ++ e ∷ [], m) in
        let G : SProp 𝓤 = guard 𝓤 (IsNoted i mine e log) (⟦ author_owns of n log' ⟧ ∗ ⟦ page_owns of n i page.0 m ⟧) in
        qed 𝓛 (‵ (author_owns of n log) ∷ ‵ (page_owns of n i mine m) ∷ []) ∵
        use2 𝓛 (raw (upd 𝓤 (ex 𝓤 (Turning log i (mine, m) page)))) (turning log i (mine, m) page) $
        settle 𝓛 G
        (some
        (λ (pages : List (Page E)). given (Agree log pages × StandsAt pages i (mine, m))
        (‵ (whole log) ⊛ ‵ (all_pages (set pages i page)) ⊛ ‵ (page_owns of n i page.0 m)))) $
        pick ! (λ pages. learn ! (λ know. split3 ! $
        use1 𝓛 (raw (upd 𝓤 ⟦ whole log' ⟧))
        (latest_grows growing 𝓛 n.entries (map (entry_code of) log) (map (entry_code of) log')
        (prefix_in (coded× coded_ℕ of) log ((i, e) ∷ []))) $ settle 𝓛 G (‵ (whole log')) $
        let has : calls_by i log ≡ mine = know.0 i ∙ ap entries know.1.1 in
        suffices ! G (upd_i 𝓤 G) $ check ! (has, calls_by-own i log e ∙ ap (λ (ys : List E). ys ++ e ∷ []) has) $
        use2 𝓛 (‵ (author_owns of n log'))
        (kept log' (set pages i page) (agree-note log pages i mine m e know.0 know.1.0 know.1.1)) $ join ! $ done !))

    pub audits : (log : List (ℕ × E)) (i : ℕ) (mine : List E) (m : ℕ)
        → ⟦ author_owns of n log ⟧ ∗ ⟦ page_owns of n i mine m ⟧
        ⊢ upd 𝓤 (guard 𝓤 (calls_by i log ≡ mine) (⟦ author_owns of n log ⟧ ∗ ⟦ page_owns of n i mine m ⟧))
    audits log i mine m =
        let G : SProp 𝓤 = guard 𝓤 (calls_by i log ≡ mine) (⟦ author_owns of n log ⟧ ∗ ⟦ page_owns of n i mine m ⟧) in
        qed 𝓛 (‵ (author_owns of n log) ∷ ‵ (page_owns of n i mine m) ∷ []) ∵
        use2 𝓛 (raw (upd 𝓤 (ex 𝓤 (Turning log i (mine, m) (mine, m))))) (turning log i (mine, m) (mine, m)) $
        settle 𝓛 G
        (some
        (λ (pages : List (Page E)). given (Agree log pages × StandsAt pages i (mine, m))
        (‵ (whole log) ⊛ ‵ (all_pages (set pages i (mine, m))) ⊛ ‵ (page_owns of n i mine m)))) $
        pick
        ! (λ pages. learn ! (λ know. split3 ! $ suffices ! G (upd_i 𝓤 G) $ check ! (know.0 i ∙ ap entries know.1.1) $
        use2 𝓛 (‵ (author_owns of n log))
        (kept log (set pages i (mine, m)) (agree-count log pages i mine m m know.0 know.1.0 know.1.1)) $ join
        ! $ done !))

    abbrev Admitted : List (ℕ × E) → ℕ → List E → ℕ → ℕ → SProp 𝓤
    Admitted log i mine m k =
        guard 𝓤 (calls_by k log ≡ [])
        (⟦ author_owns of n log ⟧ ∗ (⟦ page_owns of n i mine (m + 1) ⟧ ∗ ⟦ page_owns of n k [] 0 ⟧))

    -- the first unused page, of which the history has nothing, goes to the new caller
    pub admits : (log : List (ℕ × E)) (i : ℕ) (mine : List E) (m : ℕ)
        → ⟦ author_owns of n log ⟧ ∗ ⟦ page_owns of n i mine m ⟧ ⊢ upd 𝓤 (ex 𝓤 (Admitted log i mine m))
    admits log i mine m =
        let G : SProp 𝓤 = ex 𝓤 (Admitted log i mine m) in
        qed 𝓛 (‵ (author_owns of n log) ∷ ‵ (page_owns of n i mine m) ∷ []) ∵
        use2 𝓛 (raw (upd 𝓤 (ex 𝓤 (Turning log i (mine, m) (mine, m + 1))))) (turning log i (mine, m) (mine, m + 1)) $
        settle 𝓛 G
        (some
        (λ (pages : List (Page E)). given (Agree log pages × StandsAt pages i (mine, m))
        (‵ (whole log) ⊛ ‵ (all_pages (set pages i (mine, m + 1))) ⊛ ‵ (page_owns of n i mine (m + 1))))) $
        pick ! (λ pages. learn ! (λ know. split3 ! $ move ! (1 ∷ []) $
        let counted = set pages i (mine, m + 1) in let k : ℕ = length counted in
        let agree : Agree log counted = agree-count log pages i mine m (m + 1) know.0 know.1.0 know.1.1 in
        use1 𝓛 (raw (upd 𝓤 (More 𝓛 n.pages code same_page empty 0 counted k empty)))
        (adds 𝓛 n.pages code same_page empty counted 0 k empty (omega arith)) $
        settle 𝓛 G (‵ (all_pages (counted ++ empty ∷ [])) ⊛ ‵ (page_owns of n k [] 0)) $ split ! $ suffices
        ! G (upd_i 𝓤 G) $
        show ! (Admitted log i mine m) k $ check
        ! (agree k ∙ ap entries (get_or-eq_default counted empty {n = k} (omega arith))) $ move ! (2 ∷ 0 ∷ []) $
        use2 𝓛 (‵ (author_owns of n log)) (kept log (counted ++ empty ∷ []) (agree-admit log counted agree)) $
        move ! (2 ∷ 1 ∷ []) $ join ! $ move ! (1 ∷ 0 ∷ []) $ join ! $ done !))

    pub shows : (log : List (ℕ × E)) → ⟦ author_owns of n log ⟧ ⊢ ⟦ author_owns of n log ⟧ ∗ ⟦ beginning_owns of n log ⟧
    shows log =
        let xs = map (entry_code of) log in
        qed 𝓛 (‵ (author_owns of n log) ∷ []) ∵ fpick ! (λ pages. fsplit3 ! $ fpick ! (λ agree. drop ! $
        use1 𝓛 (‵ (whole log) ⊛ ‵ (beginning_owns of n log))
        (latest_shows growing 𝓛 full_share n.entries xs xs (base.Growing.prefix_refl xs)) $ split ! $ move
        ! (0 ∷ 2 ∷ []) $
        use2 𝓛 (‵ (author_owns of n log)) (kept log pages agree) $ join ! $ done !))

    pub bounds : (log seen : List (ℕ × E)) → ⟦ author_owns of n log ⟧ ∗ ⟦ beginning_owns of n seen ⟧
        ⊢ guard 𝓤 (IsPrefix seen log) (⟦ author_owns of n log ⟧ ∗ ⟦ beginning_owns of n seen ⟧)
    bounds log seen =
        let xs = map (entry_code of) log in let ys = map (entry_code of) seen in
        qed 𝓛 (‵ (author_owns of n log) ∷ ‵ (beginning_owns of n seen) ∷ []) ∵ fpick
        ! (λ pages. fsplit3 ! $ fpick ! (λ agree. drop ! $ move ! (0 ∷ 2 ∷ []) $
        use2 𝓛 (given (IsPrefix ys xs) (‵ (whole log) ⊛ ‵ (beginning_owns of n seen)))
        (latest_bounds growing 𝓛 full_share n.entries xs ys) $
        learn ! (λ begins. check ! (prefix_out (coded× coded_ℕ of) seen log begins) $ split ! $ move ! (0 ∷ 2 ∷ []) $
        use2 𝓛 (‵ (author_owns of n log)) (kept log pages agree) $ join ! $ done !)))

    pub twice : (log : List (ℕ × E))
        → ⟦ beginning_owns of n log ⟧ ⊢ ⟦ beginning_owns of n log ⟧ ∗ ⟦ beginning_owns of n log ⟧
    twice log = at_least_dup growing 𝓛 n.entries (map (entry_code of) log)
