-- A caller's page is in its own hands by three quarters, and in the roster of all by a quarter. Assumes `Logic`.
use Rattle.std.proofs.Common.{◌≡◌, ℕ, zero, suc, ◌+◌, ◌<◌, List, [], ◌∷◌, ◌++◌, length, set, get_or, sym, refl, subst}
use Rattle.std.proofs.Common.{arith}
use mathlib.Core.Path.{Path}
use mathlib.Mathlib.Data.Part.{◌∈◌}
use seplogic.Ra.Pcs.{OpDef, OpDef-comm}
use seplogic.Ra.Ura.{Ura}
use seplogic.Ra.Constructions.Prod
use seplogic.Ra.Instances.Ag
use base.Fraction.{full_share}
use base.Share.{quarter, three_quarters}
use base.FractionLaws.{not-OpDef-full_share}
use base.Share
use base.Stored.{Gv}
use base.SetCodes.{coded, SetCoded-set}
use base.Algebras.{pcs, shares}
use base.Logic.{SProp, ent, sep, ex, guard, upd, via, ex_e, guard_e, guard_i, upd_i, upd_mono}
use base.Fml.{Share, Fml}
use types.Logic.{Logic, sem}
use types.Keyed.{entry, entries_take, entries_beside, entry_cut, entry_glue, entry_set}
use types.Kit.{‵, raw, ◌⊛◌, given, ◌$◌, ◌∵◌, !, qed, move, split, join, learn, check, done, use1, use2, suffices}
use types.Kit.{settle, rewrite}
use Rattle.deadpool_chronicle.specs.Owned.{codes, paper, part_of, nothing_written, roster}

module _ {M : Type 1} {𝓤 : Ura M} (𝓛 : Logic 𝓤) (pages : ℕ) where
  abbrev ⟦◌⟧ : Fml → SProp 𝓤
  ⟦ P ⟧ = sem 𝓛 P

  abbrev ◌∗◌ : SProp 𝓤 → SProp 𝓤 → SProp 𝓤
  P ∗ Q = sep 𝓤 P Q

  abbrev ◌⊢◌ : SProp 𝓤 → SProp 𝓤 → Type 1
  P ⊢ Q = ent 𝓤 P Q

  infix 26 ◌⊢◌
  infixr 35 ◌∗◌
  abbrev rostered : ℕ → Gv → Fml
  rostered k v = part_of pages k quarter v

  abbrev held : ℕ → Gv → Fml
  held k v = part_of pages k three_quarters v

  parts_make_whole : (v : Gv) → ◌∈◌ {α = Share × Gv} (full_share, v) (paper.op (quarter, v) (three_quarters, v))
  parts_make_whole v =
      Prod.mk-mem-op Share.op (Ag.op (SetCoded-set (coded codes))) {a = quarter} {a' = three_quarters} {x = full_share}
      {b = v} {b' = v} {y = v}
      Share.quarters (Ag.idem (SetCoded-set (coded codes)) v)

  -- a whole page is written anew, and cut in two
  written_anew : (k : ℕ) (v u : Gv) → ⟦ part_of pages k full_share v ⟧ ⊢ upd 𝓤 (⟦ rostered k u ⟧ ∗ ⟦ held k u ⟧)
  written_anew k v u =
      let Is : Share × Gv → Type 0 = λ x. Path (Share × Gv) x (full_share, u) in
      let F : Share × Gv → SProp 𝓤 = λ x. guard 𝓤 (Is x) ⟦ entry paper pages k x ⟧ in
      let Z : SProp 𝓤 = ⟦ rostered k u ⟧ ∗ ⟦ held k u ⟧ in
      via 𝓤 (upd 𝓤 (ex 𝓤 F))
      (entry_set paper 𝓛 pages k (full_share, v) Is
      ∣ ((full_share, u), refl) ∣₁ (λ f d. absurd (not-OpDef-full_share f.0 d.0)))
      (upd_mono 𝓤 {P = ex 𝓤 F} {Q = Z} (ex_e 𝓤 F (λ x. guard_e 𝓤 (Is x) ⟦ entry paper pages k x ⟧ (λ is.
      subst (λ (y : Share × Gv). ⟦ entry paper pages k y ⟧ ⊢ Z) (sym is)
      (entry_cut paper 𝓛 pages k (quarter, u) (three_quarters, u) (full_share, u) (parts_make_whole u))))))

  -- both parts say the same
  parts_agree : (k : ℕ) (w v : Gv) → ⟦ rostered k w ⟧ ∗ ⟦ held k v ⟧ ⊢ guard 𝓤 (w ≡ v) ⟦ part_of pages k full_share w ⟧
  parts_agree k w v =
      let Joins : Share × Gv → Type 0 = λ x. x ∈ paper.op (quarter, w) (three_quarters, v) in
      let F : Share × Gv → SProp 𝓤 = λ x. guard 𝓤 (Joins x) ⟦ entry paper pages k x ⟧ in
      let Z : SProp 𝓤 = guard 𝓤 (w ≡ v) ⟦ part_of pages k full_share w ⟧ in
      via 𝓤 (ex 𝓤 F) (entry_glue paper 𝓛 pages k (quarter, w) (three_quarters, v))
      (ex_e 𝓤 F (λ x. guard_e 𝓤 (Joins x) ⟦ entry paper pages k x ⟧ (λ joins.
      subst (λ (y : Share × Gv). ⟦ entry paper pages k y ⟧ ⊢ Z) joins.1
      (guard_i 𝓤 (w ≡ v) ⟦ part_of pages k full_share w ⟧ joins.0.1))))

  module _ {X : Type 0} (code : X → Gv) (injective : (x y : X) → code x ≡ code y → x ≡ y) (d : X) where
    abbrev pub Stands : List X → ℕ → X → Type 0
    Stands xs i x = (i < length xs) × (get_or xs i d ≡ x)

    abbrev pub Turned : ℕ → List X → ℕ → ℕ → X → X → SProp 𝓤
    Turned k xs i j x y = guard 𝓤 (Stands xs i x) (⟦ roster code pages k (set xs i y) ⟧ ∗ ⟦ held j (code y) ⟧)

    -- who holds a page finds it in the roster, and writes both parts anew
    pub turns : (xs : List X) (k i j : ℕ) (x y : X) → j ≡ k + i
        → ⟦ roster code pages k xs ⟧ ∗ ⟦ held j (code x) ⟧ ⊢ upd 𝓤 (Turned k xs i j x y)
    turns [] k i j x y is =
        qed 𝓛 (‵ (roster code pages k []) ∷ ‵ (held j (code x)) ∷ []) ∵ move ! (1 ∷ 0 ∷ []) $
        use2 𝓛 (given (OpDef paper.op (three_quarters, code x) (full_share, nothing_written))
        (‵ (held j (code x)) ⊛ ‵ (roster code pages k [])))
        (entries_beside paper 𝓛 pages k j (λ _. (full_share, nothing_written)) (three_quarters, code x) (omega arith)) $
        learn
        ! (λ both.
        absurd (not-OpDef-full_share three_quarters
        ((OpDef-comm (pcs shares) {a = three_quarters} {b = full_share}).0 both.0)))
    turns (z ∷ xs) k zero j x y is =
        let here : j ≡ k = omega arith in let G : SProp 𝓤 = Turned k (z ∷ xs) zero j x y in
        qed 𝓛 ((‵ (rostered k (code z)) ⊛ ‵ (roster code pages (suc k) xs)) ∷ ‵ (held j (code x)) ∷ []) ∵ split ! $
        rewrite ! 2 (λ (m : ℕ). ‵ (held m (code x))) here refl $ move ! (0 ∷ 2 ∷ []) $
        use2 𝓛 (given (code z ≡ code x) (‵ (part_of pages k full_share (code z)))) (parts_agree k (code z) (code x))
        $ learn ! (λ same.
        use1 𝓛 (raw (upd 𝓤 (⟦ rostered k (code y) ⟧ ∗ ⟦ held k (code y) ⟧))) (written_anew k (code z) (code y)) $
        settle 𝓛 G (‵ (rostered k (code y)) ⊛ ‵ (held k (code y))) $ split ! $
        suffices ! G (upd_i 𝓤 G) $ check ! (
          (let first : zero < suc (length xs) = omega arith in first),
          injective z x same,
        ) $
        rewrite ! 1 (λ (m : ℕ). ‵ (held m (code y))) (sym here) refl $ move ! (0 ∷ 2 ∷ []) $ join ! $ done !)
    turns (z ∷ xs) k (suc i) j x y is =
        let G : SProp 𝓤 = Turned k (z ∷ xs) (suc i) j x y in
        qed 𝓛 ((‵ (rostered k (code z)) ⊛ ‵ (roster code pages (suc k) xs)) ∷ ‵ (held j (code x)) ∷ []) ∵ split ! $ move
        ! (1 ∷ 2 ∷ []) $
        use2 𝓛 (raw (upd 𝓤 (Turned (suc k) xs i j x y))) (turns xs (suc k) i j x y (omega arith)) $
        settle 𝓛 G (given (Stands xs i x) (‵ (roster code pages (suc k) (set xs i y)) ⊛ ‵ (held j (code y)))) $ learn
        ! (λ stands.
        let less : i < length xs = stands.0 in split ! $
        suffices ! G (upd_i 𝓤 G) $ check ! ((let more : suc i < suc (length xs) = omega arith in more), stands.1) $ move
        ! (2 ∷ 0 ∷ []) $ join ! $ done !)

    abbrev pub More : ℕ → List X → ℕ → X → SProp 𝓤
    More k xs j y = ⟦ roster code pages k (xs ++ y ∷ []) ⟧ ∗ ⟦ held j (code y) ⟧

    -- the first unused page is given to a caller
    pub adds : (xs : List X) (k j : ℕ) (y : X) → j ≡ k + length xs → ⟦ roster code pages k xs ⟧ ⊢ upd 𝓤 (More k xs j y)
    adds [] k j y is =
        let here : k ≡ j = omega arith in let G : SProp 𝓤 = More k [] j y in
        qed 𝓛 (‵ (roster code pages k []) ∷ []) ∵
        use1 𝓛 (‵ (part_of pages k full_share nothing_written) ⊛ ‵ (roster code pages (suc k) []))
        (entries_take paper 𝓛 pages k (λ _. (full_share, nothing_written))) $ split ! $
        use1 𝓛 (raw (upd 𝓤 (⟦ rostered k (code y) ⟧ ∗ ⟦ held k (code y) ⟧))) (written_anew k nothing_written (code y)) $
        settle 𝓛 G (‵ (rostered k (code y)) ⊛ ‵ (held k (code y))) $ split ! $ suffices ! G (upd_i 𝓤 G) $
        rewrite ! 1 (λ (m : ℕ). ‵ (held m (code y))) here refl $ move ! (0 ∷ 2 ∷ []) $ join ! $ done !
    adds (z ∷ xs) k j y is =
        let G : SProp 𝓤 = More k (z ∷ xs) j y in
        qed 𝓛 (‵ (rostered k (code z)) ∷ ‵ (roster code pages (suc k) xs) ∷ []) ∵ move ! (1 ∷ []) $
        use1 𝓛 (raw (upd 𝓤 (More (suc k) xs j y))) (adds xs (suc k) j y (omega arith)) $
        settle 𝓛 G (‵ (roster code pages (suc k) (xs ++ y ∷ [])) ⊛ ‵ (held j (code y))) $ split ! $
        suffices ! G (upd_i 𝓤 G) $ move ! (2 ∷ 0 ∷ []) $ join ! $ done !
