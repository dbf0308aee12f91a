-- The two calls between a box and its parts, as steps of a walk that has the parts as an `Unboxed`, at an S that has
-- no lifetime in it.
--     opens, opened      `into_raw_with_allocator`: a box is passed as its parts, and parts are returned
--     closes, closed     `from_raw`: the parts are passed, and a box is returned
--     lets_go            the `drop` of an S, as a call is handed it that may let an S go
use Rattle.deadpool_c.proofs.Steps.{◌≡◌, refl, sym, ap, subst, ◌∙◌, List, [], ◌∷◌, Ura, full_share, Fml, ftrue, fsep}
use Rattle.deadpool_c.proofs.Steps.{flft, SProp, ent, sep, emp, via, id⊢, ◌⊑◌, ⊑_static, Fun, fact, fact_i, fm→mono}
use Rattle.deadpool_c.proofs.Steps.{Running, tables, unit, yes, Last, left, bounded, GlueMet, glue_signature}
use Rattle.deadpool_c.proofs.Steps.{glue_spent, Laws, RattleType, Ptr, RawPtr, block_ptr, plain, heard, nothing, only}
use Rattle.deadpool_c.proofs.Steps.{Tuple, calls_at, calls_at_last, grown, spared, Ended, Clauses, closing, Back, Meets}
use Rattle.deadpool_c.proofs.Steps.{triple_of, Contract, Triple, FmF, Callee, Operand, Place, Body, Dict, a_type, dcons}
use Rattle.deadpool_c.proofs.Steps.{dnil, seq, call, Val, vptr, Memory, Model, Routine, Wired, Env, Calls, Loops, FmC}
use Rattle.deadpool_c.proofs.Steps.{Goal, Seq, Step, step, Post, Item, ‵, raw, ◌⊛◌, some, later, runs, lands, settles}
use Rattle.deadpool_c.proofs.Steps.{◌$◌, ◌∵◌, !, qed, done, move, drop, use0, use1, split, split3, join, pick, fsplit}
use Rattle.deadpool_c.proofs.Steps.{fjoin, frame, feq_i, show, await, updating, now, rewrite, Logic, sem, Opds}
use Rattle.deadpool_c.proofs.Steps.{box_owns, R, P, args, from_raw_met, from_raw_code, from_raw_name, into_raw_met}
use Rattle.deadpool_c.proofs.Steps.{into_raw_code, into_raw_name, from_raw_signature, from_raw_spec, into_raw_signature}
use Rattle.deadpool_c.proofs.Steps.{into_raw_spec, allocator_passed, allocate_code, deallocate_code, grow_code}
use Rattle.deadpool_c.proofs.Steps.{shrink_code, ghosts, dict, no_drop_code, no_drop_glues}
use Rattle.deadpool_c.proofs.Unboxed.{Handle, handle_laws, E, Boxed, owned, Boxlike, Unboxed, parts, Sound, parts_sound}
use Rattle.deadpool_c.proofs.Unboxed.{Loose, boxed, unboxes, boxes}

module _ (S : RattleType) (L : Laws S) where
  abbrev Box : Type 0
  Box = Boxed S L

  abbrev Parts : Type 0
  Parts = Unboxed S L

  abbrev none : Dict
  none = (E S L).al.drops

  -- of each call: what its contract says, and at which parts
  module _ {M : Type 1} {𝓤 : Ura M} (𝓛 : Logic 𝓤) (at_mem : Memory → SProp 𝓤) (run : Routine → Fun 𝓤) where
    abbrev pub Opens : Dict → Contract 𝓤
    Opens dx = triple_of 𝓛 (into_raw_signature S Handle ghosts dict none dx)
        (into_raw_spec S Handle ghosts dict none dx 𝓛 at_mem run)

    abbrev pub opens_at : (dx : Dict) → Parts → (Opens dx).Ghost
    opens_at dx k = (
      (([], ([], tt)), (full_share, (full_share, tt)), tt, (boxed S L k, tt), (parts S L k ∷ [], tt)),
      tt,
    )

    abbrev pub Closes : Contract 𝓤
    Closes = triple_of 𝓛 (from_raw_signature S Handle ghosts dict none)
        (from_raw_spec S Handle ghosts dict none 𝓛 at_mem run)

    abbrev pub closes_at : Parts → (Closes).Ghost
    closes_at k = (
      (
        ([], ([], tt)),
        (full_share, (full_share, tt)),
        tt,
        (k.alloc, (block_ptr k.block k.offset, tt)),
        (k.freeing ∷ [], (vptr k.block k.offset ∷ [], tt)),
      ),
      k.value,
    )

    -- the tokens of the lifetimes of S and of the handle, and that both are alive so long
    abbrev Tokens : Item 𝓤
    Tokens = ‵ (flft [] full_share) ⊛ ‵ (flft [] full_share) ⊛ ‵ ftrue

    abbrev Lasting : Fml → Item 𝓤
    Lasting asked = raw (fact 𝓤 ([] ⊑ S.lives)) ⊛ raw (fact 𝓤 ([] ⊑ Handle.lives)) ⊛ ‵ asked

  module _ (lasting : [] ⊑ S.lives) {M : Type 1} {𝓤 : Ura M} {𝓛 : Logic 𝓤} (at_mem : Memory → SProp 𝓤)
      (run : Routine → Fun 𝓤) where
    open 𝓛 use {H}

    -- with no lifetime they are had for nothing
    lasts : {K : Type 0} {Γ : List (Item 𝓤)} {G : Goal 𝓤 H} → K → (asked : Fml)
        → Step K 𝓛 (Tokens 𝓛 at_mem run ∷ Lasting 𝓛 at_mem run asked ∷ Γ) G (‵ asked ∷ Γ) G
    lasts t asked = step (λ s.
        use0 𝓛 (raw (fact 𝓤 ([] ⊑ Handle.lives))) (fact_i 𝓤 ([] ⊑ Handle.lives) (emp 𝓤) (⊑_static [])) $ join t $
        use0 𝓛 (raw (fact 𝓤 ([] ⊑ S.lives))) (fact_i 𝓤 ([] ⊑ S.lives) (emp 𝓤) lasting) $ join t $ nothing t $
        use0 𝓛 (‵ (flft [] full_share)) (𝓛.lfts.lft-nil full_share) $ join t
        $ use0 𝓛 (‵ (flft [] full_share)) (𝓛.lfts.lft-nil full_share) $ join t $ s)

    module _ {K : Type 0} {Γ : List (Item 𝓤)} {C : Calls 𝓤 H} {Λ : Loops 𝓤 H} {F : Env 𝓤 H} {f : Callee}
        {xs : List Operand} {p : Place} {q : Post 𝓤 H} where
      -- The pair that is returned owns, with the memory, what a box at these two fields owns.
      pub opens : K → FmC 𝓤 H 𝓛.laws C → {rest : Body} (dx : Dict) → Triple 𝓤 (C f) (Opens 𝓛 at_mem run dx)
          → (k : Parts)
          → Opds K 𝓛 (raw ((Opens 𝓛 at_mem run dx).pre (opens_at 𝓛 at_mem run dx k)) ∷ Γ) F xs (parts S L k ∷ [])
          → ((u : Val) (j : Parts) → u ≡ parts S L j → j.value ≡ k.value → Sound S L j
          → Seq K 𝓛 (‵ (Loose S L j) ∷ Γ) (lands C Λ F p u rest q))
          → Seq K 𝓛 (‵ (Loose S L k) ∷ Γ) (runs C Λ F (seq (call f xs p) rest) q)
      opens t fm dx known k passed next =
          boxes S L t k $ nothing t $ lasts t ftrue $ nothing t $ move t (3 ∷ 0 ∷ []) $ fjoin t $ move t (1 ∷ 0 ∷ [])
          $ join t $ join t $
          use1 𝓛 (raw ((Opens 𝓛 at_mem run dx).pre (opens_at 𝓛 at_mem run dx k))) (id⊢ 𝓤 _)
          $ calls_at t fm (Opens 𝓛 at_mem run dx) known (opens_at 𝓛 at_mem run dx k) passed (λ u.
          use1 𝓛
          (later
          (some (λ (r : Ptr × Handle.Denot).
          (Tokens 𝓛 at_mem run ⊛ ‵ ((Tuple (RawPtr ∷ P (E S L) ∷ [])).own_val r (u ∷ []))) ⊛
          some (λ (ws : (Unit {0} × (Unit {0} × Unit {0})) × Unit {0}). ‵ (fsep (fsep ftrue (fsep ftrue ftrue)) ftrue) ⊛
          (raw (fact 𝓤 (r.1 ≡ k.alloc)) ⊛ ‵ (box_owns (ghosts.dealloc_token k.alloc) (R (E S L)) r.0 k.value))))))
          (id⊢ 𝓤 _) $ await t tt $
          pick t (λ r. split t $ split t $ drop t $ move t (1 ∷ [])
          $ pick t (λ _. split3 t $ drop t $ drop t $ move t (1 ∷ []) $ fjoin t $
          let d : Box = record { ptr = r.0; alloc = r.1; value = k.value } in
          use1 𝓛 (‵ (owned S L d (u ∷ []))) (id⊢ 𝓤 _)
          $ unboxes S L t d (u ∷ []) (λ j its is. next u j (ap only is) its))))

      pub closes : K → FmC 𝓤 H 𝓛.laws C → Triple 𝓤 (C f) (Closes 𝓛 at_mem run) → (k : Parts)
          → Opds K 𝓛 (raw ((Closes 𝓛 at_mem run).pre (closes_at 𝓛 at_mem run k)) ∷ Γ) F xs
          (k.freeing ∷ vptr k.block k.offset ∷ [])
          → ((u : Val) (d : Box) → d.value ≡ k.value → Boxlike S L u
          → Seq K 𝓛 (‵ (owned S L d (u ∷ [])) ∷ Γ) (settles F p u q))
          → Seq K 𝓛 (‵ (Loose S L k) ∷ Γ) (runs C Λ F (call f xs p) q)
      closes t fm known k passed next =
          fsplit t $ lasts t (box_owns (ghosts.dealloc_token k.alloc) (R (E S L)) (block_ptr k.block k.offset) k.value)
          $ nothing t $
          feq_i t (List Val) (vptr k.block k.offset ∷ []) (vptr k.block k.offset ∷ []) refl $ fjoin t
          $ move t (3 ∷ 0 ∷ []) $ fjoin t $ move t (1 ∷ 0 ∷ []) $ join t $ join t $
          use1 𝓛 (raw ((Closes 𝓛 at_mem run).pre (closes_at 𝓛 at_mem run k))) (id⊢ 𝓤 _)
          $ calls_at_last t fm (Closes 𝓛 at_mem run) known (closes_at 𝓛 at_mem run k) passed (λ u.
          use1 𝓛
          (later
          (some
          (λ (d : Box). (Tokens 𝓛 at_mem run ⊛ ‵ (owned S L d (u ∷ [])))
          ⊛ some (λ (ws : Unit {0} × (Unit {0} × Unit {0})). ‵ (fsep ftrue (fsep ftrue ftrue)) ⊛
          (raw (fact 𝓤 (d.value ≡ k.value)) ⊛ raw (fact 𝓤 (d.alloc ≡ k.alloc))))))) (id⊢ 𝓤 _) $ await t tt $
          pick t (λ d. split t $ split t $ drop t $ move t (1 ∷ [])
          $ pick t (λ _. split3 t $ drop t $ heard t (d.value ≡ k.value) (λ same. drop t $
          unboxes S L t d (u ∷ [])
          (λ j its is sound. boxes S L t j
          $ rewrite t 0 (λ (us : List Val). ‵ (owned S L (boxed S L j) us)) (sym is) refl $
          next u (boxed S L j) (its ∙ same) (subst (Boxlike S L) (sym (ap only is)) (parts_sound S L j sound)))))))

  -- that each call meets its contract, from the code of the function that makes it: the methods that the call is handed
  module _ {M : Type 1} (𝓤 : Ura M) (𝓛 : Logic 𝓤) (𝓜 : Model 𝓤 𝓛.H) (𝓡 : Running 𝓤 𝓛.H 𝓜)
      (al : Wired 𝓡.env allocate_code) (de : Wired 𝓡.env deallocate_code)
      (gr : Wired 𝓡.env grow_code) (sh : Wired 𝓡.env shrink_code) (nd : Wired 𝓡.env no_drop_code) where
    abbrev table : Calls 𝓤 𝓛.H
    table = (tables 𝓤 𝓛.H 𝓜 𝓡 𝓡.env).C

    pub opened : (dx : Dict) → GlueMet 𝓛 𝓜 𝓡 𝓡.env S dx → Wired 𝓡.env into_raw_code
        → Triple 𝓤
        (table
        (into_raw_name (bounded (a_type ∷ a_type ∷ []) (
          S,
          (Handle, tt),
        ) (dcons dict (dcons none (dcons dx dnil)))))) (Opens 𝓛 𝓜.mem 𝓡.returns dx)
    opened dx glue w = into_raw_met 𝓤 𝓛 𝓜 𝓡 w S Handle L handle_laws ghosts dict none dx
        (allocator_passed 𝓡.env al de gr sh M 𝓤 𝓛 𝓜 𝓡) (no_drop_glues 𝓡.env nd Handle handle_laws M 𝓤 𝓛 𝓜 𝓡) glue

    pub closed : Wired 𝓡.env from_raw_code → Triple 𝓤 (table (from_raw_name (args (E S L)))) (Closes 𝓛 𝓜.mem 𝓡.returns)
    closed w = from_raw_met 𝓤 𝓛 𝓜 𝓡 w S Handle L handle_laws ghosts dict none
        (allocator_passed 𝓡.env al de gr sh M 𝓤 𝓛 𝓜 𝓡) (no_drop_glues 𝓡.env nd Handle handle_laws M 𝓤 𝓛 𝓜 𝓡)

-- A `drop` that asks nothing and promises nothing says more of an S at its end than a call asks: that is let go.
module _ (S : RattleType) {M : Type 1} {𝓤 : Ura M} (𝓛 : Logic 𝓤) where
  abbrev Dropping : Ended
  Dropping =
      record {
        signature = record {
          lifetimes = 0;
          outlives = [];
          params = plain (λ _. S) ∷ [];
          result = plain (λ _. unit);
        };
        kept = (yes, tt);
      }

  abbrev silent : Clauses 𝓤 Dropping
  silent κs a = record { ghost = Unit {0}; requires = λ _. emp 𝓤; ensures = λ _ r e. emp 𝓤 }

  abbrev Drops : Contract 𝓤
  Drops = grown 𝓛 Dropping.signature 1 (S.lives, tt) (closing 𝓛 Dropping silent)

  abbrev Spends : Contract 𝓤
  Spends = triple_of 𝓛 (glue_signature S) (glue_spent 𝓛 S)

  spends : (y : (Spends).Ghost) (u : Val) → ent 𝓤 ((Drops).post y u) ((Spends).post y u)
  spends y u = qed 𝓛 (raw ((Drops).post y u) ∷ []) ∵ updating ! $
      use1 𝓛 (later (some (λ (r : Unit {0}). ((‵ (flft y.0.0.0 y.0.1.0) ⊛ ‵ ftrue) ⊛ ‵ ((unit).own_val r (u ∷ []))) ⊛
      some (λ (ws : Last (S.exit yes) y.0.3.0 × Unit {0}). ‵ (fsep (left (S.exit yes) y.0.3.0 ws.0) ftrue) ⊛ ‵ ftrue))))
      (id⊢ 𝓤 _) $ await ! tt $
      pick ! (λ r. split ! $ move ! (1 ∷ []) $ drop ! $ now ! $
      show
      ! (λ (r' : Unit {0}). sep 𝓤 (Back 𝓛 (glue_signature S) y.0 u r') ((glue_spent 𝓛 S y.0.0 y.0.3).ensures y.1 r'))
      r $ frame ! $
      show ! (λ (ws : Unit {0} × Unit {0}). sep 𝓤 (sem 𝓛 (fsep ftrue ftrue)) (emp 𝓤)) (tt, tt) $ nothing ! $ nothing
      ! $ nothing ! $ fjoin ! $ join ! $ done !)

  pub lets_go : (run : Fun 𝓤) → FmF 𝓤 run → Meets 𝓛 Dropping.signature run (closing 𝓛 Dropping silent)
      → Meets 𝓛 (glue_signature S) run (glue_spent 𝓛 S)
  lets_go run fm met y = via 𝓤 (run ((Drops).args y) ((Drops).post y))
      (spared 𝓛 Dropping.signature run fm 1 (S.lives, tt) (closing 𝓛 Dropping silent) met y)
      (fm→mono 𝓤 (run ((Drops).args y)) (fm ((Drops).args y)) ((Drops).post y) ((Spends).post y) (spends y))
