-- Lanes that get one column more.
use Rattle.pool_shapes.proofs.Drawn.Words.{◌≡◌, ◌≢◌, ℕ, ◌+◌, ◌-◌, ◌<◌, ◌≤◌, List}
use Rattle.pool_shapes.proofs.Drawn.Words.{[], ◌∷◌, ◌++◌, length, refl, sym, ◌∙◌, ap}
use Rattle.pool_shapes.proofs.Drawn.Words.{subst, arith, zero, suc, inl}
use Rattle.pool_shapes.proofs.Drawn.Words.{inr, get_or, set, get_or-set_same, get_or-set_other}
use Rattle.pool_shapes.proofs.Drawn.Words.{length-append, Option, Some, None, slice_get, cases_lt, get_or_past}
use Rattle.pool_shapes.proofs.Drawn.Words.{get_or_from_slice_get, slice_get_past, columns}
use Rattle.pool_shapes.proofs.Drawn.Words.{first_column, next_column, lane_at}
use Rattle.pool_shapes.proofs.Drawn.Words.{shown_at, Draws, EndAt, Extends, AllExtend, AllBegin, Mark}

-- what stands at a position that is there
got : {X : Type 0} (xs : List X) (k : ℕ) → k < length xs → (x : X) × (slice_get xs k ≡ Some x)
got [] k h = absurd (omega arith)
got (x ∷ xs) zero h = (x, refl)
got (x ∷ xs) (suc k) h = got xs k (omega arith)

module _ {T : Type 0} where
  pub rest_more : (was are : List (List (Mark T))) (i : ℕ) (l : List (Mark T))
      → ((k : ℕ) → i ≤ k → lane_at k are ≡ lane_at k was) → (k : ℕ) → i + 1 ≤ k
      → lane_at k (set are i l) ≡ lane_at k was
  rest_more was are i l rest k h = let ne : k ≢ i = omega arith in rw get_or-set_other (rest k (omega arith))

  pub done_more : (was are : List (List (Mark T))) (shown : List T) (i : ℕ) (l : List (Mark T)) (y : T) → i < length are
      → Extends (lane_at i was) y l → y ≡ get_or shown i y
      → ((k : ℕ) (x : T) → k < i → slice_get shown k ≡ Some x → Extends (lane_at k was) x (lane_at k are))
      → (k : ℕ) (x : T) → k < i + 1 → slice_get shown k ≡ Some x → Extends (lane_at k was) x (lane_at k (set are i l))
  done_more was are shown i l y within made is done k x h e =
      elim (cases_lt k i) [ inl before ↦ earlier before | inr past ↦ here (omega arith) ]
    where
      earlier : k < i → Extends (lane_at k was) x (lane_at k (set are i l))
      earlier before = let ne : k ≢ i = omega arith in rw get_or-set_other (done k x before e)

      here : k ≡ i → Extends (lane_at k was) x (lane_at k (set are i l))
      here at =
          let same : y ≡ x = is ∙ ap (λ n. get_or shown n y) (sym at) ∙ get_or_from_slice_get shown k x y e in
          let there : lane_at k (set are i l) ≡ l = rw (at, get_or-set_same) in
          subst (λ m. Extends (lane_at k was) x m) (sym there)
          (subst (λ n. Extends (lane_at n was) x l) (sym at) (subst (λ z. Extends (lane_at i was) z l) same made))

  pub shown_more : (k : ℕ) (frames : List (List T)) (shown : List T) (x : T) → slice_get shown k ≡ Some x
      → shown_at k (frames ++ shown ∷ []) ≡ shown_at k frames ++ x ∷ []
  shown_more k [] shown x e = rw e
  shown_more k (f ∷ fs) shown x e =
      elim (slice_get f k) as (λ o. by_first o (shown_at k (fs ++ shown ∷ [])) ≡ by_first o (shown_at k fs) ++ x ∷ [])
      [ None ↦ shown_more k fs shown x e | Some y ↦ ap (λ l. y ∷ l) (shown_more k fs shown x e) ]
    where
      by_first : Option T → List T → List T
      by_first None l = l
      by_first (Some y) l = y ∷ l

  pub shown_no_more : (k : ℕ) (frames : List (List T)) (shown : List T) → slice_get shown k ≡ None
      → shown_at k (frames ++ shown ∷ []) ≡ shown_at k frames
  shown_no_more k [] shown e = rw e
  shown_no_more k (f ∷ fs) shown e =
      elim (slice_get f k) as (λ o. by_first o (shown_at k (fs ++ shown ∷ [])) ≡ by_first o (shown_at k fs))
      [ None ↦ shown_no_more k fs shown e | Some y ↦ ap (λ l. y ∷ l) (shown_no_more k fs shown e) ]
    where
      by_first : Option T → List T → List T
      by_first None l = l
      by_first (Some y) l = y ∷ l

  -- the lanes in two steps: those that were there have a column more, and others begin below them
  module _ (c : ℕ) (was mid are : List (List (Mark T))) (shown : List T) (enough : length was ≤ length shown)
      (wide : AllExtend was shown mid) (more : AllBegin c mid shown are) where
    pub count_is : length are ≡ length shown
    count_is = more.count (omega (arith, wide.count))

    old_lane : (k : ℕ) (x : T) → k < length was → slice_get shown k ≡ Some x → Extends (lane_at k was) x (lane_at k are)
    old_lane k x h e =
        subst (λ l. Extends (lane_at k was) x l) (sym (more.same k (omega (arith, wide.count)))) (wide.each k x h e)

    new_lane : (k : ℕ) (x : T) → length was ≤ k → slice_get shown k ≡ Some x
        → lane_at k are ≡ record { shows = x; from = c; to = c + 1 } ∷ []
    new_lane k x h e = more.begun k x (omega (arith, wide.count)) e

    pub all_end : EndAt c was → EndAt (c + 1) are
    all_end ends k h =
        let x = got shown k (omega (arith, count_is)) in
        elim (cases_lt k (length was)) [
          | inl old ↦ (old_lane k x.0 old x.1).next ∙ ap (λ n. n + 1) (ends k old)
          | inr new ↦ ap next_column (new_lane k x.0 new x.1)
        ]

    pub all_drawn : (frames : List (List T)) → Draws frames (record { lanes = was; columns = c })
        → Draws (frames ++ shown ∷ []) (record { lanes = are; columns = c + 1 })
    all_drawn frames d = record {
      columns_are = omega (arith, d.columns_are, length-append frames (shown ∷ []));
      shows = λ k. elim (cases_lt k (length shown)) [
        | inl there ↦ shows_there k (got shown k there)
        | inr past ↦ shows_past k past
      ];
      begins = λ k h. begins_there k (got shown k (omega (arith, count_is)));
    }
      where
        nothing : (k : ℕ) → length was ≤ k → shown_at k frames ≡ []
        nothing k h = sym (d.shows k) ∙ ap columns (get_or_past was k [] h)

        one_cell : (x : T) → columns (record { shows = x; from = c; to = c + 1 } ∷ []) ≡ x ∷ []
        one_cell x = let e : c + 1 - c ≡ 1 = omega arith in rw e

        shows_there : (k : ℕ) → ((x : T) × (slice_get shown k ≡ Some x))
            → columns (lane_at k are) ≡ shown_at k (frames ++ shown ∷ [])
        shows_there k x =
            elim (cases_lt k (length was)) [
              | inl old ↦
                  (old_lane k x.0 old x.1).columns_are ∙ ap (λ l. l ++ x.0 ∷ []) (d.shows k)
                  ∙ sym (shown_more k frames shown x.0 x.1)
              | inr new ↦ ap columns (new_lane k x.0 new x.1) ∙ one_cell x.0
                  ∙ sym (shown_more k frames shown x.0 x.1 ∙ ap (λ l. l ++ x.0 ∷ []) (nothing k new))
            ]

        shows_past : (k : ℕ) → length shown ≤ k → columns (lane_at k are) ≡ shown_at k (frames ++ shown ∷ [])
        shows_past k past = ap columns (get_or_past are k [] (omega (arith, count_is)))
            ∙ sym (shown_no_more k frames shown (slice_get_past shown k past) ∙ nothing k (omega arith))

        begins_there : (k : ℕ) → ((x : T) × (slice_get shown k ≡ Some x))
            → first_column (lane_at k are) + length (shown_at k (frames ++ shown ∷ [])) ≡ c + 1
        begins_there k x =
            let longer : length (shown_at k (frames ++ shown ∷ [])) ≡ length (shown_at k frames) + 1 =
            ap length (shown_more k frames shown x.0 x.1) ∙ length-append (shown_at k frames) (x.0 ∷ []) in
            elim (cases_lt k (length was)) [
              | inl old ↦ let f = (old_lane k x.0 old x.1).first in
                  let b = d.begins k old in omega (arith, f, b, longer)
              | inr new ↦ let f : first_column (lane_at k are) ≡ c = ap first_column (new_lane k x.0 new x.1) in
                  let n : length (shown_at k frames) ≡ 0 = ap length (nothing k new) in omega (arith, f, n, longer)
            ]
