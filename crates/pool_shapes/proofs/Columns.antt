-- A list that grows by what each element of another list becomes, or that is changed so in its place.
use Rattle.pool_shapes.proofs.Words.{◌≡◌, ℕ, ◌+◌, ◌<◌, ◌≤◌, List, [], ◌∷◌, ◌++◌, Some, length, set, refl, sym, ◌∙◌}
use Rattle.pool_shapes.proofs.Words.{subst, arith, inl, inr, slice_get, eqb_tells, length-set, get-append, get-set_same}
use Rattle.pool_shapes.proofs.Words.{get-set_other}

-- the element that was added
get-last : {X : Type 0} (xs : List X) (x : X) → slice_get (xs ++ x ∷ []) (length xs) ≡ Some x
get-last [] x = refl
get-last (y ∷ xs) x = get-last xs x

module _ {X Y : Type 0} (become : ℕ → X → Y) (from : List X) where
  -- up to a place each has become what it is to
  abbrev pub IsDone : ℕ → List Y → Type 0
  IsDone at to = (n : ℕ) (x : X) → n < at → slice_get from n ≡ Some x → slice_get to n ≡ Some (become n x)

  pub one_more : (at : ℕ) (to : List Y) (x : X) → length to ≡ at → slice_get from at ≡ Some x → IsDone at to
      → IsDone (at + 1) (to ++ become at x ∷ [])
  one_more at to x count there done n y before is =
      elim (eqb_tells n at) [
        | inl same ↦
            let is_x : slice_get from at ≡ Some y = subst (λ (k : ℕ). slice_get from k ≡ Some y) same.1 is in
            let equal : x ≡ y = cc in
            let last : slice_get (to ++ become at x ∷ []) at ≡ Some (become at x) =
            subst (λ (k : ℕ). slice_get (to ++ become at x ∷ []) k ≡ Some (become at x)) count
            (get-last to (become at x)) in
            rw (same.1, ← equal) last
        | inr other ↦ get-append to (become at x ∷ []) n (become n y) (done n y (omega (arith, before, other.1)) is)
      ]

-- a list whose elements change one by one
module _ {X : Type 0} (become : X → X) (from : List X) where
  pub record IsChanged (at : ℕ) (to : List X) : Type 0 where
    pub count : length to ≡ length from
    pub done : (n : ℕ) (x : X) → n < at → slice_get from n ≡ Some x → slice_get to n ≡ Some (become x)
    pub rest : (n : ℕ) → at ≤ n → slice_get to n ≡ slice_get from n

  pub one_changed : (at : ℕ) (to : List X) (x : X) → slice_get to at ≡ Some x → IsChanged at to
      → IsChanged (at + 1) (set to at (become x))
  one_changed at to x there changed = record {
    count = length-set to at (become x) ∙ changed.count;
    done = λ n y before is.
        elim (eqb_tells n at) [
          | inl same ↦
              let was : slice_get from at ≡ Some x = sym (changed.rest at (omega arith)) ∙ there in
              let is_y : slice_get from at ≡ Some y = subst (λ (k : ℕ). slice_get from k ≡ Some y) same.1 is in
              let equal : x ≡ y = cc in
              rw (same.1, ← equal) (get-set_same to at x (become x) there)
          | inr other ↦ get-set_other to at n (become x) other.1 ∙ changed.done n y (omega (arith, before, other.1)) is
        ];
    rest = λ n behind. get-set_other to at n (become x) (λ e. absurd (omega (arith, e, behind)))
        ∙ changed.rest n (omega (arith, behind));
  }
