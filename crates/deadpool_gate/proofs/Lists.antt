-- What setting or adding one element changes in a list, and a list that is gone through.
use Rattle.std.proofs.Common.{◌≡◌, ◌≢◌, ℕ, ◌+◌, zero, suc, List, [], ◌∷◌, ◌++◌, length, set, refl, sym, ap, arith, inl}
use Rattle.std.proofs.Common.{inr, Some, ◌⊎◌}
use Rattle.std.specs.List.{slice_get}

module _ {X : Type 0} where
  -- an element is set to itself
  pub set-same : (xs : List X) (n : ℕ) (x : X) → slice_get xs n ≡ Some x → set xs n x ≡ xs
  set-same [] n x h = refl
  set-same (y ∷ xs) zero x h = let e : y ≡ x = cc in ap (λ z. z ∷ xs) (sym e)
  set-same (y ∷ xs) (suc n) x h = ap (λ zs. y ∷ zs) (set-same xs n x h)

  -- the element that was set is there
  pub get-set_same : (xs : List X) (n : ℕ) (old new : X) → slice_get xs n ≡ Some old
      → slice_get (set xs n new) n ≡ Some new
  get-set_same [] n old new h = cc
  get-set_same (x ∷ xs) zero old new h = refl
  get-set_same (x ∷ xs) (suc n) old new h = get-set_same xs n old new h

  -- the others are as they were
  pub get-set_other : (xs : List X) (n m : ℕ) (new : X) → m ≢ n → slice_get (set xs n new) m ≡ slice_get xs m
  get-set_other [] n m new h = refl
  get-set_other (x ∷ xs) zero zero new h = absurd (h refl)
  get-set_other (x ∷ xs) zero (suc m) new h = refl
  get-set_other (x ∷ xs) (suc n) zero new h = refl
  get-set_other (x ∷ xs) (suc n) (suc m) new h = get-set_other xs n m new (λ e. h (ap suc e))

  -- an element stays when more are added at the back
  pub get-append : (xs ys : List X) (n : ℕ) (x : X) → slice_get xs n ≡ Some x → slice_get (xs ++ ys) n ≡ Some x
  get-append [] ys n x h = cc
  get-append (y ∷ xs) ys zero x h = h
  get-append (y ∷ xs) ys (suc n) x h = get-append xs ys n x h

  -- when one is added, any other is that one
  pub get-pushed : (xs : List X) (y : X) (n : ℕ) (x : X) → slice_get (xs ++ y ∷ []) n ≡ Some x
      → (slice_get xs n ≡ Some x) ⊎ (x ≡ y)
  get-pushed [] y zero x h = inr (let same : x ≡ y = cc in same)
  get-pushed [] y (suc n) x h = cc
  get-pushed (z ∷ xs) y zero x h = inl h
  get-pushed (z ∷ xs) y (suc n) x h = get-pushed xs y n x h

  -- a list that is gone through ends when none is left
  pub none_left : (xs : List X) (n : ℕ) → n ≡ length xs → n ≡ 0 → xs ≡ []
  none_left [] n e z = refl
  none_left (x ∷ xs) n e z = cc

  -- and else one less is left
  pub one_less : (ys xs : List X) (x : X) (n k : ℕ) → n ≡ length ys → ys ≡ x ∷ xs → k + 1 ≡ n → k ≡ length xs
  one_less ys xs x n k e is less = let longer : length ys ≡ length (x ∷ xs) = ap length is in
      omega (arith, longer, e, less)
