-- How many objects have a number, when the last of them goes out.
use Rattle.deadpool_trial.proofs.OfUnmanaged.Basics.{◌≡◌, ℕ, ◌+◌, ◌-◌, zero, suc, List, [], ◌∷◌, ◌==◌, length, take}
use Rattle.deadpool_trial.proofs.OfUnmanaged.Basics.{arith, Some, slice_get, one_if, count-cons}
use Rattle.deadpool_trial.proofs.OfUnmanaged.Words.{so_many, last_idle, other_idle, item_number, Item}

module _ {V : Type 0} (n : ℕ) where
  -- 1 if the object has the number
  abbrev pub one : Item V → ℕ
  one item = one_if (item.number == n)

  so_many-take : (xs : List (Item V)) (i : ℕ) (x : Item V) → slice_get xs i ≡ Some x → i + 1 ≡ length xs
      → so_many n (take i xs) + one x ≡ so_many n xs
  so_many-take [] i x h e = cc
  so_many-take (y ∷ []) zero x h e = let same : y ≡ x = cc in let last = count-cons item_number n y [] in
      rw (← same) (omega (arith, last))
  so_many-take (y ∷ z ∷ xs) zero x h e = absurd (omega (arith, e))
  so_many-take (y ∷ xs) (suc i) x h e =
      let rest = so_many-take xs i x h (omega (arith, e)) in
      let a = count-cons item_number n y xs in
      let b = count-cons item_number n y (take i xs) in
      omega (arith, a, b, rest)

  pub so_many-last : (idle : List (Item V)) (item : Item V) → last_idle idle ≡ Some item
      → so_many n (other_idle idle) + one item ≡ so_many n idle
  so_many-last [] item h = cc
  so_many-last (x ∷ xs) item h = so_many-take (x ∷ xs) (length (x ∷ xs) - 1) item h (omega arith)
