-- Lists of what has a number, by rising number.
use Rattle.std.specs.Prelude.{ℕ, ◌==◌, List, [], ◌∷◌, length, Option, if◌then◌else◌, nat_lt}
use Rattle.std.specs.List.{filter, find}

module _ {A : Type 0} (number : A → ℕ) where
  -- the list with one more
  abbrev pub with_numbered : A → List A → List A
  with_numbered x [] = x ∷ []
  with_numbered x (y ∷ ys) = if nat_lt (number x) (number y) then x ∷ y ∷ ys else y ∷ with_numbered x ys

  -- the first that has the number
  abbrev pub find_numbered : ℕ → List A → Option A
  find_numbered n xs = find (λ x. number x == n) xs

  -- the list without it
  abbrev pub without_numbered : ℕ → List A → List A
  without_numbered n [] = []
  without_numbered n (x ∷ xs) = if number x == n then xs else x ∷ without_numbered n xs

  -- how many have the number
  abbrev pub count_numbered : ℕ → List A → ℕ
  count_numbered n xs = length (filter (λ x. number x == n) xs)
