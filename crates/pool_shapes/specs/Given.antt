-- The objects that parties were given, by the party's number: none if it was given none, or if the object is out no
-- more.
use Rattle.std.specs.Prelude.{◌≡◌, ℕ, ◌==◌, List, [], ◌∷◌, ◌++◌, length, Option, Some, None, if◌then◌else◌, slice_get}
use Rattle.std.specs.Prelude.{slice_set}

-- one more party, which was given nothing
abbrev pub with_party : List (Option ℕ) → List (Option ℕ)
with_party given = given ++ None ∷ []

-- a party is given an object
abbrev pub with_gift : ℕ → ℕ → List (Option ℕ) → List (Option ℕ)
with_gift party number given = slice_set given party (Some number)

-- what is left to a party if this object is out no more
abbrev pub left_without : ℕ → Option ℕ → Option ℕ
left_without number None = None
left_without number (Some n) = if n == number then None else Some n

-- an object is taken from whoever has it, and all others keep theirs
pub record LosesObject (number : ℕ) (was is : List (Option ℕ)) : Type 0 where
  pub count : length is ≡ length was
  pub each : (party : ℕ) (object : Option ℕ) → slice_get was party ≡ Some object
      → slice_get is party ≡ Some (left_without number object)
