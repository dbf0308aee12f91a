-- What a comparison of a pointer with a key says.
use Rattle.std.proofs.Common.{◌≡◌, ◌≢◌, ℕ, Option, Some, None, eqb, false, true, refl, ap}
use Rattle.std.specs.Option.{option_eq}
use Rattle.std.proofs.lemmas.Bool.{both_ways, eq-eqb, eqb-true, false≢true}

pub points_there : (pointer : Option ℕ) (key : ℕ) → option_eq eqb pointer (Some key) ≡ true → pointer ≡ Some key
points_there None key same = absurd (false≢true same)
points_there (Some at) key same = ap Some (eqb-true at key same)

pub points_elsewhere : (pointer : Option ℕ) (key : ℕ) → option_eq eqb pointer (Some key) ≡ false → pointer ≢ Some key
points_elsewhere pointer key differs is =
    let here : eqb key key ≡ false = rw is at differs in both_ways _ here (eq-eqb key key refl)
