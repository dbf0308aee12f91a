-- What is lent in one's place.
use Rattle.std.proofs.Common.{◌≡◌, Option, Some, None, refl, Bor}
use Rattle.std.specs.Option.{option_copied, unwrap_or}

-- what is seen through a reference to one's own, or to another's
pub now_or : {T : Type 0} (own : Option (Bor T)) (other : Bor T)
    → (unwrap_or own other).now ≡ unwrap_or (option_copied own) other.now
now_or None other = refl
now_or (Some x) other = refl
