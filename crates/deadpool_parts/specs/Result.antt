-- Words on a `Result` that std has only for an `Option`.
use Rattle.std.specs.Prelude.{Result, Ok, Err}

-- `r.map(f)`
abbrev pub result_map : {T U E : Type 0} → (T → U) → Result T E → Result U E
result_map f (Ok x) = Ok (f x)
result_map f (Err e) = Err e

-- `r.and_then(f)`
abbrev pub result_and_then : {T U E : Type 0} → (T → Result U E) → Result T E → Result U E
result_and_then f (Ok x) = f x
result_and_then f (Err e) = Err e
