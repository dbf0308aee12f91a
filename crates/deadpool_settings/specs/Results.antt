-- A word on a `Result` that std has not.
use Rattle.std.specs.Prelude.{Result, Ok, Err}

-- `r.map_err(f)`
abbrev pub result_map_err : {T E F : Type 0} → (E → F) → Result T E → Result T F
result_map_err f (Ok x) = Ok x
result_map_err f (Err e) = Err (f e)
