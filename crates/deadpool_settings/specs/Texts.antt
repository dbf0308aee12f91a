-- What `{}` writes for a fault, for an error of a strict reading, and for an error under its pool's name.
use Rattle.std.specs.Prelude.{ℕ, List, ◌++◌, ◌==◌, length, if◌then◌else◌, Option, Some, None, option_map, codes}
use Rattle.std.specs.Cow.{cow_str_bytes}
use Rattle.deadpool_settings.specs.declared.fault.Fault.{Fault}
use Rattle.deadpool_settings.specs.declared.fault.StrictError.{StrictError}
use Rattle.deadpool_settings.specs.declared.fault.StrictError.TheVariants as error
use Rattle.deadpool_settings.specs.declared.fault.Why.{Why}
use Rattle.deadpool_settings.specs.declared.fault.Why.TheVariants as why
use Rattle.deadpool_settings.specs.declared.named.Named.{Named}

abbrev pub why_text : Why → List ℕ
why_text why.NoObject = codes "no object"
why_text why.Missing = codes "missing"
why_text why.NoNumber = codes "no number"
why_text why.OutOfRange = codes "no whole number from 0 to 18446744073709551615"
why_text why.NoDuration = codes "no duration"
why_text why.NoQueueMode = codes "neither Fifo nor Lifo"
why_text why.Unknown = codes "no key of a pool"

-- the path, if there is one, and the reason
abbrev pub fault_text : Fault → List ℕ
fault_text f =
    if length (cow_str_bytes f.path) == 0
    then why_text f.why
    else cow_str_bytes f.path ++ codes ": " ++ why_text f.why

-- no clause says how JSON's own errors are printed
abbrev pub strict_error_text : StrictError → Option (List ℕ)
strict_error_text (error.Fault f) = Some (fault_text f)
strict_error_text (error.NotJson cause) = None
strict_error_text error.OutOfMemory = Some (codes "Out of memory")

-- the pool's name and the error's text, if that is known
abbrev pub named_text : {E : Type 0} → (E → Option (List ℕ)) → Named E → Option (List ℕ)
named_text output n = option_map (λ text. codes "pool " ++ n.name.now ++ codes ": " ++ text) (output n.error)
