-- What a strict reading is, by what stands at each key.
use Rattle.std.specs.Prelude.{◌≡◌, ℕ, List, Bool, true, false, IsTrue, Option, Some, None, IsSome, IsSomeAnd}
use Rattle.std.specs.Prelude.{option_and_then}
use Rattle.serde_json.specs.Data.{Data}
use Rattle.serde_json.specs.Find.{get, as_null, as_number, as_object, as_str, as_u64}
use Rattle.deadpool_parts.specs.PoolConfig.{as_size, mode_named}
use Rattle.deadpool_parts.specs.Timeouts.{read_duration}
use Rattle.deadpool_settings.specs.Faults.{Place, whole, at, in_timeouts, Located, value_at}
use Rattle.deadpool_settings.specs.Keys.{has_key}
use Rattle.deadpool_settings.specs.declared.fault.Why.{Why}
use Rattle.deadpool_settings.specs.declared.fault.Why.TheVariants as why
use Rattle.deadpool_settings.specs.declared.keys.Section.{Section}
use Rattle.deadpool_settings.specs.declared.keys.Section.TheVariants as section

-- each key that the object has is one that it may have
abbrev pub HasKnownKeys : Section → Data → Type 0
HasKnownKeys s d = (k : List ℕ) (x : Data) → get k d ≡ Some x → IsTrue (has_key s k)

-- whether such a configuration may have something at this place
abbrev pub may_have : Section → Place → Bool
may_have s whole = true
may_have s (at k) = has_key s k
may_have s (in_timeouts k) = has_key section.Timeouts k

abbrev pub is_known : Why → Bool
is_known why.NoObject = true
is_known why.Missing = true
is_known why.NoNumber = true
is_known why.OutOfRange = true
is_known why.NoDuration = true
is_known why.NoQueueMode = true
is_known why.Unknown = false

-- this is wrong with what stands at a place
abbrev pub IsWrong : Why → Option Data → Type 0
IsWrong why.NoObject v = IsSomeAnd v (λ x. as_object x ≡ None)
IsWrong why.Missing v = v ≡ None
IsWrong why.NoNumber v = IsSomeAnd v (λ x. as_number x ≡ None)
IsWrong why.OutOfRange v =
    IsSomeAnd v (λ x. IsSome (as_number x) × (option_and_then as_size (option_and_then as_u64 (as_number x)) ≡ None))
IsWrong why.NoDuration v = IsSomeAnd v (λ x. (as_null x ≡ None) × (read_duration x ≡ None))
IsWrong why.NoQueueMode v = IsSomeAnd v (λ x. option_and_then mode_named (as_str x) ≡ None)
IsWrong why.Unknown v = IsSome v

-- There is this fault: what stands at its place is wrong, and the place is unknown exactly if that is the reason.
pub record IsFault (s : Section) (d : Data) (l : Located) : Type 0 where
  pub wrong : IsWrong l.why (value_at l.place d)
  pub known : may_have s l.place ≡ is_known l.why
