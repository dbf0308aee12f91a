-- Timeouts in JSON. A duration is its nanoseconds here, and no timeout is `None`.
use Rattle.std.specs.Prelude.{ℕ, ◌+◌, ◌*◌, ◌/◌, ◌%◌, ◌^◌, ◌==◌, ◌&&◌, nat_lt, is_some, if◌then◌else◌, List, Option}
use Rattle.std.specs.Prelude.{Some, None, Result, Ok, Err, option_map, option_and_then, IfSome, codes}
use Rattle.std.specs.Duration.{as_nanos, FitsDuration}
use Rattle.std.specs.Option.{ok_or, option_map_or}
use Rattle.serde_json.specs.Data.{Data, null, number, object, unsigned, member, no_members}
use Rattle.serde_json.specs.Events.{members_len}
use Rattle.serde_json.specs.Find.{get, as_null, as_number, as_object, as_u64}
use Rattle.deadpool_parts.specs.Result.{result_map, result_and_then}
use Rattle.deadpool_parts.specs.declared.config.Timeouts.{Timeouts}
use Rattle.deadpool_parts.specs.declared.errors.ConfigError.{ConfigError}
use Rattle.deadpool_parts.specs.declared.errors.ConfigError.TheVariants.{BadDuration, NotAnObject}

-- how long each phase may last
pub record Durations : Type 0 where
  pub wait : Option ℕ
  pub create : Option ℕ
  pub recycle : Option ℕ

abbrev pub durations_of : Timeouts → Durations
durations_of t = record {
  wait = option_map as_nanos t.wait;
  create = option_map as_nanos t.create;
  recycle = option_map as_nanos t.recycle;
}

abbrev pub no_durations : Durations
no_durations = record { wait = None; create = None; recycle = None }

abbrev pub no_timeouts : Timeouts
no_timeouts = record { wait = None; create = None; recycle = None }

-- a `Timeouts` can have these durations
pub record FitsTimeouts (l : Durations) : Type 0 where
  pub wait : IfSome l.wait FitsDuration
  pub create : IfSome l.create FitsDuration
  pub recycle : IfSome l.recycle FitsDuration

-- ---- reading

-- the whole number at the key
abbrev pub number_at : List ℕ → Data → Option ℕ
number_at key d = option_and_then as_u64 (option_and_then as_number (get key d))

-- both parts together, if they are in range and the seconds still are after the carry
abbrev pub nanoseconds_of : ℕ → ℕ → Option ℕ
nanoseconds_of secs nanos = if nat_lt nanos (2 ^ 32)
    && nat_lt (secs + nanos / 1_000_000_000) (2 ^ 64) then Some (secs * 1_000_000_000 + nanos) else None

-- an object with `secs` and `nanos`, and with no third member
abbrev pub read_duration : Data → Option ℕ
read_duration d =
    if option_map_or members_len (as_object d) 0 == 2
    then option_and_then (λ secs. option_and_then (nanoseconds_of secs) (number_at (codes "nanos") d))
    (number_at (codes "secs") d)
    else None

-- what stands at a timeout's key
abbrev pub read_timeout : Option Data → Result (Option ℕ) ConfigError
read_timeout None = Ok None
read_timeout (Some d) = if is_some (as_null d) then Ok None else result_map Some (ok_or (read_duration d) BadDuration)

-- what stands at `timeouts`, with the first fault in it
abbrev pub read_timeouts : Option Data → Result Durations ConfigError
read_timeouts None = Ok no_durations
read_timeouts (Some d) =
    if is_some (as_object d)
    then result_and_then
    (λ w. result_and_then
    (λ c. result_map (λ r. record { wait = w; create = c; recycle = r }) (read_timeout (get (codes "recycle") d)))
    (read_timeout (get (codes "create") d))) (read_timeout (get (codes "wait") d))
    else Err NotAnObject

-- ---- writing

abbrev pub written_duration : ℕ → Data
written_duration n =
    object (member (codes "nanos") (number (unsigned (n % 1_000_000_000)))
    (member (codes "secs") (number (unsigned (n / 1_000_000_000))) no_members))

abbrev pub written_timeout : Option ℕ → Data
written_timeout None = null
written_timeout (Some n) = written_duration n

abbrev pub written_timeouts : Durations → Data
written_timeouts l =
    object (member (codes "create") (written_timeout l.create)
    (member (codes "recycle") (written_timeout l.recycle) (member (codes "wait") (written_timeout l.wait) no_members)))
