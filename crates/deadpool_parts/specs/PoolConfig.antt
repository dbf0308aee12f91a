-- A configuration in JSON: what a value says, or the first fault in it, and back.
use Rattle.std.specs.Prelude.{◌≡◌, ℕ, ◌^◌, ◌<◌, nat_lt, is_some, if◌then◌else◌, bytes_eq, List, Option, Some, None}
use Rattle.std.specs.Prelude.{Result, Ok, Err, IfSome, option_and_then, codes}
use Rattle.std.specs.Option.{ok_or}
use Rattle.serde_json.specs.Data.{Data, Members, number, object, string, unsigned, member, no_members}
use Rattle.serde_json.specs.Find.{get, as_null, as_number, as_object, as_str, as_u64}
use Rattle.deadpool_parts.specs.Result.{result_map, result_and_then}
use Rattle.deadpool_parts.specs.Timeouts.{Durations, FitsTimeouts, durations_of, read_timeouts, written_timeouts}
use Rattle.deadpool_parts.specs.declared.config.PoolConfig.{PoolConfig}
use Rattle.deadpool_parts.specs.declared.config.QueueMode.{QueueMode}
use Rattle.deadpool_parts.specs.declared.config.QueueMode.TheVariants.{Fifo, Lifo}
use Rattle.deadpool_parts.specs.declared.errors.ConfigError.{ConfigError}
use Rattle.deadpool_parts.specs.declared.errors.ConfigError.TheVariants.{BadMaxWaiting, BadMinIdle, BadNumber}
use Rattle.deadpool_parts.specs.declared.errors.ConfigError.TheVariants.{BadQueueMode}
use Rattle.deadpool_parts.specs.declared.errors.ConfigError.TheVariants.{MissingMaxSize, NotAnObject}

-- a configuration, its durations in nanoseconds
pub record Settings : Type 0 where
  pub max_size : ℕ
  pub timeouts : Durations
  pub queue_mode : QueueMode
  pub min_idle : ℕ
  pub max_waiting : Option ℕ

abbrev pub settings_of : PoolConfig → Settings
settings_of c = record {
  max_size = c.max_size;
  timeouts = durations_of c.timeouts;
  queue_mode = c.queue_mode;
  min_idle = c.min_idle;
  max_waiting = c.max_waiting;
}

-- a `PoolConfig` can have these
pub record FitsPoolConfig (s : Settings) : Type 0 where
  pub max_size : s.max_size < 2 ^ 64
  pub timeouts : FitsTimeouts s.timeouts
  pub min_idle : s.min_idle < 2 ^ 64
  pub max_waiting : IfSome s.max_waiting (λ n. n < 2 ^ 64)

-- ---- reading

-- a number that a `usize` can have
abbrev pub as_size : ℕ → Option ℕ
as_size n = if nat_lt n (2 ^ 64) then Some n else None

-- what stands at `max_size`
abbrev pub read_size : Option Data → Result ℕ ConfigError
read_size None = Err MissingMaxSize
read_size (Some d) = ok_or (option_and_then as_size (option_and_then as_u64 (as_number d))) BadNumber

-- the size of the configuration that a value is
abbrev pub read_max_size : Data → Result ℕ ConfigError
read_max_size d = if is_some (as_object d) then read_size (get (codes "max_size") d) else Err NotAnObject

abbrev pub mode_named : List ℕ → Option QueueMode
mode_named name = if bytes_eq name (codes "Fifo") then Some Fifo else
    (if bytes_eq name (codes "Lifo") then Some Lifo else None)

-- what stands at `queue_mode`
abbrev pub read_queue_mode : Option Data → Result QueueMode ConfigError
read_queue_mode None = Ok Fifo
read_queue_mode (Some d) = ok_or (option_and_then mode_named (as_str d)) BadQueueMode

-- what stands at `min_idle`
abbrev pub read_min_idle : Option Data → Result ℕ ConfigError
read_min_idle None = Ok 0
read_min_idle (Some d) = ok_or (option_and_then as_size (option_and_then as_u64 (as_number d))) BadMinIdle

-- what stands at `max_waiting`
abbrev pub read_max_waiting : Option Data → Result (Option ℕ) ConfigError
read_max_waiting None = Ok None
read_max_waiting (Some d) =
    if is_some (as_null d) then Ok None
    else result_map Some (ok_or (option_and_then as_size (option_and_then as_u64 (as_number d))) BadMaxWaiting)

-- Faults are looked for in the order of these steps.
abbrev pub read_config : Data → Result Settings ConfigError
read_config d =
    result_and_then
    (λ n. result_and_then
    (λ l. result_and_then
    (λ mode. result_and_then
    (λ min_idle. result_map
    (λ most. record { max_size = n; timeouts = l; queue_mode = mode; min_idle = min_idle; max_waiting = most })
    (read_max_waiting (get (codes "max_waiting") d)))
    (read_min_idle (get (codes "min_idle") d)))
    (read_queue_mode (get (codes "queue_mode") d)))
    (read_timeouts (get (codes "timeouts") d)))
    (read_max_size d)

-- ---- writing

abbrev pub mode_name : QueueMode → List ℕ
mode_name Fifo = codes "Fifo"
mode_name Lifo = codes "Lifo"

-- with a bound, if there is one, and these members behind it
abbrev pub with_max_waiting : Option ℕ → Members → Members
with_max_waiting None behind = behind
with_max_waiting (Some n) behind = member (codes "max_waiting") (number (unsigned n)) behind

-- a configuration, with its timeouts as they are written
abbrev pub written_around : Settings → Data → Data
written_around s timeouts =
    object (member (codes "max_size") (number (unsigned s.max_size))
    (with_max_waiting s.max_waiting
    (member (codes "min_idle") (number (unsigned s.min_idle))
    (member (codes "queue_mode") (string (mode_name s.queue_mode)) (member (codes "timeouts") timeouts no_members)))))

abbrev pub written_config : Settings → Data
written_config s = written_around s (written_timeouts s.timeouts)

-- each configuration in range is read as it was written
abbrev pub ReadsWritten : Type 0
ReadsWritten = (s : Settings) → FitsPoolConfig s → read_config (written_config s) ≡ Ok s
