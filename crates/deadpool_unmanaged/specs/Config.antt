-- A configuration in JSON: what a value says, or the first fault in it, and back. The runtime is not written.
use Rattle.std.specs.Prelude.{◌≡◌, ℕ, ◌^◌, ◌<◌, Option, Result, Ok, option_map, IfSome, codes}
use Rattle.std.specs.Duration.{as_nanos, FitsDuration}
use Rattle.serde_json.specs.Data.{Data, number, object, unsigned, member, no_members}
use Rattle.serde_json.specs.Find.{get}
use Rattle.deadpool_parts.specs.PoolConfig.{read_max_size, read_max_waiting, with_max_waiting}
use Rattle.deadpool_parts.specs.Result.{result_map, result_and_then}
use Rattle.deadpool_parts.specs.Timeouts.{read_timeout, written_timeout}
use Rattle.deadpool_parts.specs.declared.errors.ConfigError.{ConfigError}
use Rattle.deadpool_unmanaged.specs.declared.config.PoolConfig.{PoolConfig}

-- a configuration without its runtime, its timeout in nanoseconds
pub record Settings : Type 0 where
  pub max_size : ℕ
  pub timeout : Option ℕ
  pub max_waiting : Option ℕ

abbrev pub settings_of : PoolConfig → Settings
settings_of c = record {
  max_size = c.max_size;
  timeout = option_map as_nanos c.timeout;
  max_waiting = c.max_waiting;
}

-- a `PoolConfig` can have these
pub record FitsPoolConfig (s : Settings) : Type 0 where
  pub max_size : s.max_size < 2 ^ 64
  pub timeout : IfSome s.timeout FitsDuration
  pub max_waiting : IfSome s.max_waiting (λ n. n < 2 ^ 64)

-- faults are looked for in the size, then in the timeout, and last in the bound
abbrev pub read_config : Data → Result Settings ConfigError
read_config d =
    result_and_then
    (λ n. result_and_then
    (λ t. result_map (λ most. record { max_size = n; timeout = t; max_waiting = most })
    (read_max_waiting (get (codes "max_waiting") d)))
    (read_timeout (get (codes "timeout") d)))
    (read_max_size d)

abbrev pub written_config : Settings → Data
written_config s =
    object (member (codes "max_size") (number (unsigned s.max_size))
    (with_max_waiting s.max_waiting (member (codes "timeout") (written_timeout s.timeout) no_members)))

-- each configuration in range is read as it was written
abbrev pub ReadsWritten : Type 0
ReadsWritten = (s : Settings) → FitsPoolConfig s → read_config (written_config s) ≡ Ok s
