-- What was written is read as the same.
use Rattle.deadpool_parts.proofs.Words.{ℕ, ◌≡◌, ◌<◌, ◌^◌, Option, Some, None, Ok, IfSome, refl, rules, QueueMode, Fifo}
use Rattle.deadpool_parts.proofs.Words.{Lifo}
use Rattle.std.specs.Duration.{FitsDuration}
use Rattle.deadpool_parts.specs.{PoolConfig.ReadsWritten, PoolConfig.mode_name, PoolConfig.read_min_idle}
use Rattle.deadpool_parts.specs.{PoolConfig.Settings, PoolConfig.read_config}
use Rattle.deadpool_parts.specs.{PoolConfig.read_max_waiting, PoolConfig.written_config}
use Rattle.deadpool_parts.specs.{PoolConfig.read_queue_mode, PoolConfig.read_size, Timeouts.Durations}
use Rattle.deadpool_parts.specs.{Timeouts.FitsTimeouts, Timeouts.read_duration, Timeouts.read_timeouts}
use Rattle.deadpool_parts.specs.{Timeouts.read_timeout, Timeouts.written_duration, Timeouts.written_timeouts}
use Rattle.deadpool_parts.specs.{Timeouts.written_timeout}
use Rattle.serde_json.specs.Data.{Data, number, string, unsigned}

pub read_duration-written_duration : (n : ℕ) → FitsDuration n → read_duration (written_duration n) ≡ Some n
read_duration-written_duration n fits = search rules

pub read_timeout-written_timeout : (t : Option ℕ) → IfSome t FitsDuration
    → read_timeout (Some (written_timeout t)) ≡ Ok t
read_timeout-written_timeout None fits = refl
read_timeout-written_timeout (Some n) fits = rw (read_duration-written_duration n fits)

pub read_timeouts-written_timeouts : (l : Durations) → FitsTimeouts l → read_timeouts (Some (written_timeouts l)) ≡ Ok l
read_timeouts-written_timeouts l fits =
    rw (
      read_timeout-written_timeout l.wait fits.wait,
      read_timeout-written_timeout l.create fits.create,
      read_timeout-written_timeout l.recycle fits.recycle,
    )

pub read_size-written : (n : ℕ) → n < 2 ^ 64 → read_size (Some (number (unsigned n))) ≡ Ok n
read_size-written n fits = search rules

abbrev settings : ℕ → Durations → QueueMode → ℕ → Option ℕ → Settings
settings n l mode min_idle most =
    record { max_size = n; timeouts = l; queue_mode = mode; min_idle = min_idle; max_waiting = most }

read_min_idle-written : (n : ℕ) → n < 2 ^ 64 → read_min_idle (Some (number (unsigned n))) ≡ Ok n
read_min_idle-written n fits = search rules

read_queue_mode-mode_name : (mode : QueueMode) → read_queue_mode (Some (string (mode_name mode))) ≡ Ok mode
read_queue_mode-mode_name Fifo = refl
read_queue_mode-mode_name Lifo = refl

pub read_max_waiting-written : (n : ℕ) → n < 2 ^ 64 → read_max_waiting (Some (number (unsigned n))) ≡ Ok (Some n)
read_max_waiting-written n fits = search rules

reads_bounded : (n : ℕ) (l : Durations) (mode : QueueMode) (min_idle : ℕ) (most : Option ℕ) → n < 2 ^ 64
    → read_timeouts (Some (written_timeouts l)) ≡ Ok l → min_idle < 2 ^ 64 → IfSome most (λ m. m < 2 ^ 64)
    → read_config (written_config (settings n l mode min_idle most)) ≡ Ok (settings n l mode min_idle most)
reads_bounded n l mode min_idle None size timeouts few bound =
    rw (read_size-written n size, timeouts, read_queue_mode-mode_name mode, read_min_idle-written min_idle few)
reads_bounded n l mode min_idle (Some most) size timeouts few bound =
    rw (
      read_size-written n size,
      timeouts,
      read_queue_mode-mode_name mode,
      read_min_idle-written min_idle few,
      read_max_waiting-written most bound,
    )

-- what was written of settings whose timeouts are read back is read as the same
pub reads_as : (d : Data) (s : Settings) → d ≡ written_config s
    → read_timeouts (Some (written_timeouts s.timeouts)) ≡ Ok s.timeouts → s.max_size < 2 ^ 64 → s.min_idle < 2 ^ 64
    → IfSome s.max_waiting (λ m. m < 2 ^ 64) → read_config d ≡ Ok s
reads_as d s is timeouts size few bound =
    rw is (reads_bounded s.max_size s.timeouts s.queue_mode s.min_idle s.max_waiting size timeouts few bound)

pub reads_written : ReadsWritten
reads_written s fits = reads_as (written_config s) s refl (read_timeouts-written_timeouts s.timeouts fits.timeouts)
    fits.max_size fits.min_idle fits.max_waiting
