-- What was written is read as the same.
use Rattle.std.specs.Prelude.{ℕ, ◌≡◌, ◌<◌, ◌^◌, Option, Some, None, Ok, IfSome}
use Rattle.std.specs.Duration.{FitsDuration}
use Rattle.deadpool_parts.proofs.ReadsBack.{read_size-written, read_timeout-written_timeout, read_max_waiting-written}
use Rattle.deadpool_unmanaged.specs.Config.{ReadsWritten, Settings, read_config, written_config}

abbrev settings : ℕ → Option ℕ → Option ℕ → Settings
settings n timeout most = record { max_size = n; timeout = timeout; max_waiting = most }

reads_bounded : (n : ℕ) (timeout most : Option ℕ) → n < 2 ^ 64 → IfSome timeout FitsDuration
    → IfSome most (λ m. m < 2 ^ 64)
    → read_config (written_config (settings n timeout most)) ≡ Ok (settings n timeout most)
reads_bounded n timeout None size fits bound = rw (read_size-written n size, read_timeout-written_timeout timeout fits)
reads_bounded n timeout (Some most) size fits bound =
    rw (
      read_size-written n size,
      read_timeout-written_timeout timeout fits,
      read_max_waiting-written most bound,
    )

pub reads_written : ReadsWritten
reads_written s fits = reads_bounded s.max_size s.timeout s.max_waiting fits.max_size fits.timeout fits.max_waiting
