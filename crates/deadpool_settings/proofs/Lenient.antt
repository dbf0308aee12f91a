-- What a lenient reading tells of each key, and what stands there then.
use Rattle.deadpool_settings.proofs.Words.{◌≡◌, ℕ, Option, Some, None, Ok, Err, refl, sym, subst, inl, inr}
use Rattle.deadpool_settings.proofs.Words.{is_some, true, cases_Bool, option_and_then, ok_or, codes, Data, get}
use Rattle.deadpool_settings.proofs.Words.{as_null, as_number, as_object, as_str, as_u64, not_some, map_failed}
use Rattle.deadpool_settings.proofs.Words.{ok_or_failed}
use Rattle.serde_json.specs.Data.{Num}
use Rattle.deadpool_parts.specs.PoolConfig.{as_size, mode_named, read_max_size, read_max_waiting, read_min_idle}
use Rattle.deadpool_parts.specs.PoolConfig.{read_queue_mode, read_size}
use Rattle.deadpool_parts.specs.Timeouts.{read_duration, read_timeout}
use Rattle.deadpool_parts.specs.declared.errors.ConfigError.{ConfigError}
use Rattle.deadpool_parts.specs.declared.errors.ConfigError.TheVariants as config
use Rattle.deadpool_settings.specs.Faults.{number_why}
use Rattle.deadpool_settings.specs.Laws.{IsWrong, is_known}
use Rattle.deadpool_settings.specs.declared.fault.Why.TheVariants as why

-- no number that a `usize` can have
abbrev pub NoSize : Data → Type 0
NoSize x = option_and_then as_size (option_and_then as_u64 (as_number x)) ≡ None

wrong_by : (x : Data) (n : Option Num) → as_number x ≡ n → NoSize x → IsWrong (number_why (Some x)) (Some x)
wrong_by x None is h = rw is is
wrong_by x (Some n) is h = let there : is_some (as_number x) ≡ true = rw is refl in rw is (there, h)

-- what is wrong with such a value
pub wrong_number : (v : Option Data) (x : Data) → v ≡ Some x → NoSize x → IsWrong (number_why v) v
wrong_number v x is h = subst (λ v. IsWrong (number_why v) v) (sym is) (wrong_by x (as_number x) refl h)

number_is_known_by : (x : Data) → is_known (number_why (Some x)) ≡ true
number_is_known_by x =
    elim (cases_Bool (is_some (as_number x))) [
      | inl is ↦ rw is refl
      | inr is ↦ rw is refl
    ]

-- a number's key is no unknown one
pub number_is_known : (v : Option Data) → is_known (number_why v) ≡ true
number_is_known None = refl
number_is_known (Some x) = number_is_known_by x

-- ---- max_size

pub data SizeFault (d : Data) (e : ConfigError) : Type 0 where
  no_object : as_object d ≡ None → e ≡ config.NotAnObject → SizeFault d e
  missing : get (codes "max_size") d ≡ None → e ≡ config.MissingMaxSize → SizeFault d e
  no_size : (x : Data) → get (codes "max_size") d ≡ Some x → NoSize x → e ≡ config.BadNumber → SizeFault d e

size_fault_at : (d : Data) (e : ConfigError) (v : Option Data) → get (codes "max_size") d ≡ v → read_size v ≡ Err e
    → SizeFault d e
size_fault_at d e None is h = let why : e ≡ config.MissingMaxSize = cc in missing is why
size_fault_at d e (Some x) is h =
    let why = ok_or_failed (option_and_then as_size (option_and_then as_u64 (as_number x))) config.BadNumber e h in
    no_size x is why.0 why.1

pub size_fault : (d : Data) (e : ConfigError) → read_max_size d ≡ Err e → SizeFault d e
size_fault d e h =
    elim (cases_Bool (is_some (as_object d))) [
      | inl is ↦ size_fault_at d e (get (codes "max_size") d) refl (rw is at h)
      | inr is ↦ let other = rw is at h in let why : e ≡ config.NotAnObject = cc in
          no_object (not_some (as_object d) is) why
    ]

-- a size stands in an object
pub size_in_object : (d : Data) (n : ℕ) → read_max_size d ≡ Ok n → is_some (as_object d) ≡ true
size_in_object d n h =
    elim (cases_Bool (is_some (as_object d))) [
      | inl is ↦ is
      | inr is ↦ let other = rw is at h in cc
    ]

-- ---- a timeout

pub timeout_fault : (v : Option Data) (e : ConfigError) → read_timeout v ≡ Err e
    → IsWrong why.NoDuration v × (e ≡ config.BadDuration)
timeout_fault None e h = cc
timeout_fault (Some x) e h =
    elim (cases_Bool (is_some (as_null x))) [
      | inl is ↦ let other = rw is at h in cc
      | inr is ↦
          let failed = map_failed Some (ok_or (read_duration x) config.BadDuration) e (rw is at h) in
          let why = ok_or_failed (read_duration x) config.BadDuration e failed in
          ((not_some (as_null x) is, why.0), why.1)
    ]

-- ---- the others

pub mode_fault : (v : Option Data) (e : ConfigError) → read_queue_mode v ≡ Err e
    → IsWrong why.NoQueueMode v × (e ≡ config.BadQueueMode)
mode_fault None e h = cc
mode_fault (Some x) e h = ok_or_failed (option_and_then mode_named (as_str x)) config.BadQueueMode e h

pub min_idle_fault : (v : Option Data) (e : ConfigError) → read_min_idle v ≡ Err e
    → IsWrong (number_why v) v × (e ≡ config.BadMinIdle)
min_idle_fault None e h = cc
min_idle_fault (Some x) e h =
    let why = ok_or_failed (option_and_then as_size (option_and_then as_u64 (as_number x))) config.BadMinIdle e h in
    (wrong_number (Some x) x refl why.0, why.1)

pub max_waiting_fault : (v : Option Data) (e : ConfigError) → read_max_waiting v ≡ Err e
    → IsWrong (number_why v) v × (e ≡ config.BadMaxWaiting)
max_waiting_fault None e h = cc
max_waiting_fault (Some x) e h =
    elim (cases_Bool (is_some (as_null x))) [
      | inl is ↦ let other = rw is at h in cc
      | inr is ↦
          let size = option_and_then as_size (option_and_then as_u64 (as_number x)) in
          let failed = map_failed Some (ok_or size config.BadMaxWaiting) e (rw is at h) in
          let why = ok_or_failed size config.BadMaxWaiting e failed in
          (wrong_number (Some x) x refl why.0, why.1)
    ]
