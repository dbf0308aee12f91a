-- What the strict reading of an unmanaged pool's configuration is.
use Rattle.deadpool_settings.proofs.Words.{◌≡◌, ℕ, List, Option, Some, None, Ok, Err, Result, refl, sym}
use Rattle.deadpool_settings.proofs.Words.{subst, inl, inr, option_map, codes, Data, get, result_map, result_and_then}
use Rattle.deadpool_settings.proofs.Words.{result_map_err, failed_one, map_failed, map_err_ok, map_err_failed}
use Rattle.deadpool_settings.proofs.KnownKeys.{key_is_unknown, keys_are_known, none_is_unknown}
use Rattle.deadpool_settings.proofs.Lenient.{SizeFault, no_object, missing, no_size, size_fault, wrong_number}
use Rattle.deadpool_settings.proofs.Lenient.{number_is_known, timeout_fault, max_waiting_fault}
use Rattle.deadpool_settings.specs.Faults.{at, Located, unless_unknown}
use Rattle.deadpool_settings.specs.Keys.{has_key, unknown_key}
use Rattle.deadpool_settings.specs.Laws.{HasKnownKeys, IsFault}
use Rattle.deadpool_settings.specs.Unmanaged.{ReadsExactly, TellsFaults, located}
use Rattle.deadpool_settings.specs.declared.fault.Why.TheVariants as why
use Rattle.deadpool_settings.specs.declared.keys.Section.TheVariants as section
use Rattle.deadpool_parts.specs.PoolConfig.{read_max_size, read_max_waiting}
use Rattle.deadpool_parts.specs.Timeouts.{read_timeout}
use Rattle.deadpool_parts.specs.declared.errors.ConfigError.{ConfigError}
use Rattle.deadpool_unmanaged.specs.Config.{Settings, read_config}

-- ---- the faults of a lenient reading

size_is_at_fault : (d : Data) (e : ConfigError) → SizeFault d e → IsFault section.Unmanaged d (located d e)
size_is_at_fault d e (no_object is why) = rw why (record { wrong = is; known = refl })
size_is_at_fault d e (missing is why) = rw why (record { wrong = is; known = refl })
size_is_at_fault d e (no_size x is none why) =
    let v = get (codes "max_size") d in
    rw why (record { wrong = wrong_number v x is none; known = sym (number_is_known v) })

abbrev after_timeout : Data → ℕ → Option ℕ → Result Settings ConfigError
after_timeout d n t = result_map (λ most. record { max_size = n; timeout = t; max_waiting = most })
    (read_max_waiting (get (codes "max_waiting") d))

abbrev after_size : Data → ℕ → Result Settings ConfigError
after_size d n = result_and_then (after_timeout d n) (read_timeout (get (codes "timeout") d))

last_is_at_fault : (d : Data) (e : ConfigError) (n : ℕ) (t : Option ℕ) → after_timeout d n t ≡ Err e
    → IsFault section.Unmanaged d (located d e)
last_is_at_fault d e n t h =
    let v = get (codes "max_waiting") d in
    let failed = map_failed (λ most. record { max_size = n; timeout = t; max_waiting = most })
    (read_max_waiting v) e h in
    let why = max_waiting_fault v e failed in
    rw why.1 (record { wrong = why.0; known = sym (number_is_known v) })

later_is_at_fault : (d : Data) (e : ConfigError) (n : ℕ) → after_size d n ≡ Err e
    → IsFault section.Unmanaged d (located d e)
later_is_at_fault d e n h =
    let v = get (codes "timeout") d in
    elim (failed_one (after_timeout d n) (read_timeout v) e h) [
      | inl timeout ↦ let why = timeout_fault v e timeout in rw why.1 (record { wrong = why.0; known = refl })
      | inr later ↦ last_is_at_fault d e n later.0 later.2
    ]

lenient_is_at_fault : (d : Data) (e : ConfigError) → read_config d ≡ Err e → IsFault section.Unmanaged d (located d e)
lenient_is_at_fault d e h =
    elim (failed_one (after_size d) (read_max_size d) e h) [
      | inl size ↦ size_is_at_fault d e (size_fault d e size)
      | inr later ↦ later_is_at_fault d e later.0 later.2
    ]

-- ---- the strict reading

strict_fault : (d : Data) (l : Located) (first : Option (List ℕ)) → unknown_key (has_key section.Unmanaged) d ≡ first
    → unless_unknown (option_map at first) (result_map_err (located d) (read_config d)) ≡ Err l
    → IsFault section.Unmanaged d l
strict_fault d l None is h =
    let why = map_err_failed (located d) (read_config d) l h in
    rw why.2 (lenient_is_at_fault d why.0 why.1)
strict_fault d l (Some k) is h =
    let unknown = key_is_unknown (has_key section.Unmanaged) d k is in
    let same : record { place = at k; why = why.Unknown } ≡ l = cc in
    subst (λ l. IsFault section.Unmanaged d l) same (record { wrong = unknown.0; known = unknown.1 })

pub tells_faults : TellsFaults
tells_faults d l h = strict_fault d l (unknown_key (has_key section.Unmanaged) d) refl h

strict_is_lenient : (d : Data) (s : Settings) (first : Option (List ℕ))
    → unknown_key (has_key section.Unmanaged) d ≡ first
    → unless_unknown (option_map at first) (result_map_err (located d) (read_config d)) ≡ Ok s
    → (read_config d ≡ Ok s) × HasKnownKeys section.Unmanaged d
strict_is_lenient d s None is h =
    (map_err_ok (located d) (read_config d) s h, keys_are_known (has_key section.Unmanaged) d is)
strict_is_lenient d s (Some k) is h = cc

pub reads_exactly : ReadsExactly
reads_exactly d s = (
  (λ h. strict_is_lenient d s (unknown_key (has_key section.Unmanaged) d) refl h),
  (λ h. rw (none_is_unknown (has_key section.Unmanaged) d h.1, h.0) refl),
)
