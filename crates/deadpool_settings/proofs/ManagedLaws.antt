-- What the strict reading of a managed pool's configuration is.
use Rattle.deadpool_settings.proofs.Words.{◌≡◌, ℕ, List, Option, Some, None, Ok, Err, Result, refl, sym}
use Rattle.deadpool_settings.proofs.Words.{subst, inl, inr, true, is_some, cases_Bool, option_and_then}
use Rattle.deadpool_settings.proofs.Words.{codes, Data, get, as_object, not_some, result_map, result_and_then}
use Rattle.deadpool_settings.proofs.Words.{result_map_err, failed_one, map_failed, map_err_ok, map_err_failed}
use Rattle.deadpool_settings.proofs.KnownKeys.{key_is_unknown, keys_are_known, none_is_unknown}
use Rattle.deadpool_settings.proofs.Lenient.{SizeFault, no_object, missing, no_size, size_fault, size_in_object}
use Rattle.deadpool_settings.proofs.Lenient.{wrong_number, number_is_known, timeout_fault, mode_fault, min_idle_fault}
use Rattle.deadpool_settings.proofs.Lenient.{max_waiting_fault}
use Rattle.deadpool_settings.specs.Faults.{at, in_timeouts, Located, unless_unknown}
use Rattle.deadpool_settings.specs.Keys.{has_key, unknown_key}
use Rattle.deadpool_settings.specs.Laws.{HasKnownKeys, IsFault, IsWrong}
use Rattle.deadpool_settings.specs.Managed.{ReadsExactly, TellsFaults, first_bad_timeout, located}
use Rattle.deadpool_settings.specs.Managed.{unknown_of}
use Rattle.deadpool_settings.specs.declared.fault.Why.TheVariants as why
use Rattle.deadpool_settings.specs.declared.keys.Section.TheVariants as section
use Rattle.deadpool_parts.specs.PoolConfig.{Settings, read_config, read_max_size, read_max_waiting, read_min_idle}
use Rattle.deadpool_parts.specs.PoolConfig.{read_queue_mode}
use Rattle.deadpool_parts.specs.Timeouts.{Durations, read_timeout, read_timeouts}
use Rattle.deadpool_parts.specs.declared.config.QueueMode.{QueueMode}
use Rattle.deadpool_parts.specs.declared.errors.ConfigError.{ConfigError}
use Rattle.deadpool_parts.specs.declared.errors.ConfigError.TheVariants as config

-- ---- the faults of a lenient reading

size_is_at_fault : (d : Data) (e : ConfigError) → SizeFault d e → IsFault section.Managed d (located d e)
size_is_at_fault d e (no_object is why) = rw (why, is) (record { wrong = is; known = refl })
size_is_at_fault d e (missing is why) = rw why (record { wrong = is; known = refl })
size_is_at_fault d e (no_size x is none why) =
    let v = get (codes "max_size") d in
    rw why (record { wrong = wrong_number v x is none; known = sym (number_is_known v) })

-- in an object, the timeouts may be none
no_object_is_at_fault : (d t : Data) (e : ConfigError) → is_some (as_object d) ≡ true
    → get (codes "timeouts") d ≡ Some t → as_object t ≡ None → e ≡ config.NotAnObject
    → IsFault section.Managed d (located d e)
no_object_is_at_fault d t e object is none why = rw (why, object) (record { wrong = rw is none; known = refl })

-- the first of the timeouts that is at fault
abbrev FirstBad : Data → List ℕ → Type 0
FirstBad t key = (first_bad_timeout (Some t) ≡ key) × IsWrong why.NoDuration (get key t)

duration_is_at_fault : (d t : Data) (e : ConfigError) (key : List ℕ) → get (codes "timeouts") d ≡ Some t
    → e ≡ config.BadDuration → FirstBad t key → has_key section.Timeouts key ≡ true
    → IsFault section.Managed d (located d e)
duration_is_at_fault d t e key is why bad known = rw (why, is, bad.0) (record { wrong = rw is bad.1; known = known })

abbrev after_create : Data → Option ℕ → Option ℕ → Result Durations ConfigError
after_create t w c =
    result_map (λ r. record { wait = w; create = c; recycle = r }) (read_timeout (get (codes "recycle") t))

abbrev after_wait : Data → Option ℕ → Result Durations ConfigError
after_wait t w = result_and_then (after_create t w) (read_timeout (get (codes "create") t))

late_is_at_fault : (d t : Data) (e : ConfigError) (w : Option ℕ) → get (codes "timeouts") d ≡ Some t
    → read_timeout (get (codes "wait") t) ≡ Ok w → after_wait t w ≡ Err e → IsFault section.Managed d (located d e)
late_is_at_fault d t e w is wait h =
    elim (failed_one (after_create t w) (read_timeout (get (codes "create") t)) e h) [
      | inl create ↦
          let why = timeout_fault (get (codes "create") t) e create in
          duration_is_at_fault d t e (codes "create") is why.1 (rw (wait, create) refl, why.0) refl
      | inr later ↦
          let create = later.1 in
          let failed = map_failed (λ r. record { wait = w; create = later.0; recycle = r })
          (read_timeout (get (codes "recycle") t)) e later.2 in
          let why = timeout_fault (get (codes "recycle") t) e failed in
          duration_is_at_fault d t e (codes "recycle") is why.1 (rw (wait, create) refl, why.0) refl
    ]

timeouts_are_at_fault : (d : Data) (e : ConfigError) (v : Option Data) → is_some (as_object d) ≡ true
    → get (codes "timeouts") d ≡ v → read_timeouts v ≡ Err e → IsFault section.Managed d (located d e)
timeouts_are_at_fault d e None object is h = cc
timeouts_are_at_fault d e (Some t) object is h =
    elim (cases_Bool (is_some (as_object t))) [
      | inl inner ↦
          elim (failed_one (after_wait t) (read_timeout (get (codes "wait") t)) e (rw inner at h)) [
            | inl wait ↦
                let why = timeout_fault (get (codes "wait") t) e wait in
                duration_is_at_fault d t e (codes "wait") is why.1 (rw wait refl, why.0) refl
            | inr later ↦ late_is_at_fault d t e later.0 is later.1 later.2
          ]
      | inr inner ↦
          let other = rw inner at h in
          let why : e ≡ config.NotAnObject = cc in
          no_object_is_at_fault d t e object is (not_some (as_object t) inner) why
    ]

abbrev after_min_idle : Data → ℕ → Durations → QueueMode → ℕ → Result Settings ConfigError
after_min_idle d n l mode idle =
    result_map
    (λ most. record { max_size = n; timeouts = l; queue_mode = mode; min_idle = idle; max_waiting = most })
    (read_max_waiting (get (codes "max_waiting") d))

abbrev after_mode : Data → ℕ → Durations → QueueMode → Result Settings ConfigError
after_mode d n l mode = result_and_then (after_min_idle d n l mode) (read_min_idle (get (codes "min_idle") d))

abbrev after_timeouts : Data → ℕ → Durations → Result Settings ConfigError
after_timeouts d n l = result_and_then (after_mode d n l) (read_queue_mode (get (codes "queue_mode") d))

abbrev after_size : Data → ℕ → Result Settings ConfigError
after_size d n = result_and_then (after_timeouts d n) (read_timeouts (get (codes "timeouts") d))

bound_is_at_fault : (d : Data) (e : ConfigError) (n : ℕ) (l : Durations) (mode : QueueMode) (idle : ℕ)
    → after_min_idle d n l mode idle ≡ Err e → IsFault section.Managed d (located d e)
bound_is_at_fault d e n l mode idle h =
    let v = get (codes "max_waiting") d in
    let failed = map_failed
    (λ most. record { max_size = n; timeouts = l; queue_mode = mode; min_idle = idle; max_waiting = most })
    (read_max_waiting v) e h in
    let why = max_waiting_fault v e failed in
    rw why.1 (record { wrong = why.0; known = sym (number_is_known v) })

idle_is_at_fault : (d : Data) (e : ConfigError) (n : ℕ) (l : Durations) (mode : QueueMode)
    → after_mode d n l mode ≡ Err e → IsFault section.Managed d (located d e)
idle_is_at_fault d e n l mode h =
    let v = get (codes "min_idle") d in
    elim (failed_one (after_min_idle d n l mode) (read_min_idle v) e h) [
      | inl idle ↦ let why = min_idle_fault v e idle in
          rw why.1 (record { wrong = why.0; known = sym (number_is_known v) })
      | inr later ↦ bound_is_at_fault d e n l mode later.0 later.2
    ]

mode_is_at_fault : (d : Data) (e : ConfigError) (n : ℕ) (l : Durations) → after_timeouts d n l ≡ Err e
    → IsFault section.Managed d (located d e)
mode_is_at_fault d e n l h =
    let v = get (codes "queue_mode") d in
    elim (failed_one (after_mode d n l) (read_queue_mode v) e h) [
      | inl mode ↦ let why = mode_fault v e mode in rw why.1 (record { wrong = why.0; known = refl })
      | inr later ↦ idle_is_at_fault d e n l later.0 later.2
    ]

lenient_is_at_fault : (d : Data) (e : ConfigError) → read_config d ≡ Err e → IsFault section.Managed d (located d e)
lenient_is_at_fault d e h =
    elim (failed_one (after_size d) (read_max_size d) e h) [
      | inl size ↦ size_is_at_fault d e (size_fault d e size)
      | inr later ↦
          let v = get (codes "timeouts") d in
          elim (failed_one (after_timeouts d later.0) (read_timeouts v) e later.2) [
            | inl timeouts ↦ timeouts_are_at_fault d e v (size_in_object d later.0 later.1) refl timeouts
            | inr last ↦ mode_is_at_fault d e later.0 last.0 last.2
          ]
    ]

-- ---- unknown keys

abbrev unknown_timeout : Option Data → Option (List ℕ)
unknown_timeout v = option_and_then (unknown_key (has_key section.Timeouts)) v

unknown_is_at_fault : (d : Data) (k : List ℕ) → unknown_key (has_key section.Managed) d ≡ Some k
    → IsFault section.Managed d (record { place = at k; why = why.Unknown })
unknown_is_at_fault d k is =
    let unknown = key_is_unknown (has_key section.Managed) d k is in
    record { wrong = unknown.0; known = unknown.1 }

inner_is_at_fault : (d : Data) (k : List ℕ) (v : Option Data) → get (codes "timeouts") d ≡ v
    → unknown_timeout v ≡ Some k → IsFault section.Managed d (record { place = in_timeouts k; why = why.Unknown })
inner_is_at_fault d k None is h = cc
inner_is_at_fault d k (Some t) is h =
    let unknown = key_is_unknown (has_key section.Timeouts) t k h in
    record { wrong = rw is unknown.0; known = unknown.1 }

known_inside : (v : Option Data) → unknown_timeout v ≡ None → (t : Data) → v ≡ Some t → HasKnownKeys section.Timeouts t
known_inside v h t is = keys_are_known (has_key section.Timeouts) t (rw is at h)

none_inside : (v : Option Data) → ((t : Data) → v ≡ Some t → HasKnownKeys section.Timeouts t)
    → unknown_timeout v ≡ None
none_inside None known = refl
none_inside (Some t) known = none_is_unknown (has_key section.Timeouts) t (known t refl)

-- ---- the strict reading

strict_fault : (d : Data) (l : Located) (first inner : Option (List ℕ))
    → unknown_key (has_key section.Managed) d ≡ first → unknown_timeout (get (codes "timeouts") d) ≡ inner
    → unless_unknown (unknown_of first inner) (result_map_err (located d) (read_config d)) ≡ Err l
    → IsFault section.Managed d l
strict_fault d l None None outer inside h =
    let why = map_err_failed (located d) (read_config d) l h in
    rw why.2 (lenient_is_at_fault d why.0 why.1)
strict_fault d l None (Some k) outer inside h =
    let same : record { place = in_timeouts k; why = why.Unknown } ≡ l = cc in
    subst (λ l. IsFault section.Managed d l) same (inner_is_at_fault d k (get (codes "timeouts") d) refl inside)
strict_fault d l (Some k) inner outer inside h =
    let same : record { place = at k; why = why.Unknown } ≡ l = cc in
    subst (λ l. IsFault section.Managed d l) same (unknown_is_at_fault d k outer)

pub tells_faults : TellsFaults
tells_faults d l h =
    strict_fault d l (unknown_key (has_key section.Managed) d) (unknown_timeout (get (codes "timeouts") d)) refl refl h

abbrev IsLenient : Data → Settings → Type 0
IsLenient d s =
    (read_config d ≡ Ok s) × HasKnownKeys section.Managed d
    × ((t : Data) → get (codes "timeouts") d ≡ Some t → HasKnownKeys section.Timeouts t)

strict_is_lenient : (d : Data) (s : Settings) (first inner : Option (List ℕ))
    → unknown_key (has_key section.Managed) d ≡ first → unknown_timeout (get (codes "timeouts") d) ≡ inner
    → unless_unknown (unknown_of first inner) (result_map_err (located d) (read_config d)) ≡ Ok s → IsLenient d s
strict_is_lenient d s None None outer inside h = (
  map_err_ok (located d) (read_config d) s h,
  keys_are_known (has_key section.Managed) d outer,
  known_inside (get (codes "timeouts") d) inside,
)
strict_is_lenient d s None (Some k) outer inside h = cc
strict_is_lenient d s (Some k) inner outer inside h = cc

pub reads_exactly : ReadsExactly
reads_exactly d s = (
  (λ h. strict_is_lenient d s (unknown_key (has_key section.Managed) d) (unknown_timeout (get (codes "timeouts") d))
      refl refl h),
  (λ h. rw (
    none_is_unknown (has_key section.Managed) d h.1,
    none_inside (get (codes "timeouts") d) h.2,
    h.0,
  ) refl),
)
