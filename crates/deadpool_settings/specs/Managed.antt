-- A managed pool's configuration that is read strictly.
use Rattle.std.specs.Prelude.{◌≡◌, ◌↔◌, ℕ, is_some, is_ok, if◌then◌else◌, List, Option, Some, None}
use Rattle.std.specs.Prelude.{Result, Ok, Err, option_map, option_and_then, codes}
use Rattle.serde_json.specs.Data.{Data}
use Rattle.serde_json.specs.Find.{get, as_object}
use Rattle.deadpool_parts.specs.PoolConfig.{Settings, read_config}
use Rattle.deadpool_parts.specs.Timeouts.{read_timeout}
use Rattle.deadpool_parts.specs.declared.errors.ConfigError.{ConfigError}
use Rattle.deadpool_parts.specs.declared.errors.ConfigError.TheVariants as config
use Rattle.deadpool_settings.specs.Faults.{Place, whole, at, in_timeouts, Located, number_why, unless_unknown}
use Rattle.deadpool_settings.specs.Keys.{has_key, unknown_key}
use Rattle.deadpool_settings.specs.Laws.{HasKnownKeys, IsFault}
use Rattle.deadpool_settings.specs.Results.{result_map_err}
use Rattle.deadpool_settings.specs.declared.fault.Why.TheVariants.{NoObject, Missing, NoDuration, NoQueueMode}
use Rattle.deadpool_settings.specs.declared.keys.Section.TheVariants as section

-- the first unknown key of the configuration, or else of its timeouts
abbrev pub unknown_of : Option (List ℕ) → Option (List ℕ) → Option Place
unknown_of (Some k) timeouts = Some (at k)
unknown_of None timeouts = option_map in_timeouts timeouts

abbrev pub unknown_place : Data → Option Place
unknown_place d = unknown_of (unknown_key (has_key section.Managed) d)
    (option_and_then (unknown_key (has_key section.Timeouts)) (get (codes "timeouts") d))

-- which of the timeouts is at fault first, if one is
abbrev pub first_bad_timeout : Option Data → List ℕ
first_bad_timeout None = codes "wait"
first_bad_timeout (Some t) =
    if is_ok (read_timeout (get (codes "wait") t))
    then (if is_ok (read_timeout (get (codes "create") t)) then codes "recycle" else codes "create")
    else codes "wait"

-- Where the fault lies that a lenient reading tells, and why. Want of memory it never tells.
abbrev pub located : Data → ConfigError → Located
located d config.NotAnObject =
    record { place = if is_some (as_object d) then at (codes "timeouts") else whole; why = NoObject }
located d config.MissingMaxSize = record { place = at (codes "max_size"); why = Missing }
located d config.BadNumber = record { place = at (codes "max_size"); why = number_why (get (codes "max_size") d) }
located d config.BadDuration =
    record { place = in_timeouts (first_bad_timeout (get (codes "timeouts") d)); why = NoDuration }
located d config.BadQueueMode = record { place = at (codes "queue_mode"); why = NoQueueMode }
located d config.BadMinIdle = record { place = at (codes "min_idle"); why = number_why (get (codes "min_idle") d) }
located d config.BadMaxWaiting =
    record { place = at (codes "max_waiting"); why = number_why (get (codes "max_waiting") d) }
located d config.OutOfMemory = record { place = whole; why = NoObject }

-- Unknown keys come first, and then what a lenient reading finds, in its order.
abbrev pub read_strict : Data → Result Settings Located
read_strict d = unless_unknown (unknown_place d) (result_map_err (located d) (read_config d))

-- A configuration is read strictly exactly if it is read leniently and has no unknown key.
abbrev pub ReadsExactly : Type 0
ReadsExactly =
    (d : Data) (s : Settings)
    → (read_strict d ≡ Ok s)
    ↔ ((read_config d ≡ Ok s) × HasKnownKeys section.Managed d
    × ((t : Data) → get (codes "timeouts") d ≡ Some t → HasKnownKeys section.Timeouts t))

-- Each fault that is told is there.
abbrev pub TellsFaults : Type 0
TellsFaults = (d : Data) (l : Located) → read_strict d ≡ Err l → IsFault section.Managed d l
