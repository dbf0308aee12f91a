-- An unmanaged pool's configuration that is read strictly.
use Rattle.std.specs.Prelude.{◌≡◌, ◌↔◌, Result, Ok, Err, option_map, codes}
use Rattle.serde_json.specs.Data.{Data}
use Rattle.serde_json.specs.Find.{get}
use Rattle.deadpool_parts.specs.declared.errors.ConfigError.{ConfigError}
use Rattle.deadpool_parts.specs.declared.errors.ConfigError.TheVariants as config
use Rattle.deadpool_settings.specs.Faults.{whole, at, Located, number_why, unless_unknown}
use Rattle.deadpool_settings.specs.Keys.{has_key, unknown_key}
use Rattle.deadpool_settings.specs.Laws.{HasKnownKeys, IsFault}
use Rattle.deadpool_settings.specs.Results.{result_map_err}
use Rattle.deadpool_settings.specs.declared.fault.Why.TheVariants.{NoObject, Missing, NoDuration}
use Rattle.deadpool_settings.specs.declared.keys.Section.TheVariants as section
use Rattle.deadpool_unmanaged.specs.Config.{Settings, read_config}

-- Where the fault lies that a lenient reading tells, and why. Of queue modes, idle objects and memory it never tells.
abbrev pub located : Data → ConfigError → Located
located d config.NotAnObject = record { place = whole; why = NoObject }
located d config.MissingMaxSize = record { place = at (codes "max_size"); why = Missing }
located d config.BadNumber = record { place = at (codes "max_size"); why = number_why (get (codes "max_size") d) }
located d config.BadDuration = record { place = at (codes "timeout"); why = NoDuration }
located d config.BadMaxWaiting =
    record { place = at (codes "max_waiting"); why = number_why (get (codes "max_waiting") d) }
located d config.BadQueueMode = record { place = whole; why = NoObject }
located d config.BadMinIdle = record { place = whole; why = NoObject }
located d config.OutOfMemory = record { place = whole; why = NoObject }

-- Unknown keys come first, and then what a lenient reading finds, in its order.
abbrev pub read_strict : Data → Result Settings Located
read_strict d = unless_unknown (option_map at (unknown_key (has_key section.Unmanaged) d))
    (result_map_err (located d) (read_config d))

-- A configuration is read strictly exactly if it is read leniently and has no unknown key.
abbrev pub ReadsExactly : Type 0
ReadsExactly =
    (d : Data) (s : Settings)
    → (read_strict d ≡ Ok s) ↔ ((read_config d ≡ Ok s) × HasKnownKeys section.Unmanaged d)

-- Each fault that is told is there.
abbrev pub TellsFaults : Type 0
TellsFaults = (d : Data) (l : Located) → read_strict d ≡ Err l → IsFault section.Unmanaged d l
