-- What `{}` writes for each error. `output` gives the text of the cause that a program brings, if it is known.
use Rattle.std.specs.Prelude.{ℕ, List, ◌++◌, Option, Some, option_map, codes}
use Rattle.std.specs.Cow.{cow_str_bytes}
use Rattle.std.specs.Fmt.{decimal}
use Rattle.std.specs.declared.io.ErrorKind.{ErrorKind}
use Rattle.std.specs.declared.io.ErrorKind.TheVariants as kind
use Rattle.deadpool_parts.specs.declared.status.Status.{Status}
use Rattle.deadpool_parts.specs.declared.errors.BuildError.{BuildError}
use Rattle.deadpool_parts.specs.declared.errors.BuildError.TheVariants as build
use Rattle.deadpool_parts.specs.declared.errors.ConfigError.{ConfigError}
use Rattle.deadpool_parts.specs.declared.errors.ConfigError.TheVariants as config
use Rattle.deadpool_parts.specs.declared.errors.CreatePoolError.{CreatePoolError}
use Rattle.deadpool_parts.specs.declared.errors.CreatePoolError.TheVariants as create
use Rattle.deadpool_parts.specs.declared.errors.HookError.{HookError}
use Rattle.deadpool_parts.specs.declared.errors.HookError.TheVariants as hook
use Rattle.deadpool_parts.specs.declared.errors.PoolError.{PoolError}
use Rattle.deadpool_parts.specs.declared.errors.PoolError.TheVariants as pool
use Rattle.deadpool_parts.specs.declared.errors.RecycleError.{RecycleError}
use Rattle.deadpool_parts.specs.declared.errors.RecycleError.TheVariants as recycle
use Rattle.deadpool_parts.specs.declared.errors.TimeoutType.{TimeoutType}
use Rattle.deadpool_parts.specs.declared.errors.TimeoutType.TheVariants as phase

-- the text, and then the cause's own
abbrev pub before_cause : List ℕ → Option (List ℕ) → Option (List ℕ)
before_cause text cause = option_map (λ c. text ++ c) cause

abbrev pub build_error_text : BuildError → List ℕ
build_error_text build.NoRuntimeSpecified = codes "Error occurred while building the pool: Timeouts require a runtime"
build_error_text build.OutOfMemory = codes "Error occurred while building the pool: Out of memory"

-- which error of reading and writing it is
abbrev pub build_error_kind : BuildError → ErrorKind
build_error_kind build.NoRuntimeSpecified = kind.InvalidInput
build_error_kind build.OutOfMemory = kind.OutOfMemory

-- how a pool stands
abbrev pub status_text : Status → List ℕ
status_text s =
    codes "max_size " ++ decimal s.max_size ++ codes ", size " ++ decimal s.size
    ++ codes ", available " ++ decimal s.available ++ codes ", waiting " ++ decimal s.waiting

abbrev pub timeout_text : TimeoutType → List ℕ
timeout_text phase.Wait = codes "Timeout occurred while waiting for a slot to become available"
timeout_text phase.Create = codes "Timeout occurred while creating a new object"
timeout_text phase.Recycle = codes "Timeout occurred while recycling an object"

abbrev pub config_error_text : ConfigError → List ℕ
config_error_text config.NotAnObject = codes "Configuration is not an object"
config_error_text config.MissingMaxSize = codes "max_size is missing"
config_error_text config.BadNumber = codes "max_size is not a whole number in range"
config_error_text config.BadDuration = codes "A timeout is not a duration"
config_error_text config.BadQueueMode = codes "queue_mode is not Fifo or Lifo"
config_error_text config.BadMinIdle = codes "min_idle is not a whole number in range"
config_error_text config.BadMaxWaiting = codes "max_waiting is not a whole number in range"
config_error_text config.OutOfMemory = codes "Out of memory"

module _ {E : Type 0} where
  abbrev pub recycle_error_text : (E → Option (List ℕ)) → RecycleError E → Option (List ℕ)
  recycle_error_text output (recycle.Message text) =
      Some (codes "Error occurred while recycling an object: " ++ cow_str_bytes text)
  recycle_error_text output (recycle.Backend cause) =
      before_cause (codes "Error occurred while recycling an object: ") (output cause)

  -- a hook's text is the cause's alone
  abbrev pub hook_error_text : (E → Option (List ℕ)) → HookError E → Option (List ℕ)
  hook_error_text output (hook.Message text) = Some (cow_str_bytes text)
  hook_error_text output (hook.Backend cause) = output cause

  abbrev pub pool_error_text : (E → Option (List ℕ)) → PoolError E → Option (List ℕ)
  pool_error_text output (pool.Timeout phase) = Some (timeout_text phase)
  pool_error_text output (pool.Backend cause) =
      before_cause (codes "Error occurred while creating a new object: ") (output cause)
  pool_error_text output pool.Closed = Some (codes "Pool has been closed")
  pool_error_text output pool.NoRuntimeSpecified = Some (codes "No runtime specified")
  pool_error_text output (pool.PostCreateHook cause) =
      before_cause (codes "`post_create` hook failed: ")
      (option_map (λ c. c ++ codes "\n") (hook_error_text output cause))
  pool_error_text output pool.Crowded = Some (codes "Too many gets wait for a slot")
  pool_error_text output pool.OutOfMemory = Some (codes "Out of memory")
  pool_error_text output pool.NumbersExhausted = Some (codes "Object numbers are exhausted")

module _ {C : Type 0} where
  abbrev pub create_pool_error_text : (C → Option (List ℕ)) → CreatePoolError C → Option (List ℕ)
  create_pool_error_text output (create.Config cause) = before_cause (codes "Config: ") (output cause)
  create_pool_error_text output (create.Build cause) = Some (codes "Build: " ++ build_error_text cause)
