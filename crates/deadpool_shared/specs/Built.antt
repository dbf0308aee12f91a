-- What a pool has of the builder that it was built of.
use Rattle.std.specs.Prelude.{◌≡◌, [], ◌∷◌}
use Rattle.deadpool_builder.specs.Building.{Building}
use Rattle.deadpool_history.specs.declared.line.Line.TheVariants as line
use Rattle.deadpool_shared.specs.declared.shared.Shared.{Shared}

-- The pool lends its gets what the builder has, and its history begins with how the builder has it opened.
pub record IsBuiltOf {M F A C R L T E Creating Recycling State Alarm : Type 0} (builder : Building M F A C)
    (pool : Shared M F A C R L T E Creating Recycling State Alarm) : Type 0 where
  pub environment :
      pool.environment ≡ record { manager = builder.manager; hooks = builder.hooks; runtime = builder.runtime }
  pub timeouts : pool.timeouts ≡ builder.timeouts
  pub clock : pool.clock ≡ builder.clock
  pub opening :
      pool.opening.log
      ≡ (0, line.Opening builder.max_size builder.queue_mode builder.min_idle builder.max_waiting) ∷ []
