-- Which objects may serve once more. Times are in nanoseconds.
use Rattle.std.specs.Prelude.{◌≡◌, ◌+◌, ◌<◌, Result, Ok, Err, None, IfSome, codes}
use Rattle.std.specs.Cow.{cow_str_bytes}
use Rattle.std.specs.Duration.{as_nanos}
use Rattle.deadpool_parts.specs.Moments.{nanos_between}
use Rattle.deadpool_parts.specs.declared.errors.HookError.{HookError}
use Rattle.deadpool_parts.specs.declared.errors.HookError.TheVariants.{Message, Backend}
use Rattle.deadpool_parts.specs.declared.moment.Moment.{Moment}
use Rattle.deadpool_managed.specs.Metrics.{last_used_at}
use Rattle.deadpool_managed.specs.declared.metrics.Metrics.{Metrics}
use Rattle.deadpool_limits.specs.declared.limits.Limits.{Limits}

-- no limit is set
abbrev pub no_limits : Limits
no_limits = record { lifetime = None; idle = None; uses = None }

-- An idle object with these metrics may be handed out once more at this moment.
pub record IsWithin (limits : Limits) (metrics : Metrics) (now : Moment) : Type 0 where
  -- its creation is less long ago than its lifetime
  pub lifetime : IfSome limits.lifetime (λ most. nanos_between metrics.created now < as_nanos most)
  -- it was handed out less long ago than its idle time
  pub idle : IfSome limits.idle (λ most. nanos_between (last_used_at metrics) now < as_nanos most)
  -- it was handed out less often than it may be: at its creation, and at each recycling
  pub uses : IfSome limits.uses (λ most. metrics.recycle_count + 1 < most)

-- What a hook by these limits answers at a moment: it accepts what is within them alone, and else says that it is not.
abbrev pub Judges : {E : Type 0} → Limits → Metrics → Moment → Result (Unit {0}) (HookError E) → Type 0
Judges limits metrics now (Ok done) = IsWithin limits metrics now
Judges limits metrics now (Err (Message text)) =
    (¬ IsWithin limits metrics now) × (cow_str_bytes text ≡ codes "past its limits")
Judges limits metrics now (Err (Backend cause)) = ⊥
