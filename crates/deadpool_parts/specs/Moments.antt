-- Moments and deadlines. A deadline is reached from its own moment on.
use Rattle.std.specs.Prelude.{ℕ, ◌+◌, ◌-◌, min, Bool, false, not, ◌&&◌, Option, Some, None, is_some, is_none, nat_le}
use Rattle.std.specs.Prelude.{nat_lt}
use Rattle.std.specs.Option.{option_map}
use Rattle.std.specs.Duration.{as_nanos, max_nanos}
use Rattle.std.specs.declared.time.Duration.{Duration}
use Rattle.deadpool_parts.specs.declared.moment.Moment.{Moment}
use Rattle.deadpool_parts.specs.declared.moment.Runtime.{Runtime}

abbrev pub largest_moment : ℕ
largest_moment = 340282366920938463463374607431768211455

-- a moment and a duration, stopped at the greatest moment
abbrev pub moment_after : Moment → Duration → Moment
moment_after now d = record { 0 = min (now.0 + as_nanos d) largest_moment }

-- the deadline of a phase that begins now, if it has one
abbrev pub deadline_after : Moment → Option Duration → Option Moment
deadline_after now timeout = option_map (moment_after now) timeout

abbrev pub is_reached : Option Moment → Moment → Bool
is_reached None now = false
is_reached (Some deadline) now = nat_le deadline.0 now.0

-- a duration is set that is not zero
abbrev pub is_positive : Option Duration → Bool
is_positive None = false
is_positive (Some d) = nat_lt 0 (as_nanos d)

-- a timeout is set, and nothing is there to serve it
abbrev pub lacks_runtime : Option Runtime → Option Duration → Bool
lacks_runtime runtime timeout = is_some timeout && not (is_some runtime)

-- a wait above zero is set, and nothing is there to end it
abbrev pub cannot_wait : Option Runtime → Option Duration → Bool
cannot_wait runtime wait = is_positive wait && is_none runtime

-- how long after a moment another is, in nanoseconds: zero if it is earlier, and at most the longest duration
abbrev pub nanos_between : Moment → Moment → ℕ
nanos_between from now = min (now.0 - from.0) max_nanos
