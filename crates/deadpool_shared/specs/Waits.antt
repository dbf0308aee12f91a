-- How long a get waits for a place: from the poll that leaves it in the queue to the first that no longer does.
use Rattle.std.specs.Prelude.{◌≡◌, ℕ, ◌-◌, ◌^◌, min, Bool, true, false}
use Rattle.deadpool_parts.specs.declared.moment.Moment.{Moment}
use Rattle.deadpool_managed.specs.Stages.{Stage, Queued}
use Rattle.deadpool_shared.specs.declared.waiting.Waiting.{Waiting}
use Rattle.deadpool_shared.specs.declared.waiting.Waiting.TheVariants as waiting

-- a get at this stage stands in the queue
abbrev pub is_queued : {V C R S : Type 0} → Stage V C R S → Bool
is_queued (Queued ticket deadline) = true
is_queued _ = false

-- a moment in nanoseconds, of which one that is some 584 years after the clock's beginning is the last
abbrev pub nanos_at : Moment → ℕ
nanos_at moment = min moment.0 (2 ^ 64 - 1)

-- What a poll at a moment makes of it, by whether it leaves the get in the queue. The first that does begins the wait,
-- and the first after that which does not ends it: the wait is zero if the clock went back. Any other changes nothing.
abbrev pub WaitsOn : Moment → Bool → Waiting → Waiting → Type 0
WaitsOn now true waiting.Never left = left ≡ waiting.Since (nanos_at now)
WaitsOn now false (waiting.Since joined) left = left ≡ waiting.For (nanos_at now - joined)
WaitsOn now _ before left = left ≡ before

-- how long a get has waited that has a place, in nanoseconds: zero if no poll left it in the queue
abbrev pub nanos_waited : Waiting → ℕ
nanos_waited (waiting.For nanos) = nanos
nanos_waited _ = 0
