-- What comes of a round of a timer's thread.
use Rattle.std.specs.Prelude.{◌≡◌, ℕ, ◌-◌, ◌^◌, ◌≤◌, min, Bool, true, false, List, [], ◌∷◌, Option, Some, None}
use Rattle.std.specs.Duration.{as_nanos, max_nanos}
use Rattle.deadpool_timer.specs.Ringing.{Place, first_moment}
use Rattle.deadpool_timer.specs.declared.lock.Round.{Round}
use Rattle.deadpool_timer.specs.declared.lock.Round.TheVariants as round
use Rattle.futures.specs.declared.task.waker.Waker.{Waker}

-- how many nanoseconds a sleep lasts that begins at a moment and is to end at another
abbrev pub nanos_until : (now at : ℕ) → ℕ
nanos_until now at = min (at - now) (2 ^ 64 - 1)

-- how many nanoseconds the thread sleeps at most, where the first alarm is this
abbrev pub nap_of : (now : ℕ) → (first : Option ℕ) → ℕ
nap_of now (Some at) = nanos_until now at
nap_of now None = max_nanos

-- What comes of a round at a moment. Who is due comes out of it: the first one, if its moment has come or the timer was
-- stopped. If nobody is due, the thread has slept, until the moment of the first one if there is any. It ends if the
-- timer was stopped and no alarm is left
abbrev pub ComesOf : (is_stopped : Bool) → (alarms : List (Place × Waker)) → (now : ℕ) → Round → Type 0
ComesOf is_stopped alarms now (round.Due waker) =
    (place : Place) × (left : List (Place × Waker)) × (alarms ≡ (place, waker) ∷ left)
    × (is_stopped ≡ false → place.0 ≤ now)
ComesOf is_stopped alarms now (round.Slept nap) =
    (is_stopped ≡ false) × (as_nanos nap.lasting ≡ nap_of now (first_moment alarms))
ComesOf is_stopped alarms now round.Over = (alarms ≡ []) × (is_stopped ≡ true)
