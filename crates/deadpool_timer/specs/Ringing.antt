-- The alarms of a timer: those that are set, by their places, the earliest first.
use Rattle.std.specs.Prelude.{◌≡◌, ℕ, ◌<◌, ◌≤◌, Bool, true, false, List, [], ◌∷◌, Option, Some, None}
use Rattle.std.specs.Ordering.{nat_cmp, ordering_then}
use Rattle.std.specs.declared.cmp.Ordering.{Ordering}
use Rattle.deadpool_timer.specs.declared.alarms.Next.{Next}
use Rattle.deadpool_timer.specs.declared.alarms.Next.TheVariants as next
use Rattle.futures.specs.declared.task.waker.Waker.{Waker}

-- a moment, and which of the alarms of that moment it is
abbrev pub Place : Type 0
Place = ℕ × ℕ

-- places by their moments, and those of one moment by their numbers
abbrev pub place_cmp : Place → Place → Ordering
place_cmp p q = ordering_then (nat_cmp p.0 q.0) (nat_cmp p.1 q.1)

-- the moment of the first alarm
abbrev pub first_moment : {W : Type 0} → List (Place × W) → Option ℕ
first_moment [] = None
first_moment (first ∷ others) = Some first.0.0

-- what a timer's thread is told at a moment, and what is left of the alarms: the first one rings if it is due, or if
-- the timer was stopped
abbrev pub Tells : (is_stopped : Bool) → (old new : List (Place × Waker)) → (now : ℕ) → Next → Type 0
Tells is_stopped old new now (next.Wake waker) =
    (place : Place) × (old ≡ (place, waker) ∷ new) × (is_stopped ≡ false → place.0 ≤ now)
Tells is_stopped old new now (next.Until at) =
    (new ≡ old) × (first_moment old ≡ Some at.0) × (now < at.0) × (is_stopped ≡ false)
Tells is_stopped old new now next.Wait = (new ≡ old) × (old ≡ []) × (is_stopped ≡ false)
Tells is_stopped old new now next.End = (new ≡ old) × (old ≡ []) × (is_stopped ≡ true)
