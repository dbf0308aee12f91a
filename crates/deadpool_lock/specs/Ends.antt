-- Those that wait until nothing is left in a pool that has closed, and how a drain ends.
use Rattle.std.specs.Prelude.{◌≡◌, ◌⊎◌, ◌==◌, ◌&&◌, ◌<◌, ◌+◌, ◌-◌, ◌^◌, not, is_some, if◌then◌else◌, min, true, false}
use Rattle.std.specs.Prelude.{Bool, ℕ, List, [], ◌∷◌, ◌++◌, codes, Option, Some, None, Result, Ok, Err}
use Rattle.std.specs.Option.{option_map_or}
use Rattle.futures.specs.declared.task.waker.Waker.{Waker}
use Rattle.deadpool_gate.specs.Gate.{Line, Waiter, arrived, asked, due_ticket, find_waiter, tell_next, without_waiter}
use Rattle.deadpool_lock.specs.Places.{Follows, left_in, waker_at, with_room}
use Rattle.deadpool_lock.specs.declared.ended.DrainError.{DrainError}
use Rattle.deadpool_lock.specs.declared.ended.DrainError.TheVariants.{Timeout, OutOfMemory, Departing}
use Rattle.deadpool_parts.specs.Texts.{status_text}
use Rattle.deadpool_parts.specs.declared.status.Status.{Status}

pub record EndsState : Type 0 where
  -- in order of arrival
  pub line : Line
  -- each in the place of its ticket's number
  pub wakers : List (Option Waker)
  -- how many holders have let go of something that they have not detached and dropped yet
  pub departing : ℕ

-- there is a place for the waker of each of these, if there are so many
abbrev pub HavePlaces : List Waiter → ℕ → Type 0
HavePlaces [] count = Unit {0}
HavePlaces (w ∷ ws) count = (w.ticket < count) × HavePlaces ws count

-- The end of a pool has come: nothing is left in it, and nothing that has left it is still to be dropped.
abbrev pub has_come : Bool → EndsState → Bool
has_come is_drained ends = is_drained && (ends.departing == 0)

-- whether a task waits under this ticket
abbrev pub waits_under : Option ℕ → Line → Bool
waits_under None line = false
waits_under (Some ticket) line =
    not line.is_closed && option_map_or (λ w. not w.granted) (find_waiter ticket line.waiters) false

-- those in the line after a task has asked by the ticket that it has, if it has one: who waits no longer leaves
abbrev pub after_asking : Option ℕ → Line → List Waiter
after_asking None line = line.waiters
after_asking (Some ticket) line = asked line.is_closed ticket line.waiters

-- a task stands in the line under this ticket, with its waker in its place
abbrev pub Stands : ℕ → Option Waker → EndsState → Type 0
Stands ticket waker ends =
    (is_some (find_waiter ticket ends.line.waiters) ≡ true) × (waker_at ticket ends.wakers ≡ waker)

-- What a wait makes of the line and of the places: a task that waits already keeps its ticket, and so its turn. Any
-- other is the last, under a ticket that nobody has, for which there is a place.
abbrev pub WaitsOn : Bool → Option ℕ → EndsState → Option Waker → ℕ → EndsState → Type 0
WaitsOn true before ends waker ticket ends' =
    (before ≡ Some ticket) × (ends'.line.waiters ≡ ends.line.waiters)
    × (ends'.wakers ≡ left_in ticket waker ends.wakers)
WaitsOn false before ends waker ticket ends' =
    let others = after_asking before ends.line in
    (find_waiter ticket others ≡ None) × (ends'.line.waiters ≡ others ++ arrived ticket ∷ [])
    × (ends'.wakers ≡ left_in ticket waker (with_room ticket ends.wakers))

-- the ticket under which a task is listed, if it is
abbrev pub listed : Option ℕ → Line → Option ℕ
listed None line = None
listed (Some ticket) line = if is_some (find_waiter ticket line.waiters) then Some ticket else None

-- those that wait once this one does no longer
abbrev pub without : Option ℕ → List Waiter → List Waiter
without ticket ws = option_map_or (λ t. without_waiter t ws) ticket ws

-- This task is in the line no longer: it has left, or it has asked and did not wait.
abbrev pub IsGone : Option ℕ → Line → Line → Type 0
IsGone ticket line line' =
    (line'.waiters ≡ without ticket line.waiters)
    ⊎ ((waits_under ticket line ≡ false) × (line'.waiters ≡ after_asking ticket line))

-- one more has let go of something, or one has dropped it: a count at the greatest `u64` stays there
abbrev pub one_more : ℕ → ℕ
one_more departing = min (departing + 1) (2 ^ 64 - 1)

abbrev pub one_less : ℕ → ℕ
one_less departing = if departing == 2 ^ 64 - 1 then departing else departing - 1

-- A holder lets go of something, which counts once, or of nothing.
abbrev pub Departs : {D : Type 0} → Bool → EndsState → Option D → EndsState → Option D → Type 0
Departs false ends departure ends' departure' = (ends' ≡ ends) × (departure' ≡ departure)
Departs true ends departure ends' departure' =
    (is_some departure' ≡ true)
    × (ends' ≡ record ends {
      departing = if is_some departure then ends.departing else one_more ends.departing;
    })

-- the waker of the first that waits and was not told, once the end has come
abbrev pub end_waker : EndsState → Option Waker
end_waker ends = option_map_or (λ t. waker_at t ends.wakers) (due_ticket true ends.line.waiters) None

-- That one is told, and waits no longer.
abbrev pub TellsFirst : EndsState → Option Waker → EndsState → Type 0
TellsFirst ends waker ends' =
    (waker ≡ end_waker ends)
    × (ends'.line.waiters ≡ without (due_ticket true ends.line.waiters) (tell_next true ends.line.waiters))
    × Follows (due_ticket true ends.line.waiters) None ends.wakers None waker ends'.wakers None
    × (ends'.departing ≡ ends.departing)

-- the status that a drain ends with
abbrev pub status_in : Result Status DrainError → Status
status_in (Ok status) = status
status_in (Err (Timeout status)) = status
status_in (Err (OutOfMemory status)) = status
status_in (Err (Departing status)) = status

-- what one writes that has not ended well
abbrev pub drain_error_text : DrainError → List ℕ
drain_error_text (Timeout status) = codes "Timeout occurred while draining the pool: " ++ status_text status
drain_error_text (OutOfMemory status) = codes "Out of memory while draining the pool: " ++ status_text status
drain_error_text (Departing status) = codes "An object is still being given up: " ++ status_text status
