-- What a get holds at its desk at each stage, and after each turn, and under which ticket it waits there.
use Rattle.std.specs.Prelude.{◌≡◌, ℕ, Bool, true, false, Ok, Err, Option, Some, None}
use Rattle.deadpool_managed.specs.Stages.{Stage, Unpolled, Queued, Going, Creating, Recycling, Checking, Finished}
use Rattle.deadpool_managed.specs.declared.get.Turn.{Turn}
use Rattle.deadpool_managed.specs.declared.get.Turn.TheVariants.{Done}
use Rattle.deadpool_desk.specs.declared.step.Held.{Held}
use Rattle.deadpool_desk.specs.declared.step.Held.TheVariants as held

-- what a get holds at a stage
abbrev pub held_at : {V C R S : Type 0} → Stage V C R S → Option Held
held_at Unpolled = None
held_at (Queued ticket deadline) = None
held_at (Going allowance) = Some held.Place
held_at (Creating begun deadline) = Some held.Creation
held_at (Recycling preparation allowance) = Some held.Object
held_at (Checking slot at) = Some held.Object
held_at Finished = None

-- the ticket under which it waits
abbrev pub ticket_at : {V C R S : Type 0} → Stage V C R S → Option ℕ
ticket_at (Queued ticket deadline) = Some ticket
ticket_at _ = None

-- it waits under no ticket but one of these
abbrev pub WaitsUnder : {V C R S : Type 0} → (ℕ → Type 0) → Stage V C R S → Type 0
WaitsUnder may_wait stage = (ticket : ℕ) → ticket_at stage ≡ Some ticket → may_wait ticket

-- what a get holds after a turn: an object that was given stands for itself, and a get that failed holds nothing
abbrev pub held_after : {V E C R S : Type 0} → Stage V C R S → Turn V E → Option Held
held_after stage (Done (Ok slot)) = Some held.Object
held_after stage (Done (Err cause)) = None
held_after stage _ = held_at stage

abbrev pub is_going : {V C R S : Type 0} → Stage V C R S → Bool
is_going (Going allowance) = true
is_going _ = false
