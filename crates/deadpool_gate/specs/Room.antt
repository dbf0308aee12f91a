-- How many a queue can list before it has to find memory. What it has room for never falls.
use Rattle.std.specs.Prelude.{◌≡◌, ℕ, ◌-◌, ◌<◌, ◌≤◌, ◌^◌, min, nat_lt, if◌then◌else◌}

-- With so many listed there is no room for one more. Half of all numbers is more than any memory has.
abbrev pub IsFull : ℕ → ℕ → Type 0
IsFull room listed = min room (2 ^ 63 - 1) ≤ listed

-- The room never falls, and it grows only if so many are listed that there is none for one more.
abbrev pub KeepsRoom : ℕ → ℕ → ℕ → Type 0
KeepsRoom listed room room' = (room ≤ room') × (listed < room → room' ≡ room)

-- the greatest number that the next ticket may have: below the room, if not all of it is taken
abbrev pub most_next : ℕ → ℕ → ℕ → ℕ
most_next room listed next = if nat_lt listed room then room - 1 else next
