-- The places of a pool, by its queue and its counts.
use Rattle.std.specs.Prelude.{ℕ, ◌+◌, ◌-◌, not, length, min, if◌then◌else◌}
use Rattle.deadpool_gate.specs.Gate.{Line, granted_tickets, waiting_tickets}
use Rattle.deadpool_desk.specs.declared.state.places.Places.{Places}

-- how many are held: those granted in the queue, and those that are counted
abbrev pub held_at : Line → Places → ℕ
held_at line p = length (granted_tickets line.waiters) + p.going + p.creations + p.outside

-- how many of those that wait are granted a place: as many as are free
abbrev pub grants_at : Line → Places → ℕ
grants_at line p = if not line.is_closed then min (length (waiting_tickets line.waiters))
    (p.limit - held_at line p) else 0
