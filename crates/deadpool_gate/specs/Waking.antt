-- Who is told next that its wait has ended, by ticket.
use Rattle.std.specs.Prelude.{ℕ, Bool, List, Option, Some, None, slice_get, if◌then◌else◌}
use Rattle.std.specs.List.{find}
use Rattle.deadpool_gate.specs.Numbers.{has_number, without_number}

-- Of those that were not told, the first that was granted what it asks for. Once the pool has closed, the first of all.
abbrev pub next_due : Bool → List ℕ → List ℕ → Option ℕ
next_due is_open granted unnotified =
    if is_open then find (λ ticket. has_number ticket granted) unnotified else slice_get unnotified 0

-- those that were not told, after one was, or none
abbrev pub still_unnotified : Option ℕ → List ℕ → List ℕ
still_unnotified None unnotified = unnotified
still_unnotified (Some ticket) unnotified = without_number ticket unnotified
