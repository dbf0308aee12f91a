-- Those with a place and those without are all that are listed.
use Rattle.std.proofs.Common.{◌≡◌, ◌+◌, List, length, arith, rules}
use Rattle.deadpool_gate.specs.Gate.{Waiter, granted_count, waiting_count}
use Rattle.deadpool_gate.proofs.GateTickets.{granted_count-length, length-both_tickets, waiting_count-length}
use Rattle.deadpool_gate.proofs.gate.Gate.most_next_number.Goals as goal

counted : (ws : List Waiter) → length ws ≡ granted_count ws + waiting_count ws
counted ws = omega (arith, granted_count-length ws, waiting_count-length ws, length-both_tickets ws)

pub returns-then-listed-room : goal.returns-then-listed-room
returns-then-listed-room c =
    rw (counted c.args.self.now.waiters) (search rules)

pub returns-else-listed-room : goal.returns-else-listed-room
returns-else-listed-room c =
    rw (counted c.args.self.now.waiters) (search rules)
