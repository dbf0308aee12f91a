-- A status is that of the core's lists, and none of its sums overflows.
use Rattle.deadpool_desk.proofs.Names.{refl, ◌≡◌, ◌+◌, ◌-◌, length, min, arith, ◌∙◌, granted_tickets, waiting_tickets}
use Rattle.deadpool_desk.proofs.Names.{largest_usize, granted_count-length, waiting_count-length, length-both_tickets}
use Rattle.deadpool_desk.proofs.state.Core.status.Goals as goal

pub overflow_add-pending-2 : goal.overflow_add-pending-2
overflow_add-pending-2 g c =
    let line = c.self.inside.gate.waiters in
    omega (arith, granted_count-length line, waiting_count-length line, length-both_tickets line, c.self.invariant.held)

pub overflow_add-pending-3 : goal.overflow_add-pending-3
overflow_add-pending-3 g c =
    let line = c.self.inside.gate.waiters in
    omega (arith, granted_count-length line, waiting_count-length line, length-both_tickets line, c.self.invariant.held)

pub returns : goal.returns
returns g c =
    let inside = c.self.inside in
    let line = inside.gate.waiters in
    let waiting = c.waiting.ensures.count ∙ waiting_count-length line in
    let granted = c.granted.ensures.count ∙ granted_count-length line in
    let all = length-both_tickets line in
    let held = c.self.invariant.held in
    let available : c.saturating_sub.result
    ≡ length inside.ring.items
    - (length (waiting_tickets line) + length (granted_tickets line) + inside.places.going
    + inside.places.creations) = omega (arith, waiting, granted) in
    let waits : c.saturating_sub-2.result
    ≡ min (length (waiting_tickets line) + length (granted_tickets line) + inside.places.going
    + inside.places.creations - length inside.ring.items) largest_usize =
    omega (arith, waiting, granted, all, held) in
    rw (← c.self.view_is, available, waits, c.len-idle.ensures.len) ((refl, refl), refl, refl)
