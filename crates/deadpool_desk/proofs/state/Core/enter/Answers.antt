-- A get that joins the queue, or finds no memory for it, makes the step `Enter`; all else is found by search.
use Rattle.deadpool_desk.proofs.Names.{◌∙◌, ◌<◌, ◌≤◌, not, sym, ap, refl, arith, length, waiting_tickets}
use Rattle.deadpool_desk.proofs.Names.{unnotified_tickets, entered-waiting, entered-without_memory, unlisted, held_at}
use Rattle.deadpool_desk.proofs.Names.{and_parts, ltb-true, nat_lt}
use Rattle.deadpool_desk.proofs.CoreQueue.{CoreInvariant-joined, desk_of-arrived, desk_of-same}
use Rattle.deadpool_desk.proofs.CoreQueue.{unnotified-arrived, no_room, below_room, room_kept}
use Rattle.deadpool_desk.proofs.state.Core.enter.Goals as goal

pub invariant_of-self-in-Waiting : goal.invariant_of-self-in-Waiting
invariant_of-self-in-Waiting g c =
    let inside = c.self.inside in
    let t = c.in-Waiting.ticket in
    let was = entered-waiting _ c.room-room.result c.may_join-may_join.result t _ c.enter.new.self.waiters
    c.in-Waiting.ensures.at_once c.in-Waiting.ensures.joins in
    let full : inside.places.limit ≤ held_at inside.gate inside.places = omega (arith, was.1, c.room-room.ensures) in
    let desk = c.args.self.now.desk in
    let joins = and_parts c.args.wait (nat_lt (length desk.waiting) desk.max_waiting)
    (sym c.may_join-may_join.ensures ∙ was.2) in
    let fewer = ltb-true (length desk.waiting) desk.max_waiting joins.1 in
    let roomy : length (waiting_tickets inside.gate.waiters) < inside.max_waiting = rw (← c.self.view_is) at fewer in
    CoreInvariant-joined inside c.enter.new.self t was.4 c.enter.ensures.closed c.self.invariant full roomy
    (unlisted t inside.gate.waiters was.3)

pub returns-in-Waiting-clause-made : goal.returns-in-Waiting-clause-made
returns-in-Waiting-clause-made g c =
    let inside = c.self.inside in
    let t = c.in-Waiting.ticket in
    let was = entered-waiting _ c.room-room.result c.may_join-may_join.result t _ c.enter.new.self.waiters
    c.in-Waiting.ensures.at_once c.in-Waiting.ensures.joins in
    let full : inside.places.limit ≤ held_at inside.gate inside.places = omega (arith, was.1, c.room-room.ensures) in
    let desk = c.args.self.now.desk in
    let joins = and_parts c.args.wait (nat_lt (length desk.waiting) desk.max_waiting)
    (sym c.may_join-may_join.ensures ∙ was.2) in
    let fewer = ltb-true (length desk.waiting) desk.max_waiting joins.1 in
    let roomy : length (waiting_tickets inside.gate.waiters) < inside.max_waiting = rw (← c.self.view_is) at fewer in
    rw (← c.self.view_is, c.requires) (
      (
        ap not was.0,
        full,
        joins.0,
        roomy,
        unlisted t inside.gate.waiters was.3,
        desk_of-arrived inside c.enter.new.self t was.4 c.enter.ensures.closed,
      ),
      unnotified-arrived inside c.enter.new.self t was.4,
      (
        c.in-Waiting.ensures.number t refl,
        below_room inside inside.gate t (c.in-Waiting.ensures.below t refl),
        room_kept inside inside.gate _ c.in-Waiting.ensures.capacity,
      ),
    )

pub returns-in-OutOfMemory-clause-made : goal.returns-in-OutOfMemory-clause-made
returns-in-OutOfMemory-clause-made g c =
    let inside = c.self.inside in
    let was = entered-without_memory _ c.room-room.result c.may_join-may_join.result _ c.enter.new.self.waiters
    c.in-OutOfMemory.ensures.at_once c.in-OutOfMemory.ensures.joins in
    let full : inside.places.limit ≤ held_at inside.gate inside.places = omega (arith, was.1, c.room-room.ensures) in
    let desk = c.args.self.now.desk in
    let joins = and_parts c.args.wait (nat_lt (length desk.waiting) desk.max_waiting)
    (sym c.may_join-may_join.ensures ∙ was.2) in
    let fewer = ltb-true (length desk.waiting) desk.max_waiting joins.1 in
    let roomy : length (waiting_tickets inside.gate.waiters) < inside.max_waiting = rw (← c.self.view_is) at fewer in
    rw (← c.self.view_is, c.requires) (
      (ap not was.0, full, joins.0, roomy, desk_of-same inside c.enter.new.self was.3 c.enter.ensures.closed),
      ap unnotified_tickets was.3,
      (
        no_room inside inside.gate (c.in-OutOfMemory.ensures.memory refl),
        room_kept inside inside.gate _ c.in-OutOfMemory.ensures.capacity,
      ),
    )
