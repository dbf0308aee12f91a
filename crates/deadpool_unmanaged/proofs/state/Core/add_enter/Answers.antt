-- An add that stores, joins its queue or finds no memory makes the step `AddEnter`.
use Rattle.deadpool_unmanaged.proofs.Words.{◌∙◌, not, ap, refl, sym, subst, entered-waiting, entered-without_memory}
use Rattle.deadpool_unmanaged.proofs.Words.{unlisted, IsKept}
use Rattle.deadpool_unmanaged.proofs.Words.{and_parts, ltb-true, nat_lt, length, waiting_tickets, ◌≡◌, ◌<◌}
use Rattle.deadpool_unmanaged.proofs.Words.{rules, arith, state_of, stored, free_room}
use Rattle.deadpool_unmanaged.proofs.CoreQueues.{adds-same, adds-joined, queue-full, queue-below, queue-keeps}
use Rattle.deadpool_unmanaged.proofs.CoreQueues.{in_hand, gets-settled}
use Rattle.deadpool_unmanaged.proofs.CoreQueues.{joined_idle}
use Rattle.deadpool_unmanaged.proofs.Kept.{kept-joined_add, kept-stored, room-stored}
use Rattle.deadpool_unmanaged.proofs.state.Core.add_enter.Goals as goal

pub invariant_of-self : goal.invariant_of-self
invariant_of-self g c =
    let core = c.self.inside in
    let stores = c.store.ensures in
    let has = in_hand c.args.hand.now c.requires in
    let same : c.enter.new.self.waiters ≡ core.adds.waiters = search rules in
    let puts : state_of (record core { adds = c.enter.new.self; idle = c.store.new.idle })
    ≡ stored has.0 (state_of core) =
    rw (joined_idle _ _ _ _ has.1 stores.idle) (ap (stored has.0) (adds-same core c.enter.new.self same)) in
    let free : 0 < free_room c.args.self.now.pool = search rules in
    let is = gets-settled (record core { adds = c.enter.new.self; idle = c.store.new.idle }) core.gets c.store.new.gets
    _ _ refl puts stores.gets stores.unnotified stores.closed
    (room-stored (state_of core) has.0 c.self.invariant.kept) in
    record {
      together = c.enter.ensures.closed ∙ c.self.invariant.together ∙ sym stores.closed;
      reserve = omega (arith, c.self.invariant.reserve, stores.room);
      kept = subst IsKept (sym is)
          (kept-stored (state_of core) has.0 (rw (← c.self.view_is) at free) c.self.invariant.kept);
    }

pub invariant_of-self-in-Waiting : goal.invariant_of-self-in-Waiting
invariant_of-self-in-Waiting g c =
    let was = entered-waiting _ c.free_room-room.result c.add_may_join-may_join.result c.in-Waiting.ticket _
    c.enter.new.self.waiters
    c.in-Waiting.ensures.at_once c.in-Waiting.ensures.joins in
    let none = sym c.free_room-room.ensures ∙ was.1 in
    let pool = c.args.self.now.pool in
    let joins = and_parts c.args.wait (nat_lt (length pool.adds.waiting) pool.max_waiting)
    (sym c.add_may_join-may_join.ensures ∙ was.2) in
    let fewer = ltb-true (length pool.adds.waiting) pool.max_waiting joins.1 in
    let roomy : length (waiting_tickets c.self.inside.adds.waiters) < c.self.inside.max_waiting =
    rw (← c.self.view_is) at fewer in
    let longer = adds-joined c.self.inside c.enter.new.self c.in-Waiting.ticket was.4 in
    let fresh = unlisted c.in-Waiting.ticket c.self.inside.adds.waiters was.3 in
    record {
      together = c.enter.ensures.closed ∙ c.self.invariant.together;
      reserve = c.self.invariant.reserve;
      kept = subst IsKept (sym longer)
          (kept-joined_add _ c.in-Waiting.ticket (rw (← c.self.view_is) at none) roomy fresh c.self.invariant.kept);
    }

pub returns-in-Waiting-clause-made : goal.returns-in-Waiting-clause-made
returns-in-Waiting-clause-made g c =
    let was = entered-waiting _ c.free_room-room.result c.add_may_join-may_join.result c.in-Waiting.ticket _
    c.enter.new.self.waiters
    c.in-Waiting.ensures.at_once c.in-Waiting.ensures.joins in
    let none = sym c.free_room-room.ensures ∙ was.1 in
    let pool = c.args.self.now.pool in
    let joins = and_parts c.args.wait (nat_lt (length pool.adds.waiting) pool.max_waiting)
    (sym c.add_may_join-may_join.ensures ∙ was.2) in
    let fewer = ltb-true (length pool.adds.waiting) pool.max_waiting joins.1 in
    let roomy : length (waiting_tickets c.self.inside.adds.waiters) < c.self.inside.max_waiting =
    rw (← c.self.view_is) at fewer in
    let longer = adds-joined c.self.inside c.enter.new.self c.in-Waiting.ticket was.4 in
    let has = in_hand c.args.hand.now c.requires in
    rw (← c.self.view_is, has.1) (
      (
        ap not (sym c.self.invariant.together ∙ was.0),
        rw (← c.self.view_is) at none,
        joins.0,
        roomy,
        unlisted c.in-Waiting.ticket c.self.inside.adds.waiters was.3,
        longer,
      ),
      (
        c.in-Waiting.ensures.number c.in-Waiting.ticket refl,
        queue-below c.self.inside.adds.capacity c.in-Waiting.ticket c.self.inside.adds.waiters
            (c.in-Waiting.ensures.below c.in-Waiting.ticket refl),
        queue-keeps c.self.inside.adds.capacity _ c.self.inside.adds.waiters c.enter.ensures.capacity,
        refl,
      ),
    )

pub returns-in-OutOfMemory-clause-made : goal.returns-in-OutOfMemory-clause-made
returns-in-OutOfMemory-clause-made g c =
    let was = entered-without_memory _ c.free_room-room.result c.add_may_join-may_join.result _
    c.enter.new.self.waiters
    c.in-OutOfMemory.ensures.at_once c.in-OutOfMemory.ensures.joins in
    let none = sym c.free_room-room.ensures ∙ was.1 in
    let pool = c.args.self.now.pool in
    let joins = and_parts c.args.wait (nat_lt (length pool.adds.waiting) pool.max_waiting)
    (sym c.add_may_join-may_join.ensures ∙ was.2) in
    let fewer = ltb-true (length pool.adds.waiting) pool.max_waiting joins.1 in
    let roomy : length (waiting_tickets c.self.inside.adds.waiters) < c.self.inside.max_waiting =
    rw (← c.self.view_is) at fewer in
    let has = in_hand c.args.hand.now c.requires in
    rw (← c.self.view_is, has.1) (
      (
        ap not (sym c.self.invariant.together ∙ was.0),
        rw (← c.self.view_is) at none,
        joins.0,
        roomy,
        adds-same c.self.inside c.enter.new.self was.3,
      ),
      (
        queue-full c.self.inside.adds.capacity c.self.inside.adds.waiters (c.in-OutOfMemory.ensures.memory refl),
        queue-keeps c.self.inside.adds.capacity _ c.self.inside.adds.waiters c.enter.ensures.capacity,
        refl,
      ),
    )
