-- A get that is served, joins its queue or finds no memory makes the step `GetEnter`.
use Rattle.deadpool_unmanaged.proofs.Words.{◌≡◌, ◌∙◌, ◌<◌, not, ap, refl, sym, subst, rules, entered-waiting}
use Rattle.deadpool_unmanaged.proofs.Words.{entered-without_memory, unlisted, free_objects, handed, IsKept}
use Rattle.deadpool_unmanaged.proofs.Words.{and_parts, ltb-true, nat_lt, length, waiting_tickets}
use Rattle.deadpool_unmanaged.proofs.CoreQueues.{gets-same, gets-joined, queue-full, queue-below, queue-keeps}
use Rattle.deadpool_unmanaged.proofs.Kept.{kept-handed, kept-joined_get, settled-kept}
use Rattle.deadpool_unmanaged.proofs.state.Core.get_enter.Goals as goal

pub invariant_of-self-in-Waiting : goal.invariant_of-self-in-Waiting
invariant_of-self-in-Waiting g c =
    let was = entered-waiting _ c.free_objects-objects.result c.get_may_join-may_join.result c.in-Waiting.ticket _
    c.enter.new.self.waiters
    c.in-Waiting.ensures.at_once c.in-Waiting.ensures.joins in
    let none = sym c.free_objects-objects.ensures ∙ was.1 in
    let pool = c.args.self.now.pool in
    let joins = and_parts c.args.wait (nat_lt (length pool.gets.waiting) pool.max_waiting)
    (sym c.get_may_join-may_join.ensures ∙ was.2) in
    let fewer = ltb-true (length pool.gets.waiting) pool.max_waiting joins.1 in
    let roomy : length (waiting_tickets c.self.inside.gets.waiters) < c.self.inside.max_waiting =
    rw (← c.self.view_is) at fewer in
    let longer = gets-joined c.self.inside c.enter.new.self c.in-Waiting.ticket was.4 c.enter.ensures.closed in
    let fresh = unlisted c.in-Waiting.ticket c.self.inside.gets.waiters was.3 in
    record {
      together = c.self.invariant.together ∙ sym c.enter.ensures.closed;
      reserve = c.self.invariant.reserve;
      kept = subst IsKept (sym longer)
          (kept-joined_get _ c.in-Waiting.ticket (rw (← c.self.view_is) at none) roomy fresh c.self.invariant.kept);
    }

pub returns-in-Some-clause-made : goal.returns-in-Some-clause-made
returns-in-Some-clause-made g c =
    let same : c.enter.new.self.waiters ≡ c.self.inside.gets.waiters = search rules in
    let free : 0 < free_objects c.args.self.now.pool = search rules in
    let value = sym c.take_last.ensures.value ∙ c.in-Some.is in
    let kept = kept-handed _ c.in-Some.value (rw (← c.self.view_is) at free) value c.self.invariant.kept in
    let goes = ap handed (gets-same c.self.inside c.enter.new.self same c.enter.ensures.closed) ∙ settled-kept _ kept
    in (
      (search rules, free, rw (← c.self.view_is) value, rw (← c.self.view_is, c.take_last.ensures.others) goes),
      (search rules, search rules),
    )

pub returns-in-Waiting-clause-made : goal.returns-in-Waiting-clause-made
returns-in-Waiting-clause-made g c =
    let was = entered-waiting _ c.free_objects-objects.result c.get_may_join-may_join.result c.in-Waiting.ticket _
    c.enter.new.self.waiters
    c.in-Waiting.ensures.at_once c.in-Waiting.ensures.joins in
    let none = sym c.free_objects-objects.ensures ∙ was.1 in
    let pool = c.args.self.now.pool in
    let joins = and_parts c.args.wait (nat_lt (length pool.gets.waiting) pool.max_waiting)
    (sym c.get_may_join-may_join.ensures ∙ was.2) in
    let fewer = ltb-true (length pool.gets.waiting) pool.max_waiting joins.1 in
    let roomy : length (waiting_tickets c.self.inside.gets.waiters) < c.self.inside.max_waiting =
    rw (← c.self.view_is) at fewer in
    let longer = gets-joined c.self.inside c.enter.new.self c.in-Waiting.ticket was.4 c.enter.ensures.closed in
    rw (← c.self.view_is, c.requires) (
      (
        ap not was.0,
        rw (← c.self.view_is) at none,
        joins.0,
        roomy,
        unlisted c.in-Waiting.ticket c.self.inside.gets.waiters was.3,
        longer,
      ),
      (
        c.in-Waiting.ensures.number c.in-Waiting.ticket refl,
        queue-below c.self.inside.gets.capacity c.in-Waiting.ticket c.self.inside.gets.waiters
            (c.in-Waiting.ensures.below c.in-Waiting.ticket refl),
        queue-keeps c.self.inside.gets.capacity _ c.self.inside.gets.waiters c.enter.ensures.capacity,
        refl,
      ),
    )

pub returns-in-OutOfMemory-clause-made : goal.returns-in-OutOfMemory-clause-made
returns-in-OutOfMemory-clause-made g c =
    let was = entered-without_memory _ c.free_objects-objects.result c.get_may_join-may_join.result _
    c.enter.new.self.waiters
    c.in-OutOfMemory.ensures.at_once c.in-OutOfMemory.ensures.joins in
    let none = sym c.free_objects-objects.ensures ∙ was.1 in
    let pool = c.args.self.now.pool in
    let joins = and_parts c.args.wait (nat_lt (length pool.gets.waiting) pool.max_waiting)
    (sym c.get_may_join-may_join.ensures ∙ was.2) in
    let fewer = ltb-true (length pool.gets.waiting) pool.max_waiting joins.1 in
    let roomy : length (waiting_tickets c.self.inside.gets.waiters) < c.self.inside.max_waiting =
    rw (← c.self.view_is) at fewer in
    rw (← c.self.view_is, c.requires) (
      (
        ap not was.0,
        rw (← c.self.view_is) at none,
        joins.0,
        roomy,
        gets-same c.self.inside c.enter.new.self was.3 c.enter.ensures.closed,
      ),
      (
        queue-full c.self.inside.gets.capacity c.self.inside.gets.waiters (c.in-OutOfMemory.ensures.memory refl),
        queue-keeps c.self.inside.gets.capacity _ c.self.inside.gets.waiters c.enter.ensures.capacity,
        refl,
      ),
    )
