-- An add that asks again makes the step `AddAsk`, by each of the gate's answers, and there is room for what it stores.
use Rattle.deadpool_unmanaged.proofs.Words.{◌≡◌, ◌∙◌, not, refl, sym, ap, arith, subst, state_of, without_add, stored}
use Rattle.deadpool_unmanaged.proofs.Words.{asked-granted, asked-waiting, asked-closed, asked-unknown, granted_tickets}
use Rattle.deadpool_unmanaged.proofs.Words.{without_number-fewer, IsKept}
use Rattle.deadpool_unmanaged.proofs.CoreQueues.{adds-same, adds-without, gets-settled, in_hand, joined_idle}
use Rattle.deadpool_unmanaged.proofs.Kept.{kept-added, kept-refused_add, room-added}
use Rattle.deadpool_unmanaged.proofs.state.Core.add_ask.Goals as goal

pub store-requires-clause-room : goal.store-requires-clause-room
store-requires-clause-room g c =
    let asked = c.ask.ensures in
    let was = asked-granted _ c.args.ticket _ asked.line c.in-Granted.ensures.answer in
    let fewer = without_number-fewer c.args.ticket (granted_tickets c.self.inside.adds.waiters) was.1 in
    omega (arith, fewer, c.self.invariant.kept.within, c.self.invariant.reserve)

pub invariant_of-self : goal.invariant_of-self
invariant_of-self g c =
    let asked = c.ask.ensures in
    let stores = c.store.ensures in
    let core = c.self.inside in
    let was = asked-granted _ c.args.ticket _ asked.line c.in-Granted.ensures.answer in
    let left = adds-without core c.ask.new.self c.args.ticket asked.line.apart (asked.waiters ∙ was.2) in
    let has = in_hand c.args.hand.now c.requires in
    let puts : state_of (record core { adds = c.ask.new.self; idle = c.store.new.idle })
    ≡ stored has.0 (without_add c.args.ticket (state_of core)) =
    rw (joined_idle _ _ _ _ has.1 stores.idle) (ap (stored has.0) left) in
    let room = room-added (state_of core) c.args.ticket has.0 c.self.invariant.kept in
    let is = gets-settled (record core { adds = c.ask.new.self; idle = c.store.new.idle }) core.gets c.store.new.gets _
    _ refl puts stores.gets stores.unnotified stores.closed room in
    record {
      together = asked.closed ∙ c.self.invariant.together ∙ sym stores.closed;
      reserve = omega (arith, c.self.invariant.reserve, stores.room);
      kept = subst IsKept (sym is) (kept-added _ c.args.ticket has.0 was.1 c.self.invariant.kept);
    }

pub invariant_of-self-in-Closed : goal.invariant_of-self-in-Closed
invariant_of-self-in-Closed g c =
    let asked = c.ask.ensures in
    let was = asked-closed _ c.args.ticket _ asked.line c.in-Closed.ensures.answer in
    let left = adds-without c.self.inside c.ask.new.self c.args.ticket asked.line.apart (asked.waiters ∙ was.2) in
    record {
      together = asked.closed ∙ c.self.invariant.together;
      reserve = c.self.invariant.reserve;
      kept = subst IsKept (sym left)
          (kept-refused_add _ c.args.ticket (ap not (sym c.self.invariant.together ∙ was.0)) c.self.invariant.kept);
    }

pub returns-in-Granted-clause-made : goal.returns-in-Granted-clause-made
returns-in-Granted-clause-made g c =
    let asked = c.ask.ensures in
    let stores = c.store.ensures in
    let core = c.self.inside in
    let was = asked-granted _ c.args.ticket _ asked.line c.in-Granted.ensures.answer in
    let left = adds-without core c.ask.new.self c.args.ticket asked.line.apart (asked.waiters ∙ was.2) in
    let has = in_hand c.args.hand.now c.requires in
    let puts : state_of (record core { adds = c.ask.new.self; idle = c.store.new.idle })
    ≡ stored has.0 (without_add c.args.ticket (state_of core)) =
    rw (joined_idle _ _ _ _ has.1 stores.idle) (ap (stored has.0) left) in
    let room = room-added (state_of core) c.args.ticket has.0 c.self.invariant.kept in
    let is = gets-settled (record core { adds = c.ask.new.self; idle = c.store.new.idle }) core.gets c.store.new.gets _
    _ refl puts stores.gets stores.unnotified stores.closed room in
    rw (← c.self.view_is, has.1) (
      (ap not (sym c.self.invariant.together ∙ was.0), was.1, is),
      (stores.capacity, asked.capacity),
    )

pub returns-in-Closed-clause-made : goal.returns-in-Closed-clause-made
returns-in-Closed-clause-made g c =
    let asked = c.ask.ensures in
    let was = asked-closed _ c.args.ticket _ asked.line c.in-Closed.ensures.answer in
    let left = adds-without c.self.inside c.ask.new.self c.args.ticket asked.line.apart (asked.waiters ∙ was.2) in
    rw (← c.self.view_is, (in_hand c.args.hand.now c.requires).1)
    ((ap not (sym c.self.invariant.together ∙ was.0), was.1, left), (refl, asked.capacity))

pub returns-in-Waiting-clause-made : goal.returns-in-Waiting-clause-made
returns-in-Waiting-clause-made g c =
    let asked = c.ask.ensures in
    let was = asked-waiting _ c.args.ticket _ asked.line c.in-Waiting.ensures.answer in
    rw (← c.self.view_is, (in_hand c.args.hand.now c.requires).1) (
      (
        ap not (sym c.self.invariant.together ∙ was.0),
        was.1,
        was.2,
        refl,
        adds-same c.self.inside c.ask.new.self (asked.waiters ∙ was.3),
      ),
      (refl, asked.capacity),
    )

pub returns-in-Unknown-clause-made : goal.returns-in-Unknown-clause-made
returns-in-Unknown-clause-made g c =
    let asked = c.ask.ensures in
    let was = asked-unknown _ c.args.ticket _ asked.line c.in-Unknown.ensures.answer in
    rw (← c.self.view_is, (in_hand c.args.hand.now c.requires).1)
    ((was.0, adds-same c.self.inside c.ask.new.self (asked.waiters ∙ was.1)), (refl, asked.capacity))
