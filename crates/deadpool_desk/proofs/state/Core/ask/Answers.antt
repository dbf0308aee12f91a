-- A get that asks again makes the step `Ask`, by each of the gate's answers, and the core's invariant stays.
use Rattle.deadpool_desk.proofs.Names.{◌∙◌, None, not, refl, subst}
use Rattle.deadpool_desk.proofs.Names.{ap, without_waiter, unnotified_tickets, asked-granted}
use Rattle.deadpool_desk.proofs.Names.{asked-waiting, asked-closed, asked-unknown, Serves}
use Rattle.deadpool_desk.proofs.CoreQueue.{CoreInvariant-same, CoreInvariant-left, CoreInvariant-closed}
use Rattle.deadpool_desk.proofs.CoreQueue.{CoreInvariant-going, desk_of-same}
use Rattle.deadpool_desk.proofs.CoreQueue.{desk_of-unqueued, desk_of-going, unnotified-without}
use Rattle.deadpool_desk.specs.CoreFields.{core_of}
use Rattle.deadpool_desk.proofs.Serving.{asked_served}
use Rattle.deadpool_desk.proofs.state.Core.ask.Goals as goal

pub invariant_of-self : goal.invariant_of-self
invariant_of-self g c =
    let line = c.ask.ensures.line in
    let was = asked-granted _ c.args.ticket _ line c.in-Granted.ensures.answer in
    CoreInvariant-going c.self.inside c.ask.new.self c.args.ticket line
    (c.ask.ensures.waiters ∙ was.2) c.self.invariant c.ask.ensures.closed was.1

pub returns-in-Granted-clause-made : goal.returns-in-Granted-clause-made
returns-in-Granted-clause-made g c =
    let line = c.ask.ensures.line in
    let was = asked-granted _ c.args.ticket _ line c.in-Granted.ensures.answer in
    let gone = c.ask.ensures.waiters ∙ was.2 in
    let left = desk_of-going c.self.inside c.ask.new.self c.args.ticket line gone c.ask.ensures.closed in
    let unnotified = unnotified-without c.self.inside c.ask.new.self c.args.ticket line gone in
    let serves =
    subst (λ d. Serves d None c.serve.new.hand c.serve.result c.serve.new.self.desk) left c.serve.ensures.served in
    rw (← c.self.view_is)
    (asked_served (core_of c.self.inside) c.serve.new.self c.args.ticket c.args.expired c.serve.new.hand
    c.serve.result (ap not was.0) was.1 serves (c.serve.ensures.unnotified ∙ unnotified)
    (c.serve.ensures.room ∙ c.ask.ensures.capacity))

pub invariant_of-self-in-Closed : goal.invariant_of-self-in-Closed
invariant_of-self-in-Closed g c =
    let line = c.ask.ensures.line in
    let was = asked-closed _ c.args.ticket _ line c.in-Closed.ensures.answer in
    CoreInvariant-closed c.self.inside c.ask.new.self c.args.ticket line
    (c.ask.ensures.waiters ∙ was.2) c.self.invariant c.ask.ensures.closed (ap not was.0)

pub returns-in-Closed-clause-made : goal.returns-in-Closed-clause-made
returns-in-Closed-clause-made g c =
    let line = c.ask.ensures.line in
    let was = asked-closed _ c.args.ticket _ line c.in-Closed.ensures.answer in
    let gone = c.ask.ensures.waiters ∙ was.2 in
    let left = desk_of-unqueued c.self.inside c.ask.new.self c.args.ticket line gone c.ask.ensures.closed in
    rw (← c.self.view_is, c.requires) (
      (ap not was.0, was.1, left),
      unnotified-without c.self.inside c.ask.new.self c.args.ticket line gone,
      c.ask.ensures.capacity,
    )

pub invariant_of-self-in-Unknown : goal.invariant_of-self-in-Unknown
invariant_of-self-in-Unknown g c =
    let was = asked-unknown _ c.args.ticket _ c.ask.ensures.line c.in-Unknown.ensures.answer in
    CoreInvariant-same c.self.inside c.ask.new.self c.self.invariant (c.ask.ensures.waiters ∙ was.1)
    c.ask.ensures.closed

pub returns-in-Unknown-clause-made : goal.returns-in-Unknown-clause-made
returns-in-Unknown-clause-made g c =
    let line = c.ask.ensures.line in
    let was = asked-unknown _ c.args.ticket _ line c.in-Unknown.ensures.answer in
    let same = c.ask.ensures.waiters ∙ was.1 in
    rw (← c.self.view_is, c.requires) (
      (was.0, desk_of-same c.self.inside c.ask.new.self same c.ask.ensures.closed),
      ap unnotified_tickets same,
      c.ask.ensures.capacity,
    )

pub invariant_of-self-then-expired : goal.invariant_of-self-then-expired
invariant_of-self-then-expired g c =
    let line = c.ask.ensures.line in
    let was = asked-waiting _ c.args.ticket _ line c.in-Waiting.ensures.answer in
    let gone = c.withdraw.ensures.waiters ∙ ap (without_waiter c.args.ticket) (c.ask.ensures.waiters ∙ was.3) in
    CoreInvariant-left c.self.inside c.withdraw.new.self c.args.ticket line gone c.self.invariant
    (c.withdraw.ensures.closed ∙ c.ask.ensures.closed) was.1

pub returns-then-expired-clause-made : goal.returns-then-expired-clause-made
returns-then-expired-clause-made g c =
    let line = c.ask.ensures.line in
    let was = asked-waiting _ c.args.ticket _ line c.in-Waiting.ensures.answer in
    let gone = c.withdraw.ensures.waiters ∙ ap (without_waiter c.args.ticket) (c.ask.ensures.waiters ∙ was.3) in
    let left = desk_of-unqueued c.self.inside c.withdraw.new.self c.args.ticket line gone
    (c.withdraw.ensures.closed ∙ c.ask.ensures.closed) in
    rw (← c.self.view_is, c.requires) (
      (ap not was.0, was.1, was.2, c.if-expired.true, left),
      unnotified-without c.self.inside c.withdraw.new.self c.args.ticket line gone,
      c.withdraw.ensures.capacity ∙ c.ask.ensures.capacity,
    )

pub invariant_of-self-else-expired : goal.invariant_of-self-else-expired
invariant_of-self-else-expired g c =
    let was = asked-waiting _ c.args.ticket _ c.ask.ensures.line c.in-Waiting.ensures.answer in
    CoreInvariant-same c.self.inside c.ask.new.self c.self.invariant (c.ask.ensures.waiters ∙ was.3)
    c.ask.ensures.closed

pub returns-else-expired-clause-made : goal.returns-else-expired-clause-made
returns-else-expired-clause-made g c =
    let line = c.ask.ensures.line in
    let was = asked-waiting _ c.args.ticket _ line c.in-Waiting.ensures.answer in
    let same = c.ask.ensures.waiters ∙ was.3 in
    rw (← c.self.view_is, c.requires) (
      (
        ap not was.0,
        was.1,
        was.2,
        c.if-expired.false,
        refl,
        desk_of-same c.self.inside c.ask.new.self same c.ask.ensures.closed,
      ),
      ap unnotified_tickets same,
      c.ask.ensures.capacity,
    )
