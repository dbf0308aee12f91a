-- A get that leaves the queue makes the step `Withdraw`, and a place that it had goes to the next in the queue.
use Rattle.deadpool_desk.proofs.Names.{◌∙◌, ap, arith, unnotified_tickets, withdrawn-unknown, withdrawn-known, settled}
use Rattle.deadpool_desk.proofs.CoreQueue.{CoreInvariant-same, CoreInvariant-settled, desk_of-same, desk_of-settled}
use Rattle.deadpool_desk.proofs.CoreQueue.{desk_of-unqueued, held-without, unnotified-without}
use Rattle.deadpool_desk.proofs.state.Core.withdraw.Goals as goal

pub invariant_of-self : goal.invariant_of-self
invariant_of-self g c =
    let was = withdrawn-unknown _ c.args.ticket _ c.withdraw.ensures.line c.in-Unknown.ensures.answer in
    CoreInvariant-same c.self.inside c.withdraw.new.self c.self.invariant
    (c.withdraw.ensures.waiters ∙ was.1) c.withdraw.ensures.closed

pub returns-in-Unknown : goal.returns-in-Unknown
returns-in-Unknown g c =
    let was = withdrawn-unknown _ c.args.ticket _ c.withdraw.ensures.line c.in-Unknown.ensures.answer in
    let same = c.withdraw.ensures.waiters ∙ was.1 in
    rw (← c.self.view_is) (
      (was.0, desk_of-same c.self.inside c.withdraw.new.self same c.withdraw.ensures.closed),
      ap unnotified_tickets same,
      c.withdraw.ensures.capacity,
    )

pub settle-requires : goal.settle-requires
settle-requires g c =
    let held = held-without c.self.inside c.withdraw.new.self c.args.ticket c.withdraw.ensures.line
    c.withdraw.ensures.waiters c.self.invariant in
    omega (arith, held, c.self.invariant.small)

pub invariant_of-self-2 : goal.invariant_of-self-2
invariant_of-self-2 g c =
    let settle = c.settle.ensures in
    CoreInvariant-settled c.self.inside c.withdraw.new.self c.args.ticket c.withdraw.ensures.line
    c.withdraw.ensures.waiters
    c.self.invariant c.settle.new.gate settle.held settle.queue settle.fewer settle.nobody_waits

pub returns : goal.returns
returns g c =
    let settle = c.settle.ensures in
    let was = withdrawn-known _ c.args.ticket _ c.withdraw.ensures.line
    (rw c.withdraw.ensures.answer at c.in_default.not-Unknown) in
    let left = desk_of-unqueued c.self.inside c.withdraw.new.self c.args.ticket c.withdraw.ensures.line
    c.withdraw.ensures.waiters c.withdraw.ensures.closed in
    let unnotified = unnotified-without c.self.inside c.withdraw.new.self c.args.ticket c.withdraw.ensures.line
    c.withdraw.ensures.waiters in
    let settled_is =
    desk_of-settled c.self.inside c.withdraw.new.self c.settle.new.gate settle.granted settle.waiting settle.closed in
    rw (← c.self.view_is) (
      (was, settled_is ∙ ap settled left),
      settle.unnotified ∙ unnotified,
      settle.room ∙ c.withdraw.ensures.capacity,
    )
