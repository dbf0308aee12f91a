-- A retain leaves no more idle than there were, so the core's invariant stays.
use Rattle.deadpool_desk.proofs.Names.{length, arith, rules}
use Rattle.deadpool_desk.proofs.Reviewing.{reviews_fewer}
use Rattle.deadpool_desk.proofs.state.Core.retain_noting.Goals as goal

pub invariant_of-self-2 : goal.invariant_of-self-2
invariant_of-self-2 g c =
    let idle = c.self.inside.ring.items in
    let kept = c.review.new.ring.items in
    let given = c.in_ok-removed in
    let was = c.self.invariant.settled in
    let fewer = reviews_fewer g.R.Retainer c.least_idle-least.result (length idle) 0 idle c.args.retainer.now kept
    given.removed.items given.noted.items c.review.new.retainer given.ensures.reviewed in
    record {
      within = search rules;
      small = search rules;
      held = search rules;
      numbered = search rules;
      settled = record { within = omega (arith, fewer, was.within); served = was.served; few = was.few };
    }
