-- A get that asks again makes the step `GetAsk`, by each of the gate's answers.
use Rattle.deadpool_unmanaged.proofs.Words.{◌≡◌, ◌∙◌, arith, not, refl, sym, ap, subst, or_left, without_waiter, handed}
use Rattle.deadpool_unmanaged.proofs.Words.{asked-granted, asked-waiting, asked-closed, asked-unknown, IsKept}
use Rattle.deadpool_unmanaged.proofs.CoreQueues.{gets-same, gets-without, none_idle, closed_or_open}
use Rattle.deadpool_unmanaged.proofs.Kept.{kept-taken, kept-left, kept-refused_get, settled-kept}
use Rattle.deadpool_unmanaged.proofs.state.Core.get_ask.Goals as goal

pub invariant_of-self : goal.invariant_of-self
invariant_of-self g c =
    let asked = c.ask.ensures in
    let was = asked-granted _ c.args.ticket _ asked.line c.in-Granted.ensures.answer in
    let left = gets-without c.self.inside c.ask.new.self c.args.ticket asked.line.apart
    (asked.waiters ∙ was.2) asked.closed in
    let kept = kept-taken _ c.args.ticket c.in-Some.value
    (sym c.take_last.ensures.value ∙ c.in-Some.is) c.self.invariant.kept in
    record {
      together = c.self.invariant.together ∙ sym asked.closed;
      reserve = omega (arith, c.self.invariant.reserve, c.take_last.ensures.room);
      kept = rw c.take_last.ensures.others (subst IsKept (sym (ap handed left)) kept);
    }

pub invariant_of-self-in-None : goal.invariant_of-self-in-None
invariant_of-self-in-None g c =
    let asked = c.ask.ensures in
    let was = asked-granted _ c.args.ticket _ asked.line c.in-Granted.ensures.answer in
    let left = gets-without c.self.inside c.ask.new.self c.args.ticket asked.line.apart
    (asked.waiters ∙ was.2) asked.closed in
    let none = none_idle c.self.inside.idle.items (sym c.take_last.ensures.value ∙ c.in-None.is) in
    let same : c.take_last.new.idle.items ≡ c.self.inside.idle.items = c.take_last.ensures.others ∙ rw none refl in
    record {
      together = c.self.invariant.together ∙ sym asked.closed;
      reserve = omega (arith, c.self.invariant.reserve, c.take_last.ensures.room);
      kept =
          rw same (subst IsKept (sym left) (kept-refused_get _ c.args.ticket (λ is_open. none) c.self.invariant.kept));
    }

pub invariant_of-self-in-Closed : goal.invariant_of-self-in-Closed
invariant_of-self-in-Closed g c =
    let asked = c.ask.ensures in
    let was = asked-closed _ c.args.ticket _ asked.line c.in-Closed.ensures.answer in
    let left = gets-without c.self.inside c.ask.new.self c.args.ticket asked.line.apart
    (asked.waiters ∙ was.2) asked.closed in
    record {
      together = c.self.invariant.together ∙ sym asked.closed;
      reserve = c.self.invariant.reserve;
      kept = subst IsKept (sym left)
          (kept-refused_get _ c.args.ticket (λ is_open. absurd (closed_or_open _ was.0 is_open)) c.self.invariant.kept);
    }

pub invariant_of-self-then-expired : goal.invariant_of-self-then-expired
invariant_of-self-then-expired g c =
    let asked = c.ask.ensures in
    let was = asked-waiting _ c.args.ticket _ asked.line c.in-Waiting.ensures.answer in
    let gone = c.withdraw.ensures.waiters ∙ ap (without_waiter c.args.ticket) (asked.waiters ∙ was.3) in
    let closed = c.withdraw.ensures.closed ∙ asked.closed in
    let left = gets-without c.self.inside c.withdraw.new.self c.args.ticket asked.line.apart gone closed in
    record {
      together = c.self.invariant.together ∙ sym closed;
      reserve = c.self.invariant.reserve;
      kept = subst IsKept (sym left) (kept-left _ c.args.ticket was.1 c.self.invariant.kept);
    }

pub returns-in-Some-clause-made : goal.returns-in-Some-clause-made
returns-in-Some-clause-made g c =
    let asked = c.ask.ensures in
    let was = asked-granted _ c.args.ticket _ asked.line c.in-Granted.ensures.answer in
    let left = gets-without c.self.inside c.ask.new.self c.args.ticket asked.line.apart
    (asked.waiters ∙ was.2) asked.closed in
    let value = sym c.take_last.ensures.value ∙ c.in-Some.is in
    let kept = kept-taken _ c.args.ticket c.in-Some.value value c.self.invariant.kept in
    rw (← c.self.view_is) (
      (ap not was.0, was.1, value, rw c.take_last.ensures.others (ap handed left ∙ settled-kept _ kept)),
      (asked.capacity, refl),
    )

pub returns-in-None-clause-made : goal.returns-in-None-clause-made
returns-in-None-clause-made g c =
    let asked = c.ask.ensures in
    let was = asked-granted _ c.args.ticket _ asked.line c.in-Granted.ensures.answer in
    let left = gets-without c.self.inside c.ask.new.self c.args.ticket asked.line.apart
    (asked.waiters ∙ was.2) asked.closed in
    let none = none_idle c.self.inside.idle.items (sym c.take_last.ensures.value ∙ c.in-None.is) in
    let same : c.take_last.new.idle.items ≡ c.self.inside.idle.items = c.take_last.ensures.others ∙ rw none refl in
    rw (← c.self.view_is, c.requires) (
      (or_left _ _ was.1, λ is_open. (was.1, none), rw same left),
      (asked.capacity, refl),
    )

pub returns-in-Closed-clause-made : goal.returns-in-Closed-clause-made
returns-in-Closed-clause-made g c =
    let asked = c.ask.ensures in
    let was = asked-closed _ c.args.ticket _ asked.line c.in-Closed.ensures.answer in
    let left = gets-without c.self.inside c.ask.new.self c.args.ticket asked.line.apart
    (asked.waiters ∙ was.2) asked.closed in
    rw (← c.self.view_is, c.requires) (
      (was.1, λ is_open. absurd (closed_or_open _ was.0 is_open), left),
      (asked.capacity, refl),
    )

pub returns-in-Unknown-clause-made : goal.returns-in-Unknown-clause-made
returns-in-Unknown-clause-made g c =
    let asked = c.ask.ensures in
    let was = asked-unknown _ c.args.ticket _ asked.line c.in-Unknown.ensures.answer in
    rw (← c.self.view_is, c.requires)
    ((was.0, gets-same c.self.inside c.ask.new.self (asked.waiters ∙ was.1) asked.closed), (asked.capacity, refl))

pub returns-then-expired-clause-made : goal.returns-then-expired-clause-made
returns-then-expired-clause-made g c =
    let asked = c.ask.ensures in
    let was = asked-waiting _ c.args.ticket _ asked.line c.in-Waiting.ensures.answer in
    let gone = c.withdraw.ensures.waiters ∙ ap (without_waiter c.args.ticket) (asked.waiters ∙ was.3) in
    let left = gets-without c.self.inside c.withdraw.new.self c.args.ticket asked.line.apart gone
    (c.withdraw.ensures.closed ∙ asked.closed) in
    let kept = kept-left _ c.args.ticket was.1 c.self.invariant.kept in
    rw (← c.self.view_is, c.requires) (
      (ap not was.0, was.1, was.2, c.if-expired.true, left ∙ settled-kept _ kept),
      (c.withdraw.ensures.capacity ∙ asked.capacity, refl),
    )

pub returns-else-expired-clause-made : goal.returns-else-expired-clause-made
returns-else-expired-clause-made g c =
    let asked = c.ask.ensures in
    let was = asked-waiting _ c.args.ticket _ asked.line c.in-Waiting.ensures.answer in
    rw (← c.self.view_is, c.requires) (
      (
        ap not was.0,
        was.1,
        was.2,
        c.if-expired.false,
        refl,
        gets-same c.self.inside c.ask.new.self (asked.waiters ∙ was.3) asked.closed,
      ),
      (asked.capacity, refl),
    )
