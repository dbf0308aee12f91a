-- A get that is given up leaves its queue, and an object that it was granted goes to the next get.
use Rattle.deadpool_unmanaged.proofs.Words.{refl, ◌≡◌, ◌∙◌, sym, subst, rules, length, withdrawn-unknown}
use Rattle.deadpool_unmanaged.proofs.Words.{withdrawn-known}
use Rattle.deadpool_unmanaged.proofs.Words.{IsKept}
use Rattle.deadpool_unmanaged.proofs.CoreQueues.{gets-same, gets-without, gets-settled}
use Rattle.deadpool_unmanaged.proofs.Kept.{kept-freed_get}
use Rattle.deadpool_unmanaged.proofs.state.Core.get_cancel.Goals as goal

pub invariant_of-self : goal.invariant_of-self
invariant_of-self g c =
    let out = c.withdraw.ensures in
    let was = withdrawn-unknown _ c.args.ticket _ out.line c.in-Unknown.ensures.answer in
    let same = gets-same c.self.inside c.withdraw.new.self (out.waiters ∙ was.1) out.closed in
    record {
      together = c.self.invariant.together ∙ sym out.closed;
      reserve = c.self.invariant.reserve;
      kept = subst IsKept (sym same) c.self.invariant.kept;
    }

pub returns-in-Unknown : goal.returns-in-Unknown
returns-in-Unknown g c =
    let out = c.withdraw.ensures in
    let was = withdrawn-unknown _ c.args.ticket _ out.line c.in-Unknown.ensures.answer in
    rw (← c.self.view_is) (
      (was.0, gets-same c.self.inside c.withdraw.new.self (out.waiters ∙ was.1) out.closed),
      (out.capacity, refl),
    )

pub invariant_of-self-2 : goal.invariant_of-self-2
invariant_of-self-2 g c =
    let out = c.withdraw.ensures in
    let line = c.settle_within.ensures in
    let all : c.len.result ≡ length c.self.inside.idle.items = search rules in
    let left = gets-without c.self.inside c.withdraw.new.self c.args.ticket out.line.apart out.waiters out.closed in
    let is = gets-settled c.self.inside c.withdraw.new.self c.settle_within.new.self _ _ all left line.queue
    line.unnotified
    line.closed c.self.invariant.kept.adds.nobody_waits in
    record {
      together = c.self.invariant.together ∙ sym (line.closed ∙ out.closed);
      reserve = c.self.invariant.reserve;
      kept = subst IsKept (sym is) (kept-freed_get _ c.args.ticket c.self.invariant.kept);
    }

pub returns : goal.returns
returns g c =
    let out = c.withdraw.ensures in
    let line = c.settle_within.ensures in
    let all : c.len.result ≡ length c.self.inside.idle.items = search rules in
    let left = gets-without c.self.inside c.withdraw.new.self c.args.ticket out.line.apart out.waiters out.closed in
    let is = gets-settled c.self.inside c.withdraw.new.self c.settle_within.new.self _ _ all left line.queue
    line.unnotified
    line.closed c.self.invariant.kept.adds.nobody_waits in
    rw (← c.self.view_is) (
      (withdrawn-known _ c.args.ticket _ out.line (rw out.answer at c.in_default.not-Unknown), is),
      (line.capacity ∙ out.capacity, refl),
    )
