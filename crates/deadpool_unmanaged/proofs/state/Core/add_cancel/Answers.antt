-- An add that is given up leaves its queue, and room that it was granted goes to the next add.
use Rattle.deadpool_unmanaged.proofs.Words.{refl, ◌≡◌, ◌∙◌, ◌-◌, ◌+◌, arith, sym, subst, rules, length, vec_len}
use Rattle.deadpool_unmanaged.proofs.Words.{withdrawn-unknown, withdrawn-known, IsKept}
use Rattle.deadpool_unmanaged.proofs.CoreQueues.{adds-same, adds-without, adds-settled}
use Rattle.deadpool_unmanaged.proofs.Kept.{kept-freed_add}
use Rattle.deadpool_unmanaged.proofs.state.Core.add_cancel.Goals as goal

pub invariant_of-self : goal.invariant_of-self
invariant_of-self g c =
    let out = c.withdraw.ensures in
    let was = withdrawn-unknown _ c.args.ticket _ out.line c.in-Unknown.ensures.answer in
    let same = adds-same c.self.inside c.withdraw.new.self (out.waiters ∙ was.1) in
    record {
      together = out.closed ∙ c.self.invariant.together;
      reserve = c.self.invariant.reserve;
      kept = subst IsKept (sym same) c.self.invariant.kept;
    }

pub returns-in-Unknown : goal.returns-in-Unknown
returns-in-Unknown g c =
    let out = c.withdraw.ensures in
    let was = withdrawn-unknown _ c.args.ticket _ out.line c.in-Unknown.ensures.answer in
    rw (← c.self.view_is) (
      (was.0, adds-same c.self.inside c.withdraw.new.self (out.waiters ∙ was.1)),
      (refl, out.capacity),
    )

pub invariant_of-self-2 : goal.invariant_of-self-2
invariant_of-self-2 g c =
    let out = c.withdraw.ensures in
    let line = c.settle_within.ensures in
    let core = c.self.inside in
    let idle : vec_len core.idle ≡ length core.idle.items = search rules in
    let all : core.limit - c.len.result - core.outside ≡ core.limit - (length core.idle.items + core.outside) =
    omega (arith, idle, c.len.ensures) in
    let left = adds-without core c.withdraw.new.self c.args.ticket out.line.apart out.waiters in
    let is = adds-settled core c.withdraw.new.self c.settle_within.new.self _ _ all left
    (out.closed ∙ c.self.invariant.together) line.queue line.unnotified c.self.invariant.kept.gets.nobody_waits in
    record {
      together = line.closed ∙ out.closed ∙ c.self.invariant.together;
      reserve = c.self.invariant.reserve;
      kept = subst IsKept (sym is) (kept-freed_add _ c.args.ticket c.self.invariant.kept);
    }

pub returns : goal.returns
returns g c =
    let out = c.withdraw.ensures in
    let line = c.settle_within.ensures in
    let core = c.self.inside in
    let idle : vec_len core.idle ≡ length core.idle.items = search rules in
    let all : core.limit - c.len.result - core.outside ≡ core.limit - (length core.idle.items + core.outside) =
    omega (arith, idle, c.len.ensures) in
    let left = adds-without core c.withdraw.new.self c.args.ticket out.line.apart out.waiters in
    let is = adds-settled core c.withdraw.new.self c.settle_within.new.self _ _ all left
    (out.closed ∙ c.self.invariant.together) line.queue line.unnotified c.self.invariant.kept.gets.nobody_waits in
    rw (← c.self.view_is) (
      (withdrawn-known _ c.args.ticket _ out.line (rw out.answer at c.in_default.not-Unknown), is),
      (refl, line.capacity ∙ out.capacity),
    )
