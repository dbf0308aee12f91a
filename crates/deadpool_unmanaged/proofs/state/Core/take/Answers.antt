-- A take makes the step `Take`: room that it leaves goes to the next add.
use Rattle.deadpool_unmanaged.proofs.Words.{◌≡◌, ◌<◌, ◌+◌, ◌-◌, arith, length, vec_len, rules, refl}
use Rattle.deadpool_unmanaged.proofs.CoreQueues.{adds-settled}
use Rattle.deadpool_unmanaged.proofs.state.Core.take.Goals as goal

pub returns : goal.returns
returns g c =
    let core = c.self.inside in
    let line = c.settle_within.ensures in
    let idle : vec_len core.idle ≡ length core.idle.items = search rules in
    let all : core.limit - c.len.result - (core.outside - 1)
    ≡ core.limit - (length core.idle.items + (core.outside - 1)) = omega (arith, idle, c.len.ensures) in
    let out : 0 < core.outside = search rules in
    let is = adds-settled (record core { outside = core.outside - 1 }) core.adds c.settle_within.new.self _ _ all refl
    c.self.invariant.together line.queue line.unnotified c.self.invariant.kept.gets.nobody_waits in
    rw (← c.self.view_is) ((out, is), (refl, line.capacity))
