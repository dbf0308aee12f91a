-- An object that comes back makes the step `Back`: it is stored, or leaves a closed pool.
use Rattle.std.proofs.Common.{◌&&◌, nat_lt}
use Rattle.deadpool_unmanaged.proofs.Words.{◌≡◌, ◌<◌, ◌+◌, ◌-◌, arith, true, false, length, vec_len, rules, refl}
use Rattle.deadpool_unmanaged.proofs.Words.{state_of, stored}
use Rattle.deadpool_unmanaged.proofs.CoreQueues.{gets-settled, adds-settled, in_hand, joined_idle}
use Rattle.deadpool_unmanaged.proofs.Kept.{room-returned}
use Rattle.deadpool_unmanaged.proofs.state.Core.back.Goals as goal

pub returns-then-is_closed-clause-made : goal.returns-then-is_closed-clause-made
returns-then-is_closed-clause-made g c =
    let core = c.self.inside in
    let line = c.settle_within.ensures in
    let idle : vec_len core.idle ≡ length core.idle.items = search rules in
    let all : core.limit - c.len.result - (core.outside - 1)
    ≡ core.limit - (length core.idle.items + (core.outside - 1)) = omega (arith, idle, c.len.ensures) in
    let is = adds-settled (record core { outside = core.outside - 1 }) core.adds c.settle_within.new.self _ _ all refl
    c.self.invariant.together line.queue line.unnotified c.self.invariant.kept.gets.nobody_waits in
    let out : 0 < c.args.self.now.pool.outside = search rules in
    let shut : (c.args.self.now.pool.is_open && nat_lt 0 c.args.self.now.pool.handles) ≡ false = search rules in
    rw (in_hand c.args.hand.now c.requires).1 (
      (out, shut, rw (← c.self.view_is) is),
      rw (← c.self.view_is) (refl, line.capacity),
    )

pub returns-clause-made : goal.returns-clause-made
returns-clause-made g c =
    let core = c.self.inside in
    let stores = c.store.ensures in
    let has = in_hand c.args.hand.now c.requires in
    let gone = record core { outside = core.outside - 1; idle = c.store.new.idle } in
    let puts : state_of gone ≡ stored has.0 (record (state_of core) { outside = core.outside - 1 }) =
    rw (joined_idle _ _ _ _ has.1 stores.idle) refl in
    let out : 0 < core.outside = search rules in
    let room = room-returned (state_of core) has.0 c.self.invariant.kept out in
    let is = gets-settled gone core.gets c.store.new.gets _ _ refl puts stores.gets stores.unnotified stores.closed
    room in
    let was : 0 < c.args.self.now.pool.outside = search rules in
    let is_open : c.args.self.now.pool.is_open ≡ true = search rules in
    let lives : 0 < c.args.self.now.pool.handles = search rules in
    rw has.1 ((was, is_open, lives, rw (← c.self.view_is) is), rw (← c.self.view_is) (stores.capacity, refl))
