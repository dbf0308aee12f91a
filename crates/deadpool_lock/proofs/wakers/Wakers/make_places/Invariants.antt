-- While places for wakers are made: the old ones stay, the new ones are empty, and fewer are missing each time.
use Rattle.std.proofs.Common.{◌≡◌, ◌++◌, ◌-◌, ◌≤◌, max, None, replicate, vec_len, vec_capacity}
use Rattle.deadpool_lock.proofs.wakers.Wakers.make_places.Given as goal

abbrev pub invariant-loop-self : goal.invariant-loop-self
invariant-loop-self l =
    let first = l.initial.self-inside.places in
    let now = l.self-inside.places in
    (now.items ≡ first.items ++ replicate (vec_len now - vec_len first) None)
    × (vec_len first ≤ vec_len now)
    × (vec_len now ≤ max l.count (vec_len first))
    × (l.count ≤ vec_capacity now)

abbrev pub decreases-loop-self : goal.decreases-loop-self
decreases-loop-self l = l.count - vec_len l.self-inside.places
