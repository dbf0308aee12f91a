-- What an unmanaged core counts is what its lists are long.
use Rattle.deadpool_unmanaged.proofs.Words.{◌≡◌, ◌∙◌, length, vec_len, rules, refl, granted_count-length}
use Rattle.deadpool_unmanaged.proofs.Words.{waiting_count-length}
use Rattle.deadpool_unmanaged.proofs.state.Core.counts.Goals as goal

pub returns : goal.returns
returns g c =
    let gets = c.self.inside.gets.waiters in
    let adds = c.self.inside.adds.waiters in
    let idle : vec_len c.self.inside.idle ≡ length c.self.inside.idle.items = search rules in
    let gets_granted = c.granted.ensures.count ∙ granted_count-length gets in
    let gets_waiting = c.waiting.ensures.count ∙ waiting_count-length gets in
    let adds_granted = c.granted-2.ensures.count ∙ granted_count-length adds in
    let adds_waiting = c.waiting-2.ensures.count ∙ waiting_count-length adds in
    rw (← c.self.view_is, c.len.ensures, idle, gets_granted, gets_waiting, adds_granted, adds_waiting) refl
