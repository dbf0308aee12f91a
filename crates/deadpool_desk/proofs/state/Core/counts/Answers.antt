-- What a core counts is what its lists are long.
use Rattle.deadpool_desk.proofs.Names.{refl, ◌∙◌, granted_count-length, waiting_count-length}
use Rattle.deadpool_desk.proofs.state.Core.counts.Goals as goal

pub returns : goal.returns
returns g c =
    let line = c.self.inside.gate.waiters in
    let granted = c.granted-granted.ensures.count ∙ granted_count-length line in
    let waiting = c.waiting.ensures.count ∙ waiting_count-length line in
    rw (← c.self.view_is, c.saturating_sub.ensures, c.len-idle.ensures.len, granted, waiting) refl
