-- Whether one more may wait is told by the length of the queue and its bound.
use Rattle.deadpool_desk.proofs.Names.{◌∙◌, refl, waiting_count-length}
use Rattle.deadpool_desk.proofs.state.Core.may_join.Goals as goal

pub returns-then-wait : goal.returns-then-wait
returns-then-wait g c =
    let waiting = c.waiting.ensures.count ∙ waiting_count-length c.self.inside.gate.waiters in
    rw (c.if-wait.true, ← c.self.view_is, waiting) refl
