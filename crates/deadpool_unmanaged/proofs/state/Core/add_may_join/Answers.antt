-- Whether one more add may wait is told by the length of its queue and the bound.
use Rattle.deadpool_unmanaged.proofs.Words.{◌∙◌, refl, waiting_count-length}
use Rattle.deadpool_unmanaged.proofs.state.Core.add_may_join.Goals as goal

pub returns-then-wait : goal.returns-then-wait
returns-then-wait g c =
    let waiting = c.waiting.ensures.count ∙ waiting_count-length c.self.inside.adds.waiters in
    rw (c.if-wait.true, ← c.self.view_is, waiting) refl
