-- The timeouts of a get are its own, or those of its pool.
use Rattle.std.proofs.Common.{◌∙◌, ap}
use Rattle.std.specs.Option.{unwrap_or}
use Rattle.deadpool_shared.proofs.Lent.{now_or}
use Rattle.deadpool_shared.proofs.timeouts.OwnTimeoutsHasTimeouts.timeouts.Goals as goal

pub returns : goal.returns
returns c =
    rw (← c.self.view_is) (
    ap (λ r. r.now) c.unwrap_or.ensures ∙ now_or c.as_ref.result _
    ∙ ap (λ t. unwrap_or t c.args.of_pool.now) c.as_ref.ensures.value
    )
