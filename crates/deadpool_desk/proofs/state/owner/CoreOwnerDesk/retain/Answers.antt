-- A retain without notes is one with notes that are forgotten.
use Rattle.deadpool_desk.proofs.Reviewing.{retains_forget}
use Rattle.deadpool_desk.proofs.state.owner.CoreOwnerDesk.retain.Goals as goal

pub returns-in-Ok-clause-retained : goal.returns-in-Ok-clause-retained
returns-in-Ok-clause-retained g c =
    let noting = c.in-Ok.ensures.retained in
    let before = c.args.self.now.desk in
    let after = c.retain_noting.new.self.desk in (
      retains_forget g.R.Retainer before after c.args.retainer.now c.retain_noting.new.retainer (
        c.in-Ok.result,
        c.in-Ok.field-0-1,
      ) noting.0,
      noting.1,
      noting.2,
    )
