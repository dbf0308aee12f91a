-- An object that was served in this poll is handed out, waits, or is discarded.
use Rattle.deadpool_managed.proofs.Words.{None, Some, refl, start, Phase, may, no_step, making, Step, Preparing}
use Rattle.deadpool_managed.proofs.Phases.{accepted_in, pending_in, given_up_in}
use Rattle.deadpool_managed.proofs.work.Work.recycle.Goals as goal

pub returns-in-Accepted-clause-advanced : goal.returns-in-Accepted-clause-advanced
returns-in-Accepted-clause-advanced g c =
    let env = c.args.environment.now in
    let given = rw c.in-Accepted.is at c.pre_recycle_in.ensures.gives in
    let rest = accepted_in (may g.M.Manager g.F.SyncHook g.A.AsyncHook env.manager) env.runtime env.hooks c.args.now
    c.args.timeouts.now
    (Preparing.PreRecycle start) (Some c.args.left) c.args.self.now.slot c.pre_recycle_in.new.place Phase.Finished refl
    given in
    (no_step, (refl, rest))

pub returns-in-Pending-clause-advanced : goal.returns-in-Pending-clause-advanced
returns-in-Pending-clause-advanced g c =
    let env = c.args.environment.now in
    let given = rw c.in-Pending.is at c.pre_recycle_in.ensures.gives in
    let rest = pending_in (may g.M.Manager g.F.SyncHook g.A.AsyncHook env.manager) env.runtime env.hooks c.args.now
    c.args.timeouts.now
    (Preparing.PreRecycle start) c.in-Pending.preparing
    (Some c.args.left) c.args.self.now.slot c.pre_recycle_in.new.place given in
    (no_step, (refl, rest))

pub returns-in-GivenUp-clause-advanced : goal.returns-in-GivenUp-clause-advanced
returns-in-GivenUp-clause-advanced g c =
    let env = c.args.environment.now in
    let given = rw c.in-GivenUp.is at c.pre_recycle_in.ensures.gives in
    let made = c.discard.ensures.advanced in
    let rest = given_up_in (may g.M.Manager g.F.SyncHook g.A.AsyncHook env.manager) env.runtime env.hooks c.args.now
    c.args.timeouts.now
    (Preparing.PreRecycle start) (Some c.args.left) c.args.self.now.slot c.pre_recycle_in.new.place made.0 _ _ given
    made.1.1 in
    (making Step.Discard made.0 None, (made.1.0, rest))
