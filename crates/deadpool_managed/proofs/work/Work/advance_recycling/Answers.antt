-- An object that is prepared further is handed out, waits, or is discarded.
use Rattle.deadpool_managed.proofs.Words.{None, refl, may, no_step, making, Step}
use Rattle.deadpool_managed.proofs.Phases.{accepted_in, pending_in, given_up_in}
use Rattle.deadpool_managed.proofs.work.Work.advance_recycling.Goals as goal

pub returns-in-Accepted-clause-advanced : goal.returns-in-Accepted-clause-advanced
returns-in-Accepted-clause-advanced g c =
    let env = c.args.environment.now in
    let given = rw c.in-Accepted.is at c.prepare_in.ensures.gives in
    let rest = accepted_in (may g.M.Manager g.F.SyncHook g.A.AsyncHook env.manager) env.runtime env.hooks c.args.now
    c.args.timeouts.now
    c.args.preparing None c.args.self.now.slot c.prepare_in.new.place c.args.self.now.phase c.requires.finished given in
    (no_step, (refl, rest))

pub returns-in-Pending-clause-advanced : goal.returns-in-Pending-clause-advanced
returns-in-Pending-clause-advanced g c =
    let env = c.args.environment.now in
    let given = rw c.in-Pending.is at c.prepare_in.ensures.gives in
    let rest = pending_in (may g.M.Manager g.F.SyncHook g.A.AsyncHook env.manager) env.runtime env.hooks c.args.now
    c.args.timeouts.now
    c.args.preparing c.in-Pending.preparing None c.args.self.now.slot c.prepare_in.new.place given in
    (no_step, (refl, rest))

pub returns-in-GivenUp-clause-advanced : goal.returns-in-GivenUp-clause-advanced
returns-in-GivenUp-clause-advanced g c =
    let env = c.args.environment.now in
    let given = rw c.in-GivenUp.is at c.prepare_in.ensures.gives in
    let made = c.discard.ensures.advanced in
    let rest = given_up_in (may g.M.Manager g.F.SyncHook g.A.AsyncHook env.manager) env.runtime env.hooks c.args.now
    c.args.timeouts.now
    c.args.preparing None c.args.self.now.slot c.prepare_in.new.place made.0 _ _ given made.1.1 in
    (making Step.Discard made.0 None, (made.1.0, rest))
