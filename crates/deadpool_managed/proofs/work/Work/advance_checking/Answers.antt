-- A new object whose hooks are asked again is handed out, waits, or is discarded.
use Rattle.deadpool_managed.proofs.Words.{None, refl, may, no_step, making, Step}
use Rattle.deadpool_managed.proofs.Phases.{checked_in, checking_in, refused_in}
use Rattle.deadpool_managed.proofs.work.Work.advance_checking.Goals as goal

pub returns-in-Accepted-clause-advanced : goal.returns-in-Accepted-clause-advanced
returns-in-Accepted-clause-advanced g c =
    let env = c.args.environment.now in
    let given = rw c.in-Accepted.is at c.post_create_in.ensures.gives in
    let rest = checked_in (may g.M.Manager g.F.SyncHook g.A.AsyncHook env.manager) env.runtime env.hooks c.args.now
    c.args.timeouts.now
    c.args.position c.args.self.now.slot c.post_create_in.new.place c.args.self.now.phase c.requires.finished given in
    (no_step, (refl, rest))

pub returns-in-Pending-clause-advanced : goal.returns-in-Pending-clause-advanced
returns-in-Pending-clause-advanced g c =
    let env = c.args.environment.now in
    let given = rw c.in-Pending.is at c.post_create_in.ensures.gives in
    let rest = checking_in (may g.M.Manager g.F.SyncHook g.A.AsyncHook env.manager) env.runtime env.hooks c.args.now
    c.args.timeouts.now
    c.args.position c.in-Pending.position c.args.self.now.slot c.post_create_in.new.place given in
    (no_step, (refl, rest))

pub returns-in-Refused-clause-advanced : goal.returns-in-Refused-clause-advanced
returns-in-Refused-clause-advanced g c =
    let env = c.args.environment.now in
    let given = rw c.in-Refused.is at c.post_create_in.ensures.gives in
    let made = c.refuse.ensures.advanced in
    let rest = refused_in (may g.M.Manager g.F.SyncHook g.A.AsyncHook env.manager) env.runtime env.hooks c.args.now
    c.args.timeouts.now
    c.args.position c.in-Refused.cause c.args.self.now.slot c.post_create_in.new.place made.0 _ _ given made.1.1 in
    (making Step.Refused made.0 None, (made.1.0, rest))
