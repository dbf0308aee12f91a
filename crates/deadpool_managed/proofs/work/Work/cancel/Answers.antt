-- In each phase a cancelled get gives back what it holds, in one step at most.
use Rattle.deadpool_managed.proofs.Words.{◌≡◌, refl, None, no_step, making, Phase, may, Held, Step}
use Rattle.deadpool_managed.proofs.Phases.{cancelled_in}
use Rattle.deadpool_managed.proofs.work.Work.cancel.Goals as goal

pub returns-in-Unpolled-clause-cancelled : goal.returns-in-Unpolled-clause-cancelled
returns-in-Unpolled-clause-cancelled g c =
    let at : c.args.self.now.phase ≡ Phase.Unpolled = cc in
    rw (at) (no_step, (refl, tt))

pub returns-in-Finished-clause-cancelled : goal.returns-in-Finished-clause-cancelled
returns-in-Finished-clause-cancelled g c =
    let at : c.args.self.now.phase ≡ Phase.Finished = cc in
    rw (at) (no_step, (refl, tt))

pub returns-in-Queued-clause-cancelled : goal.returns-in-Queued-clause-cancelled
returns-in-Queued-clause-cancelled g c =
    let at : c.args.self.now.phase ≡ Phase.Queued c.in-Queued.ticket c.in-Queued.field-1 = cc in
    rw (at) (making (Step.Withdraw c.in-Queued.ticket) c.report.result None, (c.report.ensures.made, refl))

pub returns-in-Going-clause-cancelled : goal.returns-in-Going-clause-cancelled
returns-in-Going-clause-cancelled g c =
    let at : c.args.self.now.phase ≡ Phase.Going c.in-Going.field-0 = cc in
    rw (at) (making (Step.Cancel Held.Place) c.report-in-Going.result None, (c.report-in-Going.ensures.made, tt))

pub returns-in-Creating-clause-cancelled : goal.returns-in-Creating-clause-cancelled
returns-in-Creating-clause-cancelled g c =
    let at : c.args.self.now.phase ≡ Phase.Creating c.in-Creating.field-0 c.in-Creating.field-1 = cc in
    rw (at) (
      making (Step.Cancel Held.Creation) c.report-in-Creating.result None,
      (c.report-in-Creating.ensures.made, tt),
    )

pub returns-in-Served-clause-cancelled : goal.returns-in-Served-clause-cancelled
returns-in-Served-clause-cancelled g c =
    let at : c.args.self.now.phase ≡ Phase.Served c.in-Served.field-0 = cc in
    let given = c.give_up.ensures.given_up in
    let rest =
    cancelled_in (may g.M.Manager g.F.SyncHook g.A.AsyncHook c.args.environment.now.manager) g.M.Manager.is_ready
    (Phase.Served c.in-Served.field-0) c.args.self.now.slot given.0 tt (rw at at c.requires.placed)
    (rw c.take.ensures.value at given.1.1) in
    rw (at) (making (Step.Cancel Held.Object) given.0 None, (given.1.0, rest))

pub returns-in-Recycling-clause-cancelled : goal.returns-in-Recycling-clause-cancelled
returns-in-Recycling-clause-cancelled g c =
    let at : c.args.self.now.phase ≡ Phase.Recycling c.in-Recycling.field-0 = cc in
    let given = c.give_up-in-Recycling.ensures.given_up in
    let rest =
    cancelled_in (may g.M.Manager g.F.SyncHook g.A.AsyncHook c.args.environment.now.manager) g.M.Manager.is_ready
    (Phase.Recycling c.in-Recycling.field-0) c.args.self.now.slot given.0 tt (rw at at c.requires.placed)
    (rw c.take-in-Recycling.ensures.value at given.1.1) in
    rw (at) (making (Step.Cancel Held.Object) given.0 None, (given.1.0, rest))

pub returns-clause-cancelled : goal.returns-clause-cancelled
returns-clause-cancelled g c =
    let at : c.args.self.now.phase ≡ Phase.Checking c.in-Checking.field-0 = cc in
    let given = c.give_up-in-Checking.ensures.given_up in
    let rest =
    cancelled_in (may g.M.Manager g.F.SyncHook g.A.AsyncHook c.args.environment.now.manager) g.M.Manager.is_ready
    (Phase.Checking c.in-Checking.field-0) c.args.self.now.slot given.0 tt (rw at at c.requires.placed)
    (rw c.take-in-Checking.ensures.value at given.1.1) in
    rw (at) (making (Step.Cancel Held.Object) given.0 None, (given.1.0, rest))
