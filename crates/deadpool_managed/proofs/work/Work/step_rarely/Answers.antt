-- A get in the queue asks, one with a place goes on, and one that has ended stays pending.
use Rattle.deadpool_managed.proofs.Words.{◌≡◌, refl, no_step, making, Phase, Step}
use Rattle.deadpool_managed.proofs.Phases.{finished}
use Rattle.deadpool_managed.proofs.work.Work.step_rarely.Goals as goal

pub returns-in-Queued-clause-advanced : goal.returns-in-Queued-clause-advanced
returns-in-Queued-clause-advanced g c =
    let at : c.args.self.now.phase ≡ Phase.Queued c.in-Queued.ticket c.in-Queued.deadline = cc in
    let made = c.make-reply.ensures in
    let empty = rw at at c.requires.placed in
    rw at (
      making (Step.Ask c.in-Queued.ticket c.is_reached-expired.result) c.make-reply.result c.make-reply.new.hand,
      ((made.fits, rw empty at made.made), (refl, c.is_reached-expired.ensures, c.served.ensures.after)),
    )

pub returns-in-Going-clause-advanced : goal.returns-in-Going-clause-advanced
returns-in-Going-clause-advanced g c =
    let at : c.args.self.now.phase ≡ Phase.Going c.in-Going.allowance = cc in
    let made = c.make-reply-in-Going.ensures in
    let empty = rw at at c.requires.placed in
    rw at (
      making (Step.Again c.in-Going.allowance) c.make-reply-in-Going.result c.make-reply-in-Going.new.hand,
      ((made.fits, rw empty at made.made), (refl, c.served-in-Going.ensures.after)),
    )

pub returns-in-Finished-clause-advanced : goal.returns-in-Finished-clause-advanced
returns-in-Finished-clause-advanced g c =
    let at : c.args.self.now.phase ≡ Phase.Finished = cc in
    let ended : c.replace.new.dest ≡ Phase.Finished = cc in
    rw at (no_step, (refl, (finished c.replace.new.dest c.args.self.now.slot ended, refl)))
