-- A get that was not polled yet enters, or ends if its timeout has no runtime to tell it.
use Rattle.deadpool_managed.proofs.Words.{◌∙◌, ap, sym, not, refl, no_step, making, turn_of, Step}
use Rattle.deadpool_managed.proofs.Phases.{finished}
use Rattle.deadpool_managed.proofs.work.Work.enter.Goals as goal

pub returns-then-cannot_wait-clause-advanced : goal.returns-then-cannot_wait-clause-advanced
returns-then-cannot_wait-clause-advanced g c = (
  no_step,
  (
    refl,
    (
      sym c.cannot_wait.ensures ∙ c.if-cannot_wait.true,
      finished c.end.new.self.phase c.end.new.self.slot c.end.ensures.phase,
      ap (λ x. turn_of x c.end.new.self.slot) c.end.ensures.failed,
    ),
  ),
)

pub returns-clause-advanced : goal.returns-clause-advanced
returns-clause-advanced g c =
    let deadline = c.deadline_after-deadline.ensures in
    let made = c.make-reply.ensures in (
      making (Step.Enter (not c.is_reached-wait.result)) c.make-reply.result c.make-reply.new.hand,
      (
        (made.fits, rw c.requires.empty at made.made),
        (
          sym c.cannot_wait.ensures ∙ c.if-cannot_wait.false,
          ap not (rw deadline at c.is_reached-wait.ensures),
          rw deadline at c.served.ensures.after,
        ),
      ),
    )
