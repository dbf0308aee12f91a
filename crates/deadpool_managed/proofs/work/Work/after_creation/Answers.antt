-- What a creation answered: an object for its hooks, an error, a timeout at the deadline, or a wait.
use Rattle.deadpool_managed.proofs.Words.{◌≡◌, Ok, Err, true, false, refl, Poll, is_reached, None, no_step, making}
use Rattle.deadpool_managed.proofs.Words.{Step}
use Rattle.deadpool_managed.proofs.Phases.{finished, ended_is}
use Rattle.deadpool_managed.proofs.work.Work.after_creation.Goals as goal

pub returns-in-Ok-clause-advanced : goal.returns-in-Ok-clause-advanced
returns-in-Ok-clause-advanced g c =
    let is : c.args.answer ≡ Poll.Ready (Ok c.in-Ok.value) = cc in
    rw is (making Step.Created c.report-reply.result None, (c.report-reply.ensures.made, c.after_created.ensures.after))

pub returns-in-Ready-clause-advanced : goal.returns-in-Ready-clause-advanced
returns-in-Ready-clause-advanced g c =
    let is : c.args.answer ≡ Poll.Ready (Err c.in-Err.cause) = cc in
    rw is (
      making Step.Failed c.report-reply-in-Err.result None,
      (
        c.report-reply-in-Err.ensures.made,
        (
          finished c.args.self.now.phase c.args.self.now.slot c.requires.finished,
          ended_is _ _ _ c.args.self.now.slot c.ended.ensures,
        ),
      ),
    )

pub returns-then-is_reached-clause-advanced : goal.returns-then-is_reached-clause-advanced
returns-then-is_reached-clause-advanced g c =
    let is : c.args.answer ≡ Poll.Pending = cc in
    let late : is_reached c.args.deadline c.args.now ≡ true = cc in
    rw is (
      making Step.Failed c.report-reply-then-is_reached.result None,
      (
        c.report-reply-then-is_reached.ensures.made,
        (
          late,
          finished c.args.self.now.phase c.args.self.now.slot c.requires.finished,
          ended_is _ _ _ c.args.self.now.slot c.ended-then-is_reached.ensures,
        ),
      ),
    )

pub returns-clause-advanced : goal.returns-clause-advanced
returns-clause-advanced g c =
    let is : c.args.answer ≡ Poll.Pending = cc in
    let early : is_reached c.args.deadline c.args.now ≡ false = cc in
    rw is (no_step, (refl, (early, refl, refl)))
