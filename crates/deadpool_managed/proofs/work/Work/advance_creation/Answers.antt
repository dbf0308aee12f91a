-- A creation that is polled again comes to what `after_creation` makes of its answer.
use Rattle.deadpool_managed.proofs.Words.{refl}
use Rattle.deadpool_managed.proofs.work.Work.advance_creation.Goals as goal

pub returns-clause-advanced : goal.returns-clause-advanced
returns-clause-advanced g c =
    let after = c.after_creation.ensures.advanced in
    let p = c.poll_create-answer in (
      after.0,
      (after.1.0, ((p.result, p.new.creating), (((p.result, p.new.creating), (p.ensures.answer, refl)), after.1.1))),
    )
