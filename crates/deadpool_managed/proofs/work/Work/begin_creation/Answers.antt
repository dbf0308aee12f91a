-- A creation begins with its deadline, and with a timeout and no runtime the get ends with an error.
use Rattle.deadpool_managed.proofs.Words.{◌∙◌, sym, subst, inl, Option, None, refl, making, Step, AfterCreation, Moment}
use Rattle.deadpool_managed.proofs.Words.{may, stage_of, turn_of}
use Rattle.deadpool_managed.proofs.Polls.{begins}
use Rattle.deadpool_managed.proofs.Phases.{finished, ended_is}
use Rattle.deadpool_managed.proofs.work.Work.begin_creation.Goals as goal

pub returns-then-lacks_runtime-clause-advanced : goal.returns-then-lacks_runtime-clause-advanced
returns-then-lacks_runtime-clause-advanced g c = (
  making Step.Failed c.report-reply.result None,
  (
    c.report-reply.ensures.made,
    inl (
      c.report-reply.result,
      (
        sym c.lacks_runtime.ensures ∙ c.if-lacks_runtime.true,
        refl,
        finished c.args.self.now.phase c.args.self.now.slot c.requires.finished,
        ended_is _ _ _ c.args.self.now.slot c.ended.ensures,
      ),
    ),
  ),
)

pub returns-clause-advanced : goal.returns-clause-advanced
returns-clause-advanced g c =
    let after = c.after_creation.ensures.advanced in
    let p = c.poll_create-answer in
    let follows : Option Moment → Type 0 =
    λ deadline. AfterCreation c.args.now deadline (
      p.result,
      p.new.creating,
    ) after.0 (stage_of c.after_creation.new.self.phase c.after_creation.new.self.slot)
    (turn_of c.after_creation.result c.after_creation.new.self.slot) in
    let served = sym c.lacks_runtime.ensures ∙ c.if-lacks_runtime.false in (
      after.0,
      (
        after.1.0,
        begins (may g.M.Manager g.F.SyncHook g.A.AsyncHook c.args.environment.now.manager)
            c.args.environment.now.runtime c.args.now c.args.timeouts.now.create None (
              p.result,
              p.new.creating,
            ) after.0 _ _ served
            (c.create-state.result, (c.create-state.ensures, ((p.result, p.new.creating), (p.ensures.answer, refl))))
            (subst follows c.deadline_after-deadline.ensures after.1.1),
      ),
    )
