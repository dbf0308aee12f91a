-- An object that is taken makes one step, and its caller has it in the history.
use Rattle.std.proofs.Common.{true, false, ◌≡◌, None, sym, ◌∙◌}
use Rattle.deadpool_desk.specs.declared.step.Step.TheVariants as step
use Rattle.deadpool_shared.proofs.Calls.{has_called, takes_nothing}
use Rattle.deadpool_shared.proofs.object.Object.take_by.Goals as goal

pub returns-clause-call : goal.returns-clause-call
returns-clause-call g c =
    let nothing : c.make-reply.new.hand ≡ None =
    takes_nothing c.make-reply.result c.make-reply.new.hand c.make-reply.ensures.fits c.make-reply.ensures.hand in (
      c.make-reply.result,
      has_called step.Take None c.make-reply.result c.args.this.out.shares c.make-reply.new.self
          c.in-Some.caller (λ refused. absurd (let may : false ≡ true = refused.0 in cc))
          (rw (c.new-seat.ensures, nothing) at c.make-reply.ensures.made.1)
          (sym c.leave.ensures ∙ c.in-Some.is),
    )
