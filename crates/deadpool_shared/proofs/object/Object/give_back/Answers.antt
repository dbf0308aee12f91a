-- An object that is given back makes one step, and its caller has it in the history.
use Rattle.std.proofs.Common.{◌≡◌, true, false, Some, sym, ◌∙◌}
use Rattle.deadpool_desk.specs.declared.step.Step.TheVariants as step
use Rattle.deadpool_shared.proofs.Calls.{has_called}
use Rattle.deadpool_shared.proofs.object.Object.give_back.Goals as goal

pub returns : goal.returns
returns g c = (
  c.make-reply.result,
  has_called step.Back (Some c.args.this.slot.number) c.make-reply.result c.args.this.out.shares c.make-reply.new.self
      c.in-Some.caller (λ refused. absurd (let may : false ≡ true = refused.0 in cc))
      (rw (c.new-seat.ensures) at c.make-reply.ensures.made.1)
      (sym c.leave.ensures ∙ c.in-Some.is),
)
