-- Nothing is in the hand before a step but that of an object that comes back.
use Rattle.std.specs.Prelude.{◌≡◌, ℕ, None}
use Rattle.std.proofs.Common.{refl}
use Rattle.deadpool_desk.specs.Replies.{Brings}
use Rattle.deadpool_desk.specs.declared.slot.Slot.{Slot}
use Rattle.deadpool_desk.specs.declared.step.Step.{Step}
use Rattle.deadpool_desk.specs.declared.step.Step.TheVariants.{Back}
use Rattle.deadpool_c.specs.ManagedSteps.{brought}
use Rattle.deadpool_c.proofs.managed_steps.brought.Goals as goal

nothing_brought : (step : Step) (number key : ℕ) → (step ≡ Back → ⊥)
    → Brings {O = Slot ℕ} step None × (None ≡ brought step number key)
nothing_brought Back number key is_not = absurd (is_not refl)
nothing_brought _ number key is_not = (refl, refl)

pub returns-in_default : goal.returns-in_default
returns-in_default c =
    let none = nothing_brought c.args.step.now c.args.number c.args.key c.in_default.not-Back in
    record { brings = none.0; object = none.1 }
