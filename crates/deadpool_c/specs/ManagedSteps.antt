-- Steps of a managed pool as plain numbers.
use Rattle.std.specs.Prelude.{ℕ, Bool, ◌==◌, if◌then◌else◌, Option, Some, None}
use Rattle.deadpool_desk.specs.declared.owner_step.OwnerStep.{OwnerStep}
use Rattle.deadpool_desk.specs.declared.owner_step.OwnerStep.TheVariants as owner
use Rattle.deadpool_desk.specs.declared.slot.Slot.{Slot}
use Rattle.deadpool_desk.specs.declared.step.Held.TheVariants as held
use Rattle.deadpool_desk.specs.declared.step.Step.{Step}
use Rattle.deadpool_desk.specs.declared.step.Step.TheVariants.{Enter, Ask, Again, Discard, Created, Failed, Refused}
use Rattle.deadpool_desk.specs.declared.step.Step.TheVariants.{Back, Withdraw, Cancel, Take}
use Rattle.deadpool_c.specs.declared.step.TheConstants as step

abbrev pub allowance_of : Bool → ℕ → Option ℕ
allowance_of is_set allowance = if is_set then Some allowance else None

-- the step that is asked for by these numbers, if there is one
abbrev pub step_of : ℕ → Bool → ℕ → Option Step
step_of kind is_set number =
    if kind == step.ENTER then Some (Enter is_set)
    else (if kind == step.ASK then Some (Ask number is_set)
    else (if kind == step.AGAIN then Some (Again (allowance_of is_set number))
    else (if kind == step.DISCARD then Some Discard
    else (if kind == step.NEW_OBJECT then Some Created
    else (if kind == step.FAILED then Some Failed
    else (if kind == step.REFUSED then Some Refused
    else (if kind == step.BACK then Some Back
    else (if kind == step.WITHDRAW then Some (Withdraw number)
    else (if kind == step.CANCEL_PLACE then Some (Cancel held.Place)
    else (if kind == step.CANCEL_CREATION then Some (Cancel held.Creation)
    else (if kind == step.CANCEL_OBJECT then Some (Cancel held.Object)
    else (if kind == step.TAKE then Some Take
    else None))))))))))))

-- the step of the owner that is asked for by these numbers, if there is one
abbrev pub owner_step_of : ℕ → ℕ → Option OwnerStep
owner_step_of kind number =
    if kind == step.RESIZE then Some (owner.Resize number)
    else (if kind == step.CLOSE then Some owner.Close
    else (if kind == step.CLONE_HANDLE then Some owner.CloneHandle
    else (if kind == step.DROP_HANDLE then Some owner.DropHandle
    else (if kind == step.UPGRADE then Some owner.Upgrade
    else None))))

-- what is in the hand before the step: an object that comes back, under its number and key
abbrev pub brought : Step → ℕ → ℕ → Option (Slot ℕ)
brought Back number key = Some (record { number = number; value = key })
brought _ number key = None
