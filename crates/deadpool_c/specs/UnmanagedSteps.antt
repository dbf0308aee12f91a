-- Steps of an unmanaged pool as plain numbers.
use Rattle.std.specs.Prelude.{ℕ, Bool, ◌==◌, if◌then◌else◌, Option, Some, None}
use Rattle.deadpool_unmanaged.specs.declared.step.Step.{Step}
use Rattle.deadpool_unmanaged.specs.declared.step.Step.TheVariants.{GetEnter, GetAsk, GetCancel, AddEnter, AddAsk}
use Rattle.deadpool_unmanaged.specs.declared.step.Step.TheVariants.{AddCancel, Back, Take}
use Rattle.deadpool_c.specs.declared.unmanaged_step.TheConstants as step

-- the step that is asked for by these numbers, if there is one
abbrev pub step_of : ℕ → Bool → ℕ → Option Step
step_of kind is_set number =
    if kind == step.GET_ENTER then Some (GetEnter is_set)
    else (if kind == step.GET_ASK then Some (GetAsk number is_set)
    else (if kind == step.GET_CANCEL then Some (GetCancel number)
    else (if kind == step.ADD_ENTER then Some (AddEnter is_set)
    else (if kind == step.ADD_ASK then Some (AddAsk number)
    else (if kind == step.ADD_CANCEL then Some (AddCancel number)
    else (if kind == step.BACK then Some Back
    else (if kind == step.TAKE then Some Take
    else None)))))))

-- what is in the hand before the step: the key of an object that is added or comes back
abbrev pub brought : Step → ℕ → Option ℕ
brought (AddEnter wait) key = Some key
brought (AddAsk ticket) key = Some key
brought Back key = Some key
brought _ key = None
