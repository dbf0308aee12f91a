-- The desk machine as a desk.
use Rattle.std.specs.Prelude.{⊤}
use Rattle.std.specs.Option.{option_or}
use Rattle.deadpool_desk.specs.DeskState.{DeskState}
use Rattle.deadpool_desk.specs.DeskSteps.{Does}
use Rattle.deadpool_desk.specs.declared.slot.Slot.{Slot}
use Rattle.deadpool_desk.specs.declared.desk.Desk.{Ghosts as DeskOf}

-- what a core's steps are to whoever does not ask who was told
abbrev pub core_desk : {V : Type 0} → DeskOf (DeskState (Slot V)) V
core_desk = record {
  holds = λ _ _. ⊤;
  takes_back = λ _ _. ⊤;
  waits = λ _ _. ⊤;
  makes = λ d step was reply hand d'. Does d step (option_or was hand) reply d';
}
