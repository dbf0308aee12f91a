-- Those in a pool's queues that were not told that their wait has ended, by its state and by its history.
use Rattle.std.specs.Prelude.{ℕ, List, ◌++◌, [], ◌∷◌}
use Rattle.deadpool_gate.specs.Numbers.{without_number}
use Rattle.deadpool_unmanaged.specs.State.{State}
use Rattle.deadpool_unmanaged.specs.declared.step.Reply.{Reply}
use Rattle.deadpool_unmanaged.specs.declared.step.Reply.TheVariants.{Waiting, Unknown, Done}
use Rattle.deadpool_unmanaged.specs.declared.step.Step.{Step}
use Rattle.deadpool_unmanaged.specs.declared.step.Step.TheVariants.{GetEnter, GetAsk, GetCancel, AddEnter, AddAsk}
use Rattle.deadpool_unmanaged.specs.declared.step.Step.TheVariants.{AddCancel}
use Rattle.deadpool_unmanaged_journal.specs.declared.entry.Entry.TheVariants.{Made}
use Rattle.deadpool_unmanaged_history.specs.declared.line.Line.{Line}
use Rattle.deadpool_unmanaged_history.specs.declared.line.Line.TheVariants.{Next, Told}
use Rattle.deadpool_unmanaged_history.specs.declared.line.Wake.TheVariants.{Get, Add}

-- by ticket, in order of arrival
pub record Unnotified : Type 0 where
  pub gets : List ℕ
  pub adds : List ℕ

-- one in a queue has heard, or is there no more
abbrev pub without_get : ℕ → Unnotified → Unnotified
without_get ticket us = record us { gets = without_number ticket us.gets }

abbrev pub without_add : ℕ → Unnotified → Unnotified
without_add ticket us = record us { adds = without_number ticket us.adds }

-- After a step: whom it makes wait is the last of them, and who asks or leaves is none of them.
abbrev pub unnotified_after : Step → Reply → Unnotified → Unnotified
unnotified_after (GetEnter wait) (Waiting ticket) us = record us { gets = us.gets ++ ticket ∷ [] }
unnotified_after (GetAsk ticket expired) Unknown us = us
unnotified_after (GetAsk ticket expired) (Waiting same) us = us
unnotified_after (GetAsk ticket expired) _ us = without_get ticket us
unnotified_after (GetCancel ticket) Done us = without_get ticket us
unnotified_after (AddEnter wait) (Waiting ticket) us = record us { adds = us.adds ++ ticket ∷ [] }
unnotified_after (AddAsk ticket) Unknown us = us
unnotified_after (AddAsk ticket) (Waiting same) us = us
unnotified_after (AddAsk ticket) _ us = without_add ticket us
unnotified_after (AddCancel ticket) Done us = without_add ticket us
unnotified_after _ _ us = us

module _ {T : Type 0} where
  -- those that the pool has not told
  abbrev pub unnotified_of : State T → Unnotified
  unnotified_of d = record { gets = d.unnotified_gets; adds = d.unnotified_adds }

  -- after a line: who is told is none of them
  abbrev pub unheard_after : Line T → Unnotified → Unnotified
  unheard_after (Next (Made step object reply)) us = unnotified_after step reply us
  unheard_after (Told (Get ticket)) us = without_get ticket us
  unheard_after (Told (Add ticket)) us = without_add ticket us
  unheard_after _ us = us

  abbrev pub unheard_from : Unnotified → List (ℕ × Line T) → Unnotified
  unheard_from us [] = us
  unheard_from us ((by, line) ∷ lines) = unheard_from (unheard_after line us) lines

  -- and at the end of a history
  abbrev pub unheard : List (ℕ × Line T) → Unnotified
  unheard log = unheard_from (record { gets = []; adds = [] }) log
