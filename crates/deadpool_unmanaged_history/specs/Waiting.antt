-- Who waits under which ticket, in each legal history.
use Rattle.std.specs.Prelude.{◌≡◌, ⊤, ℕ, List, Some}
use Rattle.std.specs.List.{All}
use Rattle.deadpool_chronicle.specs.History.{calls_by}
use Rattle.deadpool_unmanaged.specs.State.{State}
use Rattle.deadpool_unmanaged.specs.declared.step.Reply.TheVariants.{Unknown}
use Rattle.deadpool_unmanaged.specs.declared.step.Step.TheVariants.{GetAsk, GetCancel, AddAsk, AddCancel}
use Rattle.deadpool_unmanaged_journal.specs.declared.entry.Entry.{Entry}
use Rattle.deadpool_unmanaged_journal.specs.declared.entry.Entry.TheVariants.{Made}
use Rattle.deadpool_unmanaged_turns.specs.Turns.{IsQueued}
use Rattle.deadpool_unmanaged_history.specs.History.{IsLegal, Reaches, entries_of}
use Rattle.deadpool_unmanaged_history.specs.Own.{waits_in}
use Rattle.deadpool_unmanaged_history.specs.declared.line.Line.{Line}
use Rattle.deadpool_unmanaged_history.specs.declared.line.Wake.{Wake}
use Rattle.deadpool_unmanaged_history.specs.declared.line.Wake.TheVariants.{Get, Add}

module _ {T : Type 0} where
  -- no get or add that names its ticket is answered that nobody has it
  abbrev pub IsTicketKnown : Entry T → Type 0
  IsTicketKnown (Made (GetAsk ticket expired) object Unknown) = ⊥
  IsTicketKnown (Made (GetCancel ticket) object Unknown) = ⊥
  IsTicketKnown (Made (AddAsk ticket) object Unknown) = ⊥
  IsTicketKnown (Made (AddCancel ticket) object Unknown) = ⊥
  IsTicketKnown _ = ⊤

  -- the get, or the add, with this ticket is in its queue
  abbrev pub IsIn : State T → Wake → Type 0
  IsIn d (Get ticket) = IsQueued ticket d.gets
  IsIn d (Add ticket) = IsQueued ticket d.adds

-- No ticket that a step names is unknown.
abbrev pub NoTicketIsUnknown : Type 0 → Type 0
NoTicketIsUnknown T = (log : List (ℕ × Line T)) → IsLegal log → All IsTicketKnown (entries_of log)

-- Who waits under a ticket by its own lines is in its queue under it, where they end.
abbrev pub EachWaitsInItsQueue : Type 0 → Type 0
EachWaitsInItsQueue T = (log : List (ℕ × Line T)) (last : State T) (who : ℕ) (wake : Wake) → IsLegal log
    → Reaches log last → waits_in (calls_by who log) ≡ Some wake → IsIn last wake

-- No two wait under one ticket by their own lines.
abbrev pub EachTicketIsOfOne : Type 0 → Type 0
EachTicketIsOfOne T = (log : List (ℕ × Line T)) (a b : ℕ) (wake : Wake) → IsLegal log
    → waits_in (calls_by a log) ≡ Some wake → waits_in (calls_by b log) ≡ Some wake → a ≡ b
