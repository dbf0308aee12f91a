-- Under which ticket a caller waits by its own lines, of a get or an add: the one with which its last step was
-- answered. And which steps are its own to make.
use Rattle.std.specs.Prelude.{◌≡◌, ℕ, List, [], ◌∷◌, ◌++◌, Option, Some, None, IfSome}
use Rattle.deadpool_chronicle.specs.History.{calls_by}
use Rattle.deadpool_unmanaged.specs.declared.step.Reply.{Reply}
use Rattle.deadpool_unmanaged.specs.declared.step.Reply.TheVariants.{Waiting}
use Rattle.deadpool_unmanaged.specs.declared.step.Step.{Step}
use Rattle.deadpool_unmanaged.specs.declared.step.Step.TheVariants.{GetEnter, GetAsk, GetCancel, AddEnter, AddAsk}
use Rattle.deadpool_unmanaged.specs.declared.step.Step.TheVariants.{AddCancel}
use Rattle.deadpool_unmanaged_journal.specs.declared.entry.Entry.{Entry}
use Rattle.deadpool_unmanaged_journal.specs.declared.entry.Entry.TheVariants.{Made}
use Rattle.deadpool_unmanaged_history.specs.declared.line.Line.{Line}
use Rattle.deadpool_unmanaged_history.specs.declared.line.Line.TheVariants.{Next}
use Rattle.deadpool_unmanaged_history.specs.declared.line.Wake.{Wake}
use Rattle.deadpool_unmanaged_history.specs.declared.line.Wake.TheVariants.{Get, Add}

-- the ticket that a step names, of a get or an add
abbrev pub named_by : Step → Option Wake
named_by (GetAsk ticket expired) = Some (Get ticket)
named_by (GetCancel ticket) = Some (Get ticket)
named_by (AddAsk ticket) = Some (Add ticket)
named_by (AddCancel ticket) = Some (Add ticket)
named_by _ = None

-- and the one with which it is answered, if it is told to wait
abbrev pub waits_by : Step → Reply → Option Wake
waits_by (GetEnter wait) (Waiting ticket) = Some (Get ticket)
waits_by (GetAsk ticket expired) (Waiting same) = Some (Get same)
waits_by (AddEnter wait) (Waiting ticket) = Some (Add ticket)
waits_by (AddAsk ticket) (Waiting same) = Some (Add same)
waits_by _ _ = None

module _ {T : Type 0} where
  -- the same of an entry: the owner's steps name none
  abbrev pub entry_names : Entry T → Option Wake
  entry_names (Made step object reply) = named_by step
  entry_names _ = None

  abbrev pub entry_waits : Entry T → Option Wake
  entry_waits (Made step object reply) = waits_by step reply
  entry_waits _ = None

  -- the ticket under which a caller waits after a line of its own
  abbrev pub waits_after : Line T → Option Wake → Option Wake
  waits_after (Next e) waits = entry_waits e
  waits_after _ waits = waits

  abbrev pub waits_from : Option Wake → List (Line T) → Option Wake
  waits_from waits [] = waits
  waits_from waits (line ∷ lines) = waits_from (waits_after line waits) lines

  -- and by all its lines
  abbrev pub waits_in : List (Line T) → Option Wake
  waits_in mine = waits_from None mine

  -- The maker of the step, whose lines these are, waits under the ticket that it names.
  abbrev pub IsOwnEntry : Entry T → List (Line T) → Type 0
  IsOwnEntry e mine = IfSome (entry_names e) (λ wake. waits_in mine ≡ Some wake)

  -- Each names only the ticket under which it waits by its own lines before.
  abbrev pub EachNamesOwn : List (ℕ × Line T) → Type 0
  EachNamesOwn log =
      (before after : List (ℕ × Line T)) (by : ℕ) (e : Entry T) → log ≡ before ++ (by, Next e) ∷ after
      → IsOwnEntry e (calls_by by before)
