-- Who has which object, in each legal history.
use Rattle.std.specs.Prelude.{◌≡◌, ℕ, List, [], ◌∷◌, Some, true}
use Rattle.deadpool_chronicle.specs.History.{calls_by}
use Rattle.deadpool_desk.specs.DeskState.{DeskState}
use Rattle.deadpool_journal.specs.declared.entry.Entry.{Entry}
use Rattle.deadpool_turns.specs.Holders.{HandsOn, IsNumberedOnce, Out, holds, times}
use Rattle.deadpool_history.specs.History.{History, IsLegal, Reaches}
use Rattle.deadpool_history.specs.Own.{held_in}
use Rattle.deadpool_history.specs.declared.line.Line.TheVariants.{Next}

-- the steps, each beside its maker
abbrev pub steps_of : History → List (ℕ × Entry)
steps_of [] = []
steps_of ((by, Next e) ∷ lines) = (by, e) ∷ steps_of lines
steps_of ((by, _) ∷ lines) = steps_of lines

-- By its steps each gives away only what it holds, and each holds what it has by its own lines. Where they end, no
-- number stands twice among the objects that are idle or held.
abbrev pub EachHandsItsOwnOn : Type 0
EachHandsItsOwnOn = (log : History) (last : DeskState ℕ) → IsLegal log → Reaches log last
    → (out : Out) × (HandsOn [] (steps_of log) out
    × ((who n : ℕ) → held_in (calls_by who log) ≡ Some n → holds who n out ≡ true)
    × IsNumberedOnce last out)

-- No two have one object by their own lines.
abbrev pub EachObjectIsOfOne : Type 0
EachObjectIsOfOne = (log : History) (a b n : ℕ) → IsLegal log → held_in (calls_by a log) ≡ Some n
    → held_in (calls_by b log) ≡ Some n → a ≡ b

-- None that somebody has is idle.
abbrev pub NoneIsIdle : Type 0
NoneIsIdle = (log : History) (last : DeskState ℕ) (who n : ℕ) → IsLegal log → Reaches log last
    → held_in (calls_by who log) ≡ Some n → times n last.idle ≡ 0
