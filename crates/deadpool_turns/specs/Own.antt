-- What each has by its own steps, in a run in which each gives away only what it has.
use Rattle.std.specs.Prelude.{◌≡◌, ℕ, ◌==◌, true, List, [], ◌∷◌, ◌++◌, Option, Some, None, if◌then◌else◌}
use Rattle.deadpool_desk.specs.declared.step.Reply.{Reply}
use Rattle.deadpool_desk.specs.declared.step.Step.{Step}
use Rattle.deadpool_journal.specs.declared.entry.Entry.{Entry}
use Rattle.deadpool_journal.specs.declared.entry.Entry.TheVariants.{Made}
use Rattle.deadpool_turns.specs.Holders.{HandsOn, IsOwn, Out, has_after, holds, passing_by}

-- What a holder has after these steps by those of them that it made, by what it had before.
abbrev pub has_by : ℕ → Option ℕ → List (ℕ × Entry) → Option ℕ
has_by holder has [] = has
has_by holder has ((maker, e) ∷ log) =
    has_by holder (if maker == holder then has_after (passing_by e) has else has) log

-- What a holder has by its own steps it holds, where each gives away only what it has.
abbrev pub EachHoldsItsOwn : Type 0
EachHoldsItsOwn = (holder n : ℕ) (log : List (ℕ × Entry)) (out : Out) → HandsOn [] log out
    → has_by holder None log ≡ Some n → holds holder n out ≡ true

-- Each step may be made by a holder of whose own it is, whatever the reply.
abbrev pub EachHandsItsOwn : Type 0
EachHandsItsOwn = (holder : ℕ) (log : List (ℕ × Entry)) (out : Out) (step : Step) (object : Option ℕ) (reply : Reply)
    → HandsOn [] log out → IsOwn step object (has_by holder None log)
    → (after : Out) × HandsOn [] (log ++ (holder, Made step object reply) ∷ []) after
