-- What a visit to a pool leaves.
use Rattle.std.specs.Prelude.{◌≡◌, ℕ, List, [], ◌∷◌, ◌++◌, Some}
use Rattle.deadpool_chronicle.specs.History.{Knowing}
use Rattle.deadpool_desk.specs.declared.step.Reply.{Reply}
use Rattle.deadpool_desk.specs.declared.step.Step.TheVariants.{Back}
use Rattle.deadpool_history.specs.declared.line.Line.{Line}
use Rattle.deadpool_history.specs.declared.line.Line.TheVariants.{Next}
use Rattle.deadpool_journal.specs.declared.entry.Entry.TheVariants.{Made}

-- a caller whose last call gave the object with this number back
abbrev pub HasReturned : ℕ → Knowing Line → Type 0
HasReturned number c =
    (before : List Line) × ((reply : Reply) × (c.mine ≡ before ++ Next (Made Back (Some number) reply) ∷ []))
