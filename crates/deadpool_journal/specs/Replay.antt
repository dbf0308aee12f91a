-- A journal, replayed: its entries as steps of the desk machine, whose objects are numbers.
use Rattle.std.specs.Prelude.{◌≡◌, ◌≢◌, ℕ, ◌-◌, ◌≤◌, List, [], ◌∷◌, length, Ok, Err}
use Rattle.deadpool_desk.specs.DeskState.{DeskState, least_idle, size}
use Rattle.deadpool_desk.specs.DeskSteps.{Does, DoesForOwner}
use Rattle.deadpool_journal.specs.Removals.{remaining, StandIn}
use Rattle.deadpool_journal.specs.Tally.{counted}
use Rattle.deadpool_journal.specs.declared.entry.Entry.{Entry}
use Rattle.deadpool_journal.specs.declared.entry.Entry.TheVariants.{Made, Owner, Retain}
use Rattle.deadpool_journal.specs.declared.tally.Tally.{Tally}

-- the entry is a step of the desk machine, with the reply that it has there
abbrev pub IsStep : DeskState ℕ → Entry → DeskState ℕ → Type 0
IsStep d (Made step object reply) d' = Does d step object reply d'
IsStep d (Owner step reply) d' = DoesForOwner d step reply d'
IsStep d (Retain (Ok removed)) d' =
    StandIn 0 removed d.idle × (length removed ≤ length d.idle - least_idle d.limit d)
    × (d' ≡ record d { idle = remaining 0 removed d.idle })
IsStep d (Retain (Err refused)) d' = (d.idle ≢ []) × (d' ≡ d)

-- the entries are steps of the desk machine, one after the other, from one state to another
abbrev pub Runs : DeskState ℕ → List Entry → DeskState ℕ → Type 0
Runs d [] d' = d' ≡ d
Runs d (e ∷ es) d' = (next : DeskState ℕ) × (IsStep d e next × Runs next es d')

-- The same, and by them one tally becomes another.
abbrev pub RunsCounted : DeskState ℕ → Tally → List Entry → DeskState ℕ → Tally → Type 0
RunsCounted d t [] d' t' = (d' ≡ d) × (t' ≡ t)
RunsCounted d t (e ∷ es) d' t' =
    (next : DeskState ℕ) × (IsStep d e next × RunsCounted next (counted (size d - size next) e t) es d' t')
