-- The three counts of a pool, and what one holder has of them.
use Rattle.std.specs.Prelude.{◌≡◌, ℕ, ◌+◌, ◌-◌, ◌≤◌, ⊤, [], Option, Some, None, IsSome}
use Rattle.deadpool_chronicle.specs.History.{Knowing}
use Rattle.deadpool_history.specs.Own.{held_in, waits_in}
use Rattle.deadpool_history.specs.declared.line.Line.{Line}
use Rattle.deadpool_journal.specs.Journaling.{Journaling}
use Rattle.deadpool_desk.specs.declared.step.Held.{Held}
use Rattle.deadpool_desk.specs.declared.step.Held.TheVariants as held
use Rattle.deadpool_desk.specs.declared.step.Reply.{Reply}
use Rattle.deadpool_desk.specs.declared.step.Reply.TheVariants.{Unknown}

-- places of gets that hold nothing else, of creations under way, and of objects that are not idle
pub record Counts : Type 0 where
  pub going : ℕ
  pub creations : ℕ
  pub outside : ℕ

abbrev pub counts : ℕ → ℕ → ℕ → Counts
counts going creations outside = record { going = going; creations = creations; outside = outside }

-- what all holders have together, and how many more holders there may be
pub record BooksState : Type 0 where
  pub totals : Counts
  pub left : ℕ

-- what a holder has
abbrev pub counts_of : Option Held → Counts
counts_of None = counts 0 0 0
counts_of (Some held.Place) = counts 1 0 0
counts_of (Some held.Creation) = counts 0 1 0
counts_of (Some held.Object) = counts 0 0 1

-- a holder of shares: what it has, and what it knows of the history as a caller
pub record Holder : Type 0 where
  pub has : Counts
  pub caller : Knowing Line

-- what a holder has that maybe was handed out no shares yet
abbrev pub had : Option Holder → Counts
had (Some h) = h.has
had None = counts 0 0 0

-- its caller, if it was handed out shares
abbrev pub caller_of : Option Holder → Option (Knowing Line)
caller_of (Some h) = Some h.caller
caller_of None = None

-- the object that its caller has by its own lines
abbrev pub held_by : Option Holder → Option ℕ
held_by (Some h) = held_in h.caller.mine
held_by None = None

-- and the ticket under which it waits by them
abbrev pub waits_by : Option Holder → Option ℕ
waits_by (Some h) = waits_in h.caller.mine
waits_by None = None

-- who has an object has one by its lines
abbrev pub HasObject : Option Held → Option ℕ → Type 0
HasObject (Some held.Object) has = IsSome has
HasObject _ has = ⊤

-- a holder has this
abbrev pub IsHeldBy : Option Holder → Option Held → Type 0
IsHeldBy holder what = (had holder ≡ counts_of what) × HasObject what (held_by holder)

-- a caller that has made no step and has let nobody in yet
abbrev pub IsNewCaller : Knowing Line → Type 0
IsNewCaller c = (c.mine ≡ []) × (c.admitted ≡ 0)

-- a holder that has made no step yet and has nothing
abbrev pub IsNewHolder : Holder → Type 0
IsNewHolder h = (h.has ≡ counts_of None) × IsNewCaller h.caller

-- the counts of all holders after one of them has something else
abbrev pub shifted : Option Held → Option Held → Counts → Counts
shifted old new c =
    counts (c.going - (counts_of old).going + (counts_of new).going)
    (c.creations - (counts_of old).creations + (counts_of new).creations)
    (c.outside - (counts_of old).outside + (counts_of new).outside)

-- the counts of a pool
abbrev pub counted : {T : Type 0} → Journaling T → Counts
counted j = counts j.core.desk.going j.core.desk.creations j.core.desk.outside

-- the pool knew what the holder has, and its ticket
abbrev pub IsKnown : Reply → Type 0
IsKnown Unknown = ⊥
IsKnown _ = ⊤

-- what a holder has is in the counts of all
abbrev pub AreIn : Counts → Counts → Type 0
AreIn has all = (has.going ≤ all.going) × (has.creations ≤ all.creations) × (has.outside ≤ all.outside)
