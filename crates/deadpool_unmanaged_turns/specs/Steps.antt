-- What a step is to those in the queues: how many objects come in or leave the pool by it, whom it names, and who gives
-- up by it.
use Rattle.std.specs.Prelude.{ℕ, ◌+◌, ◌==◌, ◌&&◌, Bool, false, List, [], ◌∷◌, Option, Some, None}
use Rattle.deadpool_unmanaged.specs.declared.step.Reply.{Reply}
use Rattle.deadpool_unmanaged.specs.declared.step.Reply.TheVariants.{Stored, Kept, Dropped, Taken}
use Rattle.deadpool_unmanaged.specs.declared.step.Step.{Step}
use Rattle.deadpool_unmanaged.specs.declared.step.Step.TheVariants.{GetAsk, GetCancel, AddEnter, AddAsk, AddCancel}
use Rattle.deadpool_unmanaged.specs.declared.step.Step.TheVariants.{Back, Take}
use Rattle.deadpool_unmanaged_journal.specs.declared.entry.Entry.{Entry}
use Rattle.deadpool_unmanaged_journal.specs.declared.entry.Entry.TheVariants.{Made}

-- how many objects come in for the next get: one that comes back and is kept, or that is added
abbrev pub come : Step → Reply → ℕ
come Back Kept = 1
come (AddEnter wait) Stored = 1
come (AddAsk ticket) Stored = 1
come _ _ = 0

-- how many leave the pool by a step, and so leave their room to the next add: those that are out count alone
abbrev pub gone : Step → Reply → ℕ
gone Back Dropped = 1
gone Take Taken = 1
gone _ _ = 0

-- the ticket of a get, or of an add, that a step names
abbrev pub named_get : Step → Option ℕ
named_get (GetAsk ticket expired) = Some ticket
named_get (GetCancel ticket) = Some ticket
named_get _ = None

abbrev pub named_add : Step → Option ℕ
named_add (AddAsk ticket) = Some ticket
named_add (AddCancel ticket) = Some ticket
named_add _ = None

-- by the step the get, or the add, with this ticket gives up: it has waited long enough, or is cancelled
abbrev pub get_gives_up : ℕ → Step → Bool
get_gives_up t (GetAsk ticket expired) = expired && (ticket == t)
get_gives_up t (GetCancel ticket) = ticket == t
get_gives_up t _ = false

abbrev pub add_gives_up : ℕ → Step → Bool
add_gives_up t (AddCancel ticket) = ticket == t
add_gives_up t _ = false

module _ {O : Type 0} where
  -- the same of an entry: the owner's steps name nobody
  abbrev pub come_by : Entry O → ℕ
  come_by (Made step object reply) = come step reply
  come_by _ = 0

  abbrev pub gone_by : Entry O → ℕ
  gone_by (Made step object reply) = gone step reply
  gone_by _ = 0

  abbrev pub get_named_by : Entry O → Option ℕ
  get_named_by (Made step object reply) = named_get step
  get_named_by _ = None

  abbrev pub add_named_by : Entry O → Option ℕ
  add_named_by (Made step object reply) = named_add step
  add_named_by _ = None

  abbrev pub get_gives_up_by : ℕ → Entry O → Bool
  get_gives_up_by t (Made step object reply) = get_gives_up t step
  get_gives_up_by t _ = false

  abbrev pub add_gives_up_by : ℕ → Entry O → Bool
  add_gives_up_by t (Made step object reply) = add_gives_up t step
  add_gives_up_by t _ = false

  -- and of several
  abbrev pub come_in : List (Entry O) → ℕ
  come_in [] = 0
  come_in (e ∷ es) = come_by e + come_in es

  abbrev pub gone_in : List (Entry O) → ℕ
  gone_in [] = 0
  gone_in (e ∷ es) = gone_by e + gone_in es
