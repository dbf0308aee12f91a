-- What a step is to those in the queue: how many places are let go of by it, whom it names, and who gives up by it.
use Rattle.std.specs.Prelude.{ℕ, ◌+◌, ◌==◌, ◌&&◌, Bool, false, List, [], ◌∷◌, Option, None}
use Rattle.deadpool_desk.specs.Replies.{named}
use Rattle.deadpool_desk.specs.declared.step.Reply.{Reply}
use Rattle.deadpool_desk.specs.declared.step.Reply.TheVariants.{Exhausted, Kept, Detach, Dropped, Taken, Done}
use Rattle.deadpool_desk.specs.declared.step.Step.{Step}
use Rattle.deadpool_desk.specs.declared.step.Step.TheVariants.{Ask, Again, Failed, Refused, Back, Withdraw}
use Rattle.deadpool_desk.specs.declared.step.Step.TheVariants.{Cancel, Take}
use Rattle.deadpool_journal.specs.declared.entry.Entry.{Entry}
use Rattle.deadpool_journal.specs.declared.entry.Entry.TheVariants.{Made}

-- How many places are let go of by a step. An object comes back, is taken or is refused, a creation fails, a get gives
-- up what it holds, or has a place for which no number is left. A get that leaves the queue with a place that it was
-- granted does not count: its step does not show that.
abbrev pub let_go : Step → Reply → ℕ
let_go Back Kept = 1
let_go Back Detach = 1
let_go Back Dropped = 1
let_go Take (Taken detach) = 1
let_go Failed Done = 1
let_go Refused Done = 1
let_go (Cancel what) Done = 1
let_go (Again allowance) Exhausted = 1
let_go (Ask ticket expired) Exhausted = 1
let_go _ _ = 0

abbrev pub let_go_by : Entry → ℕ
let_go_by (Made step object reply) = let_go step reply
let_go_by _ = 0

abbrev pub let_go_in : List Entry → ℕ
let_go_in [] = 0
let_go_in (e ∷ es) = let_go_by e + let_go_in es

-- the ticket that a step names
abbrev pub named_by : Entry → Option ℕ
named_by (Made step object reply) = named step
named_by _ = None

-- by the step the get with this ticket gives up: it has waited long enough, or withdraws
abbrev pub gives_up : ℕ → Step → Bool
gives_up t (Ask ticket expired) = expired && (ticket == t)
gives_up t (Withdraw ticket) = ticket == t
gives_up t _ = false

abbrev pub gives_up_by : ℕ → Entry → Bool
gives_up_by t (Made step object reply) = gives_up t step
gives_up_by t _ = false
