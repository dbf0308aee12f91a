-- Who waits under which ticket, in each legal history.
use Rattle.std.specs.Prelude.{◌≡◌, ℕ, Some}
use Rattle.deadpool_chronicle.specs.History.{calls_by}
use Rattle.deadpool_desk.specs.DeskState.{DeskState}
use Rattle.deadpool_turns.specs.Tickets.{AreTicketsKnown}
use Rattle.deadpool_turns.specs.Turns.{IsQueued}
use Rattle.deadpool_history.specs.History.{History, IsLegal, Reaches}
use Rattle.deadpool_history.specs.Holding.{steps_of}
use Rattle.deadpool_history.specs.Own.{waits_in}

-- No ticket that a step names is unknown.
abbrev pub NoTicketIsUnknown : Type 0
NoTicketIsUnknown = (log : History) → IsLegal log → AreTicketsKnown (steps_of log)

-- Who waits under a ticket by its own lines is in the queue under it, where they end.
abbrev pub EachWaitsInTheQueue : Type 0
EachWaitsInTheQueue = (log : History) (last : DeskState ℕ) (who t : ℕ) → IsLegal log → Reaches log last
    → waits_in (calls_by who log) ≡ Some t → IsQueued t last

-- No two wait under one ticket by their own lines.
abbrev pub EachTicketIsOfOne : Type 0
EachTicketIsOfOne = (log : History) (a b t : ℕ) → IsLegal log → waits_in (calls_by a log) ≡ Some t
    → waits_in (calls_by b log) ≡ Some t → a ≡ b
