-- Who waits under which ticket, by the steps that each made: under the one with which its last step was answered.
use Rattle.std.specs.Prelude.{◌≡◌, ⊤, ℕ, ◌==◌, List, [], ◌∷◌, map, Option, Some, None, if◌then◌else◌}
use Rattle.deadpool_parts.specs.declared.config.QueueMode.{QueueMode}
use Rattle.deadpool_desk.specs.DeskState.{DeskState, bounded, new_core}
use Rattle.deadpool_desk.specs.declared.step.Reply.{Reply}
use Rattle.deadpool_desk.specs.declared.step.Reply.TheVariants.{Unknown, Waiting}
use Rattle.deadpool_desk.specs.declared.step.Step.TheVariants.{Ask, Withdraw}
use Rattle.deadpool_journal.specs.Replay.{Runs}
use Rattle.deadpool_journal.specs.declared.entry.Entry.{Entry}
use Rattle.deadpool_journal.specs.declared.entry.Entry.TheVariants.{Made}
use Rattle.deadpool_turns.specs.Steps.{named_by}
use Rattle.deadpool_turns.specs.Turns.{IsQueued}

-- the ticket of each, by its number
abbrev pub Tickets : Type 0
Tickets = ℕ → Option ℕ

abbrev pub nobody_waits : Tickets
nobody_waits who = None

-- the ticket with which a step is answered
abbrev pub told : Reply → Option ℕ
told (Waiting ticket) = Some ticket
told _ = None

abbrev pub told_by : Entry → Option ℕ
told_by (Made step object reply) = told reply
told_by _ = None

abbrev pub tickets_after : ℕ → Entry → Tickets → Tickets
tickets_after maker e has who = if maker == who then told_by e else has who

-- and after steps, each beside its maker
abbrev pub tickets_from : Tickets → List (ℕ × Entry) → Tickets
tickets_from has [] = has
tickets_from has ((maker, e) ∷ log) = tickets_from (tickets_after maker e has) log

-- a step names no ticket, or this one
abbrev pub IsNamed : Option ℕ → Option ℕ → Type 0
IsNamed None has = ⊤
IsNamed (Some ticket) has = has ≡ Some ticket

-- By each step its maker names only the ticket under which it waits.
abbrev pub NameOwn : Tickets → List (ℕ × Entry) → Type 0
NameOwn has [] = ⊤
NameOwn has ((maker, e) ∷ log) = IsNamed (named_by e) (has maker) × NameOwn (tickets_after maker e has) log

-- no get that names a ticket is answered that nobody has it
abbrev pub IsTicketKnown : Entry → Type 0
IsTicketKnown (Made (Ask ticket expired) object Unknown) = ⊥
IsTicketKnown (Made (Withdraw ticket) object Unknown) = ⊥
IsTicketKnown _ = ⊤

abbrev pub AreTicketsKnown : List (ℕ × Entry) → Type 0
AreTicketsKnown [] = ⊤
AreTicketsKnown ((maker, e) ∷ log) = IsTicketKnown e × AreTicketsKnown log

-- each ticket that somebody has is in the queue, and nobody else has it
pub record IsTicketed (has : Tickets) (d : DeskState ℕ) : Type 0 where
  pub queued : (who t : ℕ) → has who ≡ Some t → IsQueued t d
  pub one : (a b t : ℕ) → has a ≡ Some t → has b ≡ Some t → a ≡ b

-- In a run from the opening of a pool in which each names only its own ticket, each that waits is in the queue.
abbrev pub EachWaitsInTheQueue : Type 0
EachWaitsInTheQueue = (limit min_idle : ℕ) (mode : QueueMode) (most : Option ℕ) (log : List (ℕ × Entry))
    (d : DeskState ℕ) → Runs (bounded most (new_core limit mode 0 min_idle)) (map (λ (x : ℕ × Entry). x.1) log) d
    → NameOwn nobody_waits log → IsTicketed (tickets_from nobody_waits log) d

-- And no ticket is unknown.
abbrev pub EachTicketIsKnown : Type 0
EachTicketIsKnown = (limit min_idle : ℕ) (mode : QueueMode) (most : Option ℕ) (log : List (ℕ × Entry))
    (d : DeskState ℕ) → Runs (bounded most (new_core limit mode 0 min_idle)) (map (λ (x : ℕ × Entry). x.1) log) d
    → NameOwn nobody_waits log → AreTicketsKnown log
