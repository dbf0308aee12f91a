-- A queue for what there is so much of in all: how much of it is free, and what is so once all that is free is granted.
use Rattle.std.specs.Prelude.{◌≡◌, ℕ, ◌-◌, ◌<◌, Bool, true, List, [], length}
use Rattle.deadpool_gate.specs.Gate.{Waiter, granted_tickets, waiting_tickets}
use Rattle.deadpool_gate.specs.Orders.{IsOnce}
use Rattle.deadpool_gate.specs.Queue.{Queue, members}

-- the line of a gate as a queue of tickets
abbrev pub queue_of : List Waiter → Queue
queue_of ws = record { granted = granted_tickets ws; waiting = waiting_tickets ws }

-- how much is free: what others do not hold, and nobody in the queue was granted
abbrev pub free_of : ℕ → ℕ → Queue → ℕ
free_of total held q = total - held - length q.granted

-- in an open pool nobody waits while some is free
abbrev pub NobodyWaits : Bool → ℕ → Queue → Type 0
NobodyWaits is_open free q = is_open ≡ true → 0 < free → q.waiting ≡ []

-- a queue in which all that is free is granted, and no number stands twice
pub record IsServed (is_open : Bool) (free : ℕ) (q : Queue) : Type 0 where
  pub nobody_waits : NobodyWaits is_open free q
  pub once : IsOnce (members q)
