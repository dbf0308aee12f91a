-- How nodes that name each other by key are a line of waiters.
use Rattle.std.specs.Prelude.{◌≡◌, ℕ, zero, suc, Bool, not, ◌==◌, List, [], ◌∷◌, length, Option, Some, None}
use Rattle.std.specs.Prelude.{if◌then◌else◌}
use Rattle.std.specs.List.{find}
use Rattle.std.specs.Option.{option_map, option_map_or}
use Rattle.slab.specs.Slab.{Slab, get, slab_len, Updates, SameValues}
use Rattle.deadpool_gate.specs.Gate.{Waiter, find_waiter}
use Rattle.deadpool_gate.specs.declared.gate.store.Node.{Node}

-- the waiter that a node stands for: its key is the ticket
abbrev pub waiter_at : ℕ → Node → Waiter
waiter_at key node = record { ticket = key; granted = node.granted; told = node.told }

-- the node that stands for a waiter between two keys
abbrev pub node_between : Option ℕ → Option ℕ → Waiter → Node
node_between before behind w = record { previous = before; next = behind; granted = w.granted; told = w.told }

-- the waiters from a key on, each one the next of the one before it; no more than so many
abbrev pub follow : ℕ → Slab Node → Option ℕ → List Waiter
follow zero nodes from = []
follow (suc n) nodes None = []
follow (suc n) nodes (Some key) =
    option_map_or (λ node. waiter_at key node ∷ follow n nodes node.next) (get nodes key) []

-- the ticket of the first waiter; of nobody, the key behind
abbrev pub first_ticket : List Waiter → Option ℕ → Option ℕ
first_ticket [] behind = behind
first_ticket (w ∷ ws) behind = Some w.ticket

-- the ticket of the last waiter; of nobody, the key before
abbrev pub last_ticket : List Waiter → Option ℕ → Option ℕ
last_ticket [] before = before
last_ticket (w ∷ ws) before = last_ticket ws (Some w.ticket)

-- the ticket of the earliest waiter that fails a test
abbrev pub first_failing : (Waiter → Bool) → List Waiter → Option ℕ
first_failing test ws = option_map (λ w. w.ticket) (find (λ w. not (test w)) ws)

-- each of these waiters has a node under its ticket, which names its neighbours; before and behind them stand these
-- keys
abbrev pub AreLinked : Slab Node → Option ℕ → List Waiter → Option ℕ → Type 0
AreLinked nodes before [] behind = Unit {0}
AreLinked nodes before (w ∷ ws) behind =
    (get nodes w.ticket ≡ Some (node_between before (first_ticket ws behind) w))
    × AreLinked nodes (Some w.ticket) ws behind

-- these waiters have their nodes, and there are no others
pub record Stores (nodes : Slab Node) (ws : List Waiter) : Type 0 where
  pub linked : AreLinked nodes None ws None
  pub others : (key : ℕ) → find_waiter key ws ≡ None → get nodes key ≡ None
  pub counted : slab_len nodes ≡ length ws

-- where a pointer points once the node under a key has gone: one that pointed there points on
abbrev pub moved_on : Option ℕ → ℕ → Option ℕ → Option ℕ
moved_on None key behind = None
moved_on (Some at) key behind = if at == key then behind else Some at

-- the node under a key is changed; nothing is, if there is no key
abbrev pub ChangesAt : Option ℕ → (Node → Node) → Slab Node → Slab Node → Type 0
ChangesAt None change old new = SameValues old new
ChangesAt (Some key) change old new = Updates old new key (option_map change (get old key))
