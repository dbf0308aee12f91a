-- A gate's line as a queue, as a waiter leaves or comes, and as some are granted what they ask for.
use Rattle.std.proofs.Common.{◌≡◌, ℕ, Bool, not, List, [], ◌∷◌, ◌++◌, cond, length, min, take, drop, refl}
use Rattle.std.proofs.Common.{◌∙◌, length-append}
use Rattle.deadpool_gate.specs.Gate.{Waiter, arrived, without_waiter, granted_tickets, waiting_tickets, grant_count}
use Rattle.deadpool_gate.specs.Gate.{IsApart}
use Rattle.deadpool_gate.specs.Queue.{members, joined, without, served}
use Rattle.deadpool_gate.specs.Served.{queue_of}
use Rattle.deadpool_gate.proofs.GateAnswers.{grant_count-length}
use Rattle.deadpool_gate.proofs.GateTickets.{granted_tickets-arrived, waiting_tickets-arrived, length-both_tickets}
use Rattle.deadpool_gate.proofs.GateTickets.{granted_tickets-without_waiter, waiting_tickets-without_waiter}
use Rattle.deadpool_gate.proofs.Queues.{served-settled}

-- the queue when a waiter leaves
pub queue-without : (t : ℕ) (ws : List Waiter) → IsApart ws → queue_of (without_waiter t ws) ≡ without t (queue_of ws)
queue-without t ws apart =
    rw (granted_tickets-without_waiter t ws apart, waiting_tickets-without_waiter t ws apart) refl

-- and when one comes
pub queue-joined : (t : ℕ) (ws : List Waiter) → queue_of (ws ++ arrived t ∷ []) ≡ joined t (queue_of ws)
queue-joined t ws = rw (granted_tickets-arrived t ws, waiting_tickets-arrived t ws) refl

-- it has as many members as the line has waiters
pub queue-length : (ws : List Waiter) → length (members (queue_of ws)) ≡ length ws
queue-length ws = length-append (granted_tickets ws) (waiting_tickets ws) ∙ length-both_tickets ws

-- what is free goes to those that wait
pub queue-served : (c : Bool) (room n : ℕ) (ws after : List Waiter) → n ≡ grant_count c room ws
    → granted_tickets after ≡ granted_tickets ws ++ take n (waiting_tickets ws)
    → waiting_tickets after ≡ drop n (waiting_tickets ws)
    → queue_of after ≡ served (not c) room (queue_of ws)
queue-served c room n ws after count granted waiting =
    let as_many : n ≡ cond (not c) (min (length (waiting_tickets ws)) room) 0 = count ∙ grant_count-length c room ws in
    rw (granted, waiting, as_many) refl

pub empty : (xs : List ℕ) → length xs ≡ 0 → xs ≡ []
empty [] none = refl
empty (x ∷ xs) none = cc

-- with nobody waiting nobody is served
pub queue-quiet : (c : Bool) (room : ℕ) (ws : List Waiter) → length (waiting_tickets ws) ≡ 0
    → queue_of ws ≡ served (not c) room (queue_of ws)
queue-quiet c room ws none =
    served-settled (not c) room (queue_of ws) (λ is_open free. empty (waiting_tickets ws) none)
