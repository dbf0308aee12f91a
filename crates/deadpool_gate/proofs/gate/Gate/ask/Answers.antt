-- A gate that knows no such ticket stays as it is.
use Rattle.std.proofs.Common.{◌≡◌, ℕ, List, None, ap, ◌∙◌}
use Rattle.std.specs.Option.{option_map}
use Rattle.deadpool_gate.specs.Gate.{Waiter, Line, find_waiter, without_waiter}
use Rattle.deadpool_gate.specs.GateFields.{waiters_of}
use Rattle.deadpool_gate.proofs.GateAsked.{without_waiter_unlisted}
use Rattle.deadpool_gate.proofs.gate.Gate.ask.Goals as goal

pub returns-in-None-clause-waiters : goal.returns-in-None-clause-waiters
returns-in-None-clause-waiters c =
    let seen : waiters_of c.self.inside ≡ c.args.self.now.waiters = ap (λ (l : Line). l.waiters) c.self.view_is in
    let same : c.ticket.inside.number ≡ c.args.ticket = c.ticket.view_is in
    let none : None ≡ option_map (λ (w : Waiter). w.granted) (find_waiter c.args.ticket c.args.self.now.waiters) =
    c.in-None.ensures.was
    ∙ ap (λ (ws : List Waiter). option_map (λ (w : Waiter). w.granted) (find_waiter c.ticket.inside.number ws)) seen
    ∙ ap (λ (key : ℕ). option_map (λ (w : Waiter). w.granted) (find_waiter key c.args.self.now.waiters)) same in
    c.in-None.ensures.waiters
    ∙ ap (λ (ws : List Waiter). without_waiter c.ticket.inside.number ws) seen
    ∙ ap (λ (key : ℕ). without_waiter key c.args.self.now.waiters) same
    ∙ without_waiter_unlisted c.args.self.now.is_closed c.args.ticket c.args.self.now.waiters none
