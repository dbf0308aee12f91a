-- Somebody is due to be told exactly if `take_wake` would name somebody.
use Rattle.std.proofs.Common.{◌≡◌, ℕ, Bool, Option, Some, None, not, false, eqb, ap, sym, ◌∙◌, inl, inr}
use Rattle.std.specs.Prelude.{is_some}
use Rattle.std.specs.List.{find}
use Rattle.std.specs.Option.{option_map, option_eq}
use Rattle.std.proofs.lemmas.Bool.{cases_Bool, both_ways}
use Rattle.deadpool_gate.specs.Gate.{Waiter, Line, due_ticket, is_due, granted_tickets, unnotified_tickets}
use Rattle.deadpool_gate.specs.Waking.{next_due}
use Rattle.deadpool_gate.specs.GateFields.{line_of, GateInvariant}
use Rattle.deadpool_gate.specs.declared.gate.Gate.TheInside.{Inside}
use Rattle.deadpool_gate.proofs.GateFields.{Shows-seen}
use Rattle.deadpool_gate.proofs.GateTurns.{Shows-all_told, Shows-none_due, Shows-due}
use Rattle.deadpool_gate.proofs.GateWaking.{due_ticket-next_due}
use Rattle.deadpool_gate.proofs.Pointers.{points_there, points_elsewhere}
use Rattle.deadpool_gate.proofs.gate.Gate.is_wake_due.Goals as goal

-- who is due is so by the tickets alone
by_tickets : (g : Inside) (line : Line) (said : Bool) → line_of g ≡ line → GateInvariant g
    → said ≡ is_some (due_ticket line.is_closed line.waiters)
    → said ≡ is_some (next_due (not line.is_closed) (granted_tickets line.waiters) (unnotified_tickets line.waiters))
by_tickets g line said seen held due =
    due ∙ ap is_some (due_ticket-next_due line.is_closed line.waiters (Shows-seen g line seen held).line.apart)

-- who is due by the fields is due in the line that they show
seen_due : (g : Inside) (line : Line) (o : Option ℕ) → line_of g ≡ line → due_ticket g.is_closed line.waiters ≡ o
    → is_some o ≡ is_some (due_ticket line.is_closed line.waiters)
seen_due g line o seen due =
    let same : g.is_closed ≡ line.is_closed = ap (λ (l : Line). l.is_closed) seen in
    ap is_some (sym (rw same at due))

none_due : (g : Inside) (line : Line) → line_of g ≡ line → find (is_due g.is_closed) line.waiters ≡ None
    → false ≡ is_some (due_ticket line.is_closed line.waiters)
none_due g line seen none = seen_due g line None seen (ap (option_map (λ (w : Waiter). w.ticket)) none)

pub returns-in_default-clause-due : goal.returns-in_default-clause-due
returns-in_default-clause-due c =
    none_due c.self.inside c.args.self.now c.self.view_is
    (Shows-all_told c.self.inside c.args.self.now.waiters
    (Shows-seen _ _ c.self.view_is c.self.invariant) c.in_default.is)

pub returns-then-self-clause-due : goal.returns-then-self-clause-due
returns-then-self-clause-due c =
    let due = Shows-due c.self.inside c.args.self.now.waiters c.in-Some.key c.in-Some.is
    (λ is_open. absurd (both_ways _ is_open c.if-self.true)) (Shows-seen _ _ c.self.view_is c.self.invariant) in
    c.if-self.true ∙ seen_due c.self.inside c.args.self.now (Some c.in-Some.key) c.self.view_is due

pub returns-else-self-clause-due : goal.returns-else-self-clause-due
returns-else-self-clause-due c =
    let shows = Shows-seen _ _ c.self.view_is c.self.invariant in
    let key = c.in-Some.key in
    let said : c.ne.result ≡ not (option_eq eqb c.self.inside.first_waiting (Some key)) = c.ne.ensures in
    elim (cases_Bool (option_eq eqb c.self.inside.first_waiting (Some key))) [
      | inl there ↦
          let none = Shows-none_due c.self.inside c.args.self.now.waiters key shows c.if-self.false c.in-Some.is
          (points_there _ _ there) in
          (said ∙ ap not there) ∙ none_due c.self.inside c.args.self.now c.self.view_is none
      | inr elsewhere ↦
          let due = Shows-due c.self.inside c.args.self.now.waiters key c.in-Some.is
          (λ _. points_elsewhere _ _ elsewhere) shows in
          (said ∙ ap not elsewhere) ∙ seen_due c.self.inside c.args.self.now (Some key) c.self.view_is due
    ]

pub returns-in_default-clause-next : goal.returns-in_default-clause-next
returns-in_default-clause-next c =
    by_tickets c.self.inside c.args.self.now _ c.self.view_is c.self.invariant (returns-in_default-clause-due c)

pub returns-then-self-clause-next : goal.returns-then-self-clause-next
returns-then-self-clause-next c =
    by_tickets c.self.inside c.args.self.now _ c.self.view_is c.self.invariant (returns-then-self-clause-due c)

pub returns-else-self-clause-next : goal.returns-else-self-clause-next
returns-else-self-clause-next c =
    by_tickets c.self.inside c.args.self.now _ c.self.view_is c.self.invariant (returns-else-self-clause-due c)
