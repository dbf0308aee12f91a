-- The one that is named is the earliest who is due and was not told, and counts as told then.
use Rattle.std.proofs.Common.{◌≡◌, ◌≢◌, ℕ, Option, Some, None, not, false, refl, ap, sym, ◌∙◌}
use Rattle.std.specs.List.{find}
use Rattle.std.specs.Option.{option_map}
use Rattle.std.proofs.lemmas.Bool.{both_ways}
use Rattle.deadpool_gate.specs.declared.gate.Gate.TheInside.{Inside}
use Rattle.deadpool_gate.specs.declared.gate.store.Change.TheVariants as change
use Rattle.deadpool_gate.specs.Gate.{Waiter, Line, tell_next, due_ticket, is_due, with_word, granted_tickets}
use Rattle.deadpool_gate.specs.Gate.{unnotified_tickets}
use Rattle.deadpool_gate.specs.Waking.{next_due, still_unnotified}
use Rattle.deadpool_gate.specs.GateFields.{line_of, waiters_of, GateInvariant}
use Rattle.deadpool_gate.specs.GateNodes.{changed}
use Rattle.deadpool_gate.proofs.GateFields.{GateInvariant-shows, Shows-is, Shows-seen}
use Rattle.deadpool_gate.proofs.GateTurns.{Changing, Telling, TellsNext, Shows-told, Shows-all_told, Shows-none_due}
use Rattle.deadpool_gate.proofs.GateTurns.{Shows-first_unnotified}
use Rattle.deadpool_gate.proofs.GateListed.{change_first_none}
use Rattle.deadpool_gate.proofs.GateTickets.{granted_tickets-told, waiting_tickets-told}
use Rattle.deadpool_gate.proofs.GateWaking.{due_ticket-next_due, unnotified_tickets-tell_next}
use Rattle.deadpool_gate.proofs.Pointers.{points_there, points_elsewhere}
use Rattle.deadpool_gate.proofs.gate.Gate.take_wake.Goals as goal
use Rattle.deadpool_gate.proofs.gate.Gate.take_wake.Goals.{else-not-self-via-then-not-self+else-eq}
use Rattle.deadpool_gate.proofs.gate.Gate.take_wake.Goals.{else-not-self-via-else-not-self}

-- a call at these fields, seen as this line, if nobody is due
module _ (g : Inside) (line : Line) (seen : line_of g ≡ line)
    (none : find (is_due g.is_closed) line.waiters ≡ None) where
  nobody : find (is_due line.is_closed) line.waiters ≡ None
  nobody = let same : g.is_closed ≡ line.is_closed = ap (λ (l : Line). l.is_closed) seen in rw same at none

  no_ticket : None ≡ due_ticket line.is_closed line.waiters
  no_ticket = sym (ap (option_map (λ (w : Waiter). w.ticket)) nobody)

  same_waiters : waiters_of g ≡ tell_next line.is_closed line.waiters
  same_waiters = ap (λ (l : Line). l.waiters) seen
      ∙ sym (change_first_none (is_due line.is_closed) with_word line.waiters nobody)

-- who is named is so by the tickets alone
by_tickets : (g : Inside) (line : Line) (named : Option ℕ) → line_of g ≡ line → GateInvariant g
    → named ≡ due_ticket line.is_closed line.waiters
    → named ≡ next_due (not line.is_closed) (granted_tickets line.waiters) (unnotified_tickets line.waiters)
by_tickets g line named seen held is =
    is ∙ due_ticket-next_due line.is_closed line.waiters (Shows-seen g line seen held).line.apart

pub returns-in_err-key-clause-ticket : goal.returns-in_err-key-clause-ticket
returns-in_err-key-clause-ticket c =
    let none = Shows-all_told c.self.inside c.args.self.now.waiters
    (Shows-seen _ _ c.self.view_is c.self.invariant) c.in_err-key.was in
    c.from_residual.ensures ∙ no_ticket c.self.inside c.args.self.now c.self.view_is none

pub returns-in_err-key-clause-waiters : goal.returns-in_err-key-clause-waiters
returns-in_err-key-clause-waiters c =
    let none = Shows-all_told c.self.inside c.args.self.now.waiters
    (Shows-seen _ _ c.self.view_is c.self.invariant) c.in_err-key.was in
    same_waiters c.self.inside c.args.self.now c.self.view_is none

pub returns-then-eq-clause-ticket : goal.returns-then-eq-clause-ticket
returns-then-eq-clause-ticket c =
    let none = Shows-none_due c.self.inside c.args.self.now.waiters c.in_ok-key.key
    (Shows-seen _ _ c.self.view_is c.self.invariant) c.if-not-self.true c.in_ok-key.was
    (points_there _ _ (sym c.if-eq.ensures)) in
    no_ticket c.self.inside c.args.self.now c.self.view_is none

pub returns-then-eq-clause-waiters : goal.returns-then-eq-clause-waiters
returns-then-eq-clause-waiters c =
    let none = Shows-none_due c.self.inside c.args.self.now.waiters c.in_ok-key.key
    (Shows-seen _ _ c.self.view_is c.self.invariant) c.if-not-self.true c.in_ok-key.was
    (points_there _ _ (sym c.if-eq.ensures)) in
    same_waiters c.self.inside c.args.self.now c.self.view_is none

has_node : (c : goal.After-from_residual-in_err-node) → ⊥
has_node c =
    Shows-first_unnotified c.self.inside c.args.self.now.waiters c.in_ok-key.key
    (Shows-seen _ _ c.self.view_is c.self.invariant) c.in_ok-key.was (sym c.in_err-node.ensures.node)

pub returns-in_err-node-clause-ticket : goal.returns-in_err-node-clause-ticket
returns-in_err-node-clause-ticket c = absurd (has_node c)

pub returns-in_err-node-clause-waiters : goal.returns-in_err-node-clause-waiters
returns-in_err-node-clause-waiters c = absurd (has_node c)

-- the fields with the waiter told
abbrev after : goal.After-self-2-1 → Inside
after c = record c.self.inside {
  store = c.write.new.self;
  accesses_before = c.accesses-self-inside.result;
  first_unnotified = c.in_ok-node.node.next;
}

tells : (c : goal.After-self-2-1) → TellsNext c.self.inside (after c) c.args.self.now.waiters c.in_ok-key.key
tells c =
    let same : c.read.new.self.nodes ≡ c.self.inside.store.nodes = c.read.ensures.nodes in
    let changing : Changing c.self.inside (after c) (changed change.Told) c.in_ok-key.key = record {
      updates = rw same at c.write.ensures.updates;
      same = rw same at c.write.ensures.len;
      is_closed = refl;
      first = refl;
      last = refl;
    } in
    let telling : Telling c.self.inside (after c) c.in_ok-node.node.next =
    record { first_waiting = refl; first_unnotified = refl; granted = refl; waiting = refl } in
    let differs : c.self.inside.is_closed ≡ false → c.self.inside.first_waiting ≢ Some c.in_ok-key.key =
    λ is_open. elim c.else-not-self.branch [
      | else-not-self-via-then-not-self+else-eq w ↦ points_elsewhere _ _ (sym w.if-eq.ensures)
      | else-not-self-via-else-not-self w ↦ absurd (both_ways _ is_open w.if-not-self.false)
    ] in
    Shows-told c.self.inside (after c) c.args.self.now.waiters c.in_ok-key.key c.in_ok-node.node c.in_ok-key.was differs
    c.in_ok-node.ensures.node changing telling (Shows-seen _ _ c.self.view_is c.self.invariant)

pub invariant_of-self-2 : goal.invariant_of-self-2
invariant_of-self-2 c = GateInvariant-shows (after c) _ (tells c).shows

pub returns-clause-ticket : goal.returns-clause-ticket
returns-clause-ticket c =
    let closed : c.self.inside.is_closed ≡ c.args.self.now.is_closed = ap (λ (l : Line). l.is_closed) c.self.view_is in
    sym (rw closed at (tells c).ticket)

pub returns-clause-waiters : goal.returns-clause-waiters
returns-clause-waiters c =
    let closed : c.self.inside.is_closed ≡ c.args.self.now.is_closed = ap (λ (l : Line). l.is_closed) c.self.view_is in
    rw (← closed) (Shows-is (after c) _ (tells c).shows)

pub returns-clause-granted : goal.returns-clause-granted
returns-clause-granted c =
    rw (Shows-is (after c) _ (tells c).shows)
    (granted_tickets-told (is_due c.self.inside.is_closed) c.args.self.now.waiters)

pub returns-clause-waiting : goal.returns-clause-waiting
returns-clause-waiting c =
    rw (Shows-is (after c) _ (tells c).shows)
    (waiting_tickets-told (is_due c.self.inside.is_closed) c.args.self.now.waiters)

pub returns-in_err-key-clause-next : goal.returns-in_err-key-clause-next
returns-in_err-key-clause-next c =
    by_tickets c.self.inside c.args.self.now _ c.self.view_is c.self.invariant (returns-in_err-key-clause-ticket c)

pub returns-then-eq-clause-next : goal.returns-then-eq-clause-next
returns-then-eq-clause-next c =
    by_tickets c.self.inside c.args.self.now None c.self.view_is c.self.invariant (returns-then-eq-clause-ticket c)

pub returns-in_err-node-clause-next : goal.returns-in_err-node-clause-next
returns-in_err-node-clause-next c = absurd (has_node c)

pub returns-clause-next : goal.returns-clause-next
returns-clause-next c = by_tickets c.self.inside c.args.self.now (Some c.in_ok-key.key) c.self.view_is c.self.invariant
    (returns-clause-ticket c)

pub returns-clause-unnotified : goal.returns-clause-unnotified
returns-clause-unnotified c =
    let shows = Shows-seen _ _ c.self.view_is c.self.invariant in
    let ws = c.args.self.now.waiters in
    rw (Shows-is (after c) _ (tells c).shows) (
    unnotified_tickets-tell_next c.self.inside.is_closed ws shows.line.apart
    ∙ ap (λ (named : Option ℕ). still_unnotified named (unnotified_tickets ws)) (tells c).ticket
    )
