-- A waiter that is taken out leaves the line, the links around it are joined, and the counts follow.
use Rattle.std.proofs.Common.{◌≡◌, ◌-◌, ℕ, Bool, true, false, not, refl, ap, sym, arith}
use Rattle.deadpool_gate.specs.declared.gate.Gate.TheInside.{Inside}
use Rattle.deadpool_gate.specs.Gate.{without_waiter}
use Rattle.deadpool_gate.specs.GateFields.{Shows}
use Rattle.deadpool_gate.proofs.Counts.{one_if}
use Rattle.deadpool_gate.proofs.GateFields.{TrialInvariant, KeepsLinks, Leaving}
use Rattle.deadpool_gate.proofs.GateFields.{GateInvariant-shows, Shows-counted, Shows-find}
use Rattle.deadpool_gate.proofs.GateFields.{Shows-is, Shows-kept, Shows-left, Shows-seen}
use Rattle.deadpool_gate.proofs.GateLinks.{Stores-unlisted}
use Rattle.deadpool_gate.proofs.GateListed.{remove_first_none}
use Rattle.deadpool_gate.proofs.gate.Gate.remove.Goals as goal

pub returns-in_err-node-clause-was : goal.returns-in_err-node-clause-was
returns-in_err-node-clause-was c =
    let found = Shows-find c.self.inside c.args.self.now.waiters c.args.key
    (Shows-seen _ _ c.self.view_is c.self.invariant) in
    rw (found, ← c.in_err-node.ensures.node) c.from_residual.ensures

pub returns-in_err-node-clause-waiters : goal.returns-in_err-node-clause-waiters
returns-in_err-node-clause-waiters c =
    let shows = Shows-seen _ _ c.self.view_is c.self.invariant in
    let unlisted = Stores-unlisted c.self.inside.store.nodes c.args.self.now.waiters c.args.key shows.stores
    (sym c.in_err-node.ensures.node) in
    let after = record c.self.inside { store = c.take.new.self } in
    let keeps : KeepsLinks c.self.inside after = record {
      slots = ap (λ n. n.slots) c.in_err-node.ensures.none;
      first = refl;
      last = refl;
      first_waiting = refl;
      first_unnotified = refl;
      granted = refl;
      waiting = refl;
    } in
    rw (remove_first_none _ c.args.self.now.waiters unlisted)
    (Shows-is after _ (Shows-kept c.self.inside after c.args.self.now.waiters keeps shows.line shows))

-- a number that is one if a flag is set, and none if it is not
one_if_is : (flag : Bool) (n : ℕ) → (flag ≡ true → n ≡ 1) → (flag ≡ false → n ≡ 0) → n ≡ one_if flag
one_if_is true n set clear = set refl
one_if_is false n set clear = clear refl

pub overflow_sub-self : goal.overflow_sub-self
overflow_sub-self c =
    let counted : TrialInvariant c.self.inside c.in_ok-node.node =
    Shows-counted c.self.inside c.args.self.now.waiters c.args.key c.in_ok-node.node
    (Shows-seen _ _ c.self.view_is c.self.invariant) c.in_ok-node.ensures.node in
    rw (one_if_is c.in_ok-node.node.granted _ (λ set. rw set at c.from.ensures) (λ clear. rw clear at c.from.ensures))
    counted.granted

pub overflow_sub-self-2 : goal.overflow_sub-self-2
overflow_sub-self-2 c =
    let counted : TrialInvariant c.self.inside c.in_ok-node.node =
    Shows-counted c.self.inside c.args.self.now.waiters c.args.key c.in_ok-node.node
    (Shows-seen _ _ c.self.view_is c.self.invariant) c.in_ok-node.ensures.node in
    rw (one_if_is (not c.in_ok-node.node.granted) _ (λ set. rw set at c.from-2.ensures)
    (λ clear. rw clear at c.from-2.ensures)) counted.waiting

-- the fields without the waiter
abbrev after : goal.After-self-6-1 → Inside
after c = record {
  store = c.link-2.new.store;
  accesses_before = c.self.inside.accesses_before;
  first = c.move_on-self-inside.result;
  last = c.move_on-self-inside-2.result;
  first_waiting = c.move_on-self-inside-3.result;
  first_unnotified = c.move_on-self-inside-4.result;
  granted = c.self.inside.granted - c.from.result;
  waiting = c.self.inside.waiting - c.from-2.result;
  is_closed = c.self.inside.is_closed;
}

shows_after : (c : goal.After-self-6-1) → Shows (after c) (without_waiter c.args.key c.args.self.now.waiters)
shows_after c =
    let shows = Shows-seen _ _ c.self.view_is c.self.invariant in
    let counted : TrialInvariant c.self.inside c.in_ok-node.node =
    Shows-counted c.self.inside c.args.self.now.waiters c.args.key c.in_ok-node.node shows
    c.in_ok-node.ensures.node in
    let leaving : Leaving c.self.inside (after c) c.take.new.self.nodes c.link.new.store.nodes c.args.key
    c.in_ok-node.node = record {
      takes = c.in_ok-node.ensures.updates;
      fewer = c.in_ok-node.ensures.len;
      front = c.link.ensures.changes;
      same = c.link.ensures.len;
      back = c.link-2.ensures.changes;
      same-2 = c.link-2.ensures.len;
      is_closed = refl;
      first = c.move_on-self-inside.ensures;
      last = c.move_on-self-inside-2.ensures;
      first_waiting = c.move_on-self-inside-3.ensures;
      first_unnotified = c.move_on-self-inside-4.ensures;
      granted = omega (
        arith,
        counted.granted,
        one_if_is c.in_ok-node.node.granted _ (λ set. rw set at c.from.ensures)
            (λ clear. rw clear at c.from.ensures),
      );
      waiting = omega (
        arith,
        counted.waiting,
        one_if_is (not c.in_ok-node.node.granted) _ (λ set. rw set at c.from-2.ensures)
            (λ clear. rw clear at c.from-2.ensures),
      );
    } in
    Shows-left c.self.inside (after c) c.take.new.self.nodes c.link.new.store.nodes c.args.self.now.waiters c.args.key
    c.in_ok-node.node c.in_ok-node.ensures.node leaving shows

pub invariant_of-self-2 : goal.invariant_of-self-2
invariant_of-self-2 c = GateInvariant-shows (after c) _ (shows_after c)

pub returns-clause-was : goal.returns-clause-was
returns-clause-was c =
    let found = Shows-find c.self.inside c.args.self.now.waiters c.args.key
    (Shows-seen _ _ c.self.view_is c.self.invariant) in
    rw (found, ← c.in_ok-node.ensures.node) refl

pub returns-clause-waiters : goal.returns-clause-waiters
returns-clause-waiters c = Shows-is (after c) _ (shows_after c)
