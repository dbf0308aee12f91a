-- The first that waits is granted a place, as `grant 1` does to the line, and the links and counts follow.
use Rattle.std.proofs.Common.{◌≡◌, ◌+◌, ◌-◌, refl, sym}
use Rattle.deadpool_gate.specs.declared.gate.Gate.TheInside.{Inside}
use Rattle.deadpool_gate.specs.declared.gate.store.Change.TheVariants as change
use Rattle.deadpool_gate.specs.Gate.{grant_next}
use Rattle.deadpool_gate.specs.GateFields.{Shows}
use Rattle.deadpool_gate.specs.GateNodes.{changed}
use Rattle.deadpool_gate.proofs.GateFields.{GateInvariant-shows, Shows-is, Shows-seen}
use Rattle.deadpool_gate.proofs.GateTurns.{Changing, Granting, Shows-granted, Shows-none_waiting, Shows-first_waiting}
use Rattle.deadpool_gate.proofs.GateTurns.{Shows-one_waits}
use Rattle.deadpool_gate.proofs.gate.Gate.grant_one.Goals as goal

pub returns-in_default-clause-waiters : goal.returns-in_default-clause-waiters
returns-in_default-clause-waiters c =
    sym (Shows-none_waiting c.self.inside c.args.self.now.waiters
    (Shows-seen _ _ c.self.view_is c.self.invariant) c.in_default.is)

pub returns-in_default-read-clause-waiters : goal.returns-in_default-read-clause-waiters
returns-in_default-read-clause-waiters c =
    absurd (Shows-first_waiting c.self.inside c.args.self.now.waiters c.in-Some.key
    (Shows-seen _ _ c.self.view_is c.self.invariant) c.in-Some.is (sym c.in_default-read.ensures.node))

pub overflow_add-self : goal.overflow_add-self
overflow_add-self c =
    record {
      fits =
          (Shows-one_waits c.self.inside c.args.self.now.waiters c.in-Some.key
          (Shows-seen _ _ c.self.view_is c.self.invariant) c.in-Some.is).room;
    }

pub overflow_sub-self : goal.overflow_sub-self
overflow_sub-self c =
    (Shows-one_waits c.self.inside c.args.self.now.waiters c.in-Some.key
    (Shows-seen _ _ c.self.view_is c.self.invariant) c.in-Some.is).waits

-- the fields with one place more
abbrev after : goal.After-self-3-1 → Inside
after c = record c.self.inside {
  store = c.write.new.self;
  first_waiting = c.in-Some-read.node.next;
  granted = c.self.inside.granted + 1;
  waiting = c.self.inside.waiting - 1;
}

shows_after : (c : goal.After-self-3-1) → Shows (after c) (grant_next c.args.self.now.waiters)
shows_after c =
    let same : c.read.new.self.nodes ≡ c.self.inside.store.nodes = c.in-Some-read.ensures.nodes in
    let changing : Changing c.self.inside (after c) (changed change.Granted) c.in-Some.key = record {
      updates = rw same at c.write.ensures.updates;
      same = rw same at c.write.ensures.len;
      is_closed = refl;
      first = refl;
      last = refl;
    } in
    let granting : Granting c.self.inside (after c) c.in-Some-read.node.next =
    record { first_waiting = refl; first_unnotified = refl; granted = refl; waiting = refl } in
    Shows-granted c.self.inside (after c) c.args.self.now.waiters c.in-Some.key c.in-Some-read.node c.in-Some.is
    c.in-Some-read.ensures.node changing granting (Shows-seen _ _ c.self.view_is c.self.invariant)

pub invariant_of-self-2 : goal.invariant_of-self-2
invariant_of-self-2 c = GateInvariant-shows (after c) _ (shows_after c)

pub returns-clause-waiters : goal.returns-clause-waiters
returns-clause-waiters c = Shows-is (after c) _ (shows_after c)
