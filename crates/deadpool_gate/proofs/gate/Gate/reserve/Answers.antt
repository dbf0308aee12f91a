-- Memory for more waiters leaves those that are listed as they were.
use Rattle.std.proofs.Common.{refl}
use Rattle.deadpool_gate.specs.declared.gate.Gate.TheInside.{Inside}
use Rattle.deadpool_gate.specs.GateFields.{Shows}
use Rattle.deadpool_gate.proofs.GateFields.{KeepsLinks, GateInvariant-shows, Shows-is, Shows-kept, Shows-seen}
use Rattle.deadpool_gate.proofs.gate.Gate.reserve.Goals as goal

abbrev after : goal.After-reserve → Inside
after c = record c.self.inside { store = c.reserve.new.self; accesses_before = c.accesses-self-inside.result }

shows_after : (c : goal.After-reserve) → Shows (after c) c.args.self.now.waiters
shows_after c =
    let shows = Shows-seen _ _ c.self.view_is c.self.invariant in
    let keeps : KeepsLinks c.self.inside (after c) = record {
      slots = c.reserve.ensures.slots;
      first = refl;
      last = refl;
      first_waiting = refl;
      first_unnotified = refl;
      granted = refl;
      waiting = refl;
    } in
    Shows-kept c.self.inside (after c) c.args.self.now.waiters keeps shows.line shows

pub invariant_of-self : goal.invariant_of-self
invariant_of-self c = GateInvariant-shows (after c) _ (shows_after c)

pub returns-clause-waiters : goal.returns-clause-waiters
returns-clause-waiters c = Shows-is (after c) _ (shows_after c)
