-- A gate that is closed keeps its line, and its invariant.
use Rattle.std.proofs.Common.{true, refl}
use Rattle.deadpool_gate.proofs.GateFields.{KeepsLinks, GateInvariant-shows, Shows-kept, Shows-seen}
use Rattle.deadpool_gate.proofs.GateLine.{IsLine-closed}
use Rattle.deadpool_gate.proofs.gate.Gate.close.Goals as goal

pub invariant_of-self : goal.invariant_of-self
invariant_of-self c =
    let shows = Shows-seen _ _ c.self.view_is c.self.invariant in
    let closed = record c.self.inside { accesses_before = c.accesses-self-inside.result; is_closed = true } in
    let keeps : KeepsLinks c.self.inside closed = record {
      slots = refl;
      first = refl;
      last = refl;
      first_waiting = refl;
      first_unnotified = refl;
      granted = refl;
      waiting = refl;
    } in
    GateInvariant-shows _ _ (Shows-kept c.self.inside closed c.args.self.now.waiters keeps
    (IsLine-closed c.self.inside.is_closed _ shows.line) shows)
