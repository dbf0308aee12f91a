-- A waiter is found by its ticket and has a place exactly if the line says so.
use Rattle.std.proofs.Common.{◌≡◌, ◌∙◌, sym, Some, None}
use Rattle.slab.specs.Slab.{get}
use Rattle.deadpool_gate.proofs.GateFields.{Shows-seen, Shows-find}
use Rattle.deadpool_gate.proofs.GateTickets.{has_number_found}
use Rattle.deadpool_gate.proofs.gate.Gate.has_place.Goals.{in-Some, in-None}
use Rattle.deadpool_gate.proofs.gate.Gate.has_place.Goals as goal

pub returns-clause-has : goal.returns-clause-has
returns-clause-has c =
    let t = c.args.ticket in
    let ws = c.args.self.now.waiters in
    let shows = Shows-seen _ _ c.self.view_is c.self.invariant in
    let has = has_number_found t ws _ shows.line.apart (Shows-find c.self.inside ws t shows) in
    let read : c.read.result ≡ get c.self.inside.store.nodes t = rw c.ticket.view_is at c.read.ensures.node in
    elim c.match-read.branch [
      | in-Some w ↦
          let there : get c.self.inside.store.nodes t ≡ Some w.in-Some.node = sym read ∙ w.in-Some.is in
          w.result-is ∙ sym (rw there at has)
      | in-None w ↦
          let nobody : get c.self.inside.store.nodes t ≡ None = sym read ∙ w.in-None.is in
          w.result-is ∙ sym (rw nobody at has)
    ]
