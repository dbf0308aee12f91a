-- The store finds under a key the waiter that the line has there, and whether it was granted a place.
use Rattle.std.proofs.Common.{refl}
use Rattle.deadpool_gate.proofs.GateFields.{Shows-seen, Shows-find}
use Rattle.deadpool_gate.proofs.gate.Gate.is_granted.Goals as goal

pub returns-in_err-node-clause-value : goal.returns-in_err-node-clause-value
returns-in_err-node-clause-value c =
    let found = Shows-find c.self.inside c.args.self.now.waiters c.args.key
    (Shows-seen _ _ c.self.view_is c.self.invariant) in
    rw (found, ← c.in_err-node.ensures.node) c.from_residual.ensures

pub returns-clause-value : goal.returns-clause-value
returns-clause-value c =
    let found = Shows-find c.self.inside c.args.self.now.waiters c.args.key
    (Shows-seen _ _ c.self.view_is c.self.invariant) in
    rw (found, ← c.in_ok-node.ensures.node) refl
