-- After as many grants as there is room, the first of those that waited have a place, in their order.
use Rattle.std.proofs.Common.{◌≡◌, rules}
use Rattle.deadpool_gate.specs.Gate.{grant}
use Rattle.deadpool_gate.proofs.GateFields.{Shows-seen}
use Rattle.deadpool_gate.proofs.GateTickets.{unnotified_tickets-grant}
use Rattle.deadpool_gate.proofs.GatePlaces.{granted_tickets-grant, waiting_tickets-grant}
use Rattle.deadpool_gate.proofs.gate.Gate.settle.Goals as goal

pub returns-clause-places : goal.returns-clause-places
returns-clause-places c =
    let after : c.loop-given.self.waiters ≡ grant c.if-self.count c.args.self.now.waiters = search rules in
    rw after (granted_tickets-grant c.if-self.count c.args.self.now.waiters
    (Shows-seen _ _ c.self.view_is c.self.invariant).line.granted_front)

pub returns-clause-left : goal.returns-clause-left
returns-clause-left c =
    let after : c.loop-given.self.waiters ≡ grant c.if-self.count c.args.self.now.waiters = search rules in
    rw after (waiting_tickets-grant c.if-self.count c.args.self.now.waiters)

pub returns-clause-unnotified : goal.returns-clause-unnotified
returns-clause-unnotified c =
    let after : c.loop-given.self.waiters ≡ grant c.if-self.count c.args.self.now.waiters = search rules in
    rw after (unnotified_tickets-grant c.if-self.count c.args.self.now.waiters)
