-- Those with a place and those that wait are all that the queue lists.
use Rattle.deadpool_desk.proofs.Names.{length-both_tickets}
use Rattle.deadpool_desk.proofs.state.Core.most_next_ticket.Goals as goal

pub returns : goal.returns
returns g c =
    rw (← c.self.view_is, length-both_tickets c.self.inside.gate.waiters) c.most_next_number.ensures
