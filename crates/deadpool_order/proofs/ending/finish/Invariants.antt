-- While it executes an order that ends: the command is that of its state, the desk is held by what the state says, and
-- each command has brought it nearer to its end.
use Rattle.std.proofs.Common.{◌+◌, ◌≤◌}
use Rattle.deadpool_order.specs.Commands.{Fits}
use Rattle.deadpool_order.specs.Ends.{Ends, rank}
use Rattle.deadpool_order.specs.Has.{IsInHand, IsOwnInHand, WaitsUnder, held_in}
use Rattle.deadpool_order.proofs.ending.finish.Given as goal

abbrev pub invariant-commands : goal.invariant-commands
invariant-commands g l = record {
  ends : Ends l.order.state;
  fits : Fits l.order.state l.command;
  hand : IsInHand l.order.state l.hand;
  own : IsOwnInHand (g.D.Desk.takes_back l.desk) l.order.state l.hand;
  waits : WaitsUnder (g.D.Desk.waits l.desk) l.order.state;
  holds : g.D.Desk.holds l.desk (held_in l.order.state);
  few : l.count + rank l.order.state ≤ rank l.initial.order.state;
}

abbrev pub decreases-commands : goal.decreases-commands
decreases-commands g l = rank l.order.state
