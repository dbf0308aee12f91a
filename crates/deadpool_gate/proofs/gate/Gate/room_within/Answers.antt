-- What is free of a total is the total less what others hold and what was granted.
use Rattle.std.proofs.Common.{arith}
use Rattle.deadpool_gate.proofs.GateTickets.{granted_count-length}
use Rattle.deadpool_gate.proofs.gate.Gate.room_within.Goals as goal

pub returns : goal.returns
returns c = omega (
  arith,
  c.saturating_sub.ensures,
  c.granted.ensures.count,
  granted_count-length c.args.self.now.waiters,
)
