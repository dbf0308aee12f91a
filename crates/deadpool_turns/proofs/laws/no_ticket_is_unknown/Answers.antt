-- The law that no ticket is unknown.
use Rattle.deadpool_turns.proofs.Named.{tickets_known}
use Rattle.deadpool_turns.proofs.laws.no_ticket_is_unknown.Goals as goal

pub returns : goal.returns
returns c = tickets_known
