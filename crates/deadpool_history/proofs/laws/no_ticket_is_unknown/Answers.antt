-- The law is a lemma.
use Rattle.deadpool_history.proofs.Waiting.{none_unknown}
use Rattle.deadpool_history.proofs.laws.no_ticket_is_unknown.Goals as goal

pub returns : goal.returns
returns c = none_unknown
