-- The law is a lemma.
use Rattle.deadpool_unmanaged_history.proofs.Waiting.{none_unknown}
use Rattle.deadpool_unmanaged_history.proofs.laws.no_ticket_is_unknown.Goals as goal

pub returns : goal.returns
returns g c = none_unknown
