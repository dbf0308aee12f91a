-- The law that only its own move takes a party out of a queue, and no move changes another party.
use Rattle.deadpool_trial.proofs.OfUnmanaged.{Words.OthersStayQueued, Words.OthersStand, Well.each_move}
use Rattle.deadpool_trial.proofs.OfUnmanaged.{Well.moved_queued, Well.moved_parties}
use Rattle.deadpool_trial.proofs.unmanaged.laws.no_waiter_is_lost.Goals as goal

pub returns-clause-queues : goal.returns-clause-queues
returns-clause-queues g c = each_move OthersStayQueued moved_queued

pub returns-clause-parties : goal.returns-clause-parties
returns-clause-parties g c = each_move OthersStand moved_parties
