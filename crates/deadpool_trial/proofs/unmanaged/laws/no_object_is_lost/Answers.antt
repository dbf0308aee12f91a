-- The law that an object leaves only by a move that may take it.
use Rattle.deadpool_trial.proofs.OfUnmanaged.{Words.OthersStayInPool, Well.each_move, Well.moved_objects}
use Rattle.deadpool_trial.proofs.unmanaged.laws.no_object_is_lost.Goals as goal

pub returns : goal.returns
returns g c = each_move OthersStayInPool moved_objects
