-- The law that the size and the room granted to adds stay within the limit.
use Rattle.deadpool_trial.proofs.OfUnmanaged.{Words.HasRoomForAll, Well.each_state, Well.room_for_all}
use Rattle.deadpool_trial.proofs.unmanaged.laws.granted_room_within_limit.Goals as goal

pub returns : goal.returns
returns g c = each_state HasRoomForAll room_for_all
