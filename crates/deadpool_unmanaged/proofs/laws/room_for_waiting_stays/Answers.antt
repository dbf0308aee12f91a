-- The law that room for all that may wait stays.
use Rattle.deadpool_unmanaged.proofs.Room.{room_lasts}
use Rattle.deadpool_unmanaged.proofs.laws.room_for_waiting_stays.Goals as goal

pub returns : goal.returns
returns g c = room_lasts
