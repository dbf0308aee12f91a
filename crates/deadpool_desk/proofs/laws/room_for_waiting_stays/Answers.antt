-- Each case of a step leaves the bound and the room as they were.
use Rattle.deadpool_desk.proofs.Room.{nobody_refused, owner_keeps_room, retain_keeps_room, step_keeps_room}
use Rattle.deadpool_desk.proofs.laws.room_for_waiting_stays.Goals as goal

pub returns : goal.returns
returns g c = record {
  step = λ x y step object reply h. step_keeps_room x y step object reply h;
  owner_step = λ x y step reply h. owner_keeps_room x y step reply h;
  retain = λ x y r r' result h. retain_keeps_room g.R.Retainer x y r r' result h;
  nobody = λ x y wait object. nobody_refused x y wait object;
}
