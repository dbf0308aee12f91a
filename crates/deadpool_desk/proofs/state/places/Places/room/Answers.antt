-- How many places are free is the limit less those held and those granted.
use Rattle.deadpool_desk.proofs.Names.{arith}
use Rattle.deadpool_desk.proofs.state.places.Places.room.Goals as goal

pub returns : goal.returns
returns c = omega (arith, c.room_within.ensures, c.held.ensures)
