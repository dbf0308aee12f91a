-- One that joins has a place, which was made before.
use Rattle.deadpool_lock.proofs.Lines.{have_entered, have_room}
use Rattle.deadpool_lock.proofs.ends.Ends.join.Goals as goal

pub invariant_of-self-2 : goal.invariant_of-self-2
invariant_of-self-2 c =
    rw (c.in_ok-make_room.ensures.room)
    (have_entered
    _ _ _ _ _
    c.enter.ensures.unchanged
    c.enter.ensures.joins
    (λ t is. rw (c.enter.ensures.number t is, ← c.next_number.ensures, ← c.in_ok-make_room.ensures.room)
    c.in_ok-make_room.ensures.place)
    (have_room _ _ _ c.self.invariant))
