-- A get that is given up makes the step of its progress at its seat, and leaves the seat's caller.
use Rattle.deadpool_shared.proofs.asking.GettingRequest.cancel.Goals as goal

pub returns : goal.returns
returns g c =
    rw (← c.self.view_is) (
      c.cancel.new.desk,
      (rw (c.new-seat.ensures) at c.cancel.ensures.cancelled, c.leave-caller.ensures),
    )
