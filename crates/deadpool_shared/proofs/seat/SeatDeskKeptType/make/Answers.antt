-- A step of a holder that has shares, after which all are told.
use Rattle.std.proofs.Common.{None, Some}
use Rattle.deadpool_shared.proofs.Owning.{left_at_seat}
use Rattle.deadpool_shared.specs.Counts.{counts_of}
use Rattle.deadpool_shared.proofs.seat.SeatDeskKeptType.make.Goals as goal

pub returns-in-Some-clause-made : goal.returns-in-Some-clause-made
returns-in-Some-clause-made g c = (
  c.make-reply.ensures.known,
  (
    Some c.in-Some.shares,
    (
      rw (← c.self.view_is) (rw c.in-Some.is at c.supply.ensures.supplied),
      (
        c.shares.inside.caller,
        (rw (← c.shares.view_is) at c.make-reply.ensures.call, c.end.ensures.keeps, c.end.ensures.quiet),
      ),
    ),
  ),
)

pub returns-in-Some-clause-holds : goal.returns-in-Some-clause-holds
returns-in-Some-clause-holds g c = (
  rw (← c.shares.view_is) at c.make-reply.ensures.holds,
  left_at_seat c.args.step.now c.args.hand.now c.make-reply.new.hand c.make-reply.result.0 c.args.self.now
      (Some (record { has = counts_of None; caller = c.end.new.seer })) (
        Some c.in-Some.shares,
        (
          rw (← c.self.view_is) (rw c.in-Some.is at c.supply.ensures.supplied),
          (
            c.shares.inside.caller,
            (rw (← c.shares.view_is) at c.make-reply.ensures.call, c.end.ensures.keeps, c.end.ensures.quiet),
          ),
        ),
      )
      c.requires.brings c.make-reply.ensures.fits c.make-reply.ensures.hand,
)
