-- With room for all that may wait no entry is refused for want of memory, and the room stays.
use Rattle.deadpool_unmanaged.proofs.Words.{IsKept}
use Rattle.deadpool_unmanaged.proofs.Room.{room_lasts}
use Rattle.deadpool_unmanaged.specs.declared.step.Step.TheVariants.{GetEnter, AddEnter}
use Rattle.deadpool_unmanaged.proofs.state.Core.make.Goals as goal

pub returns-in-GetEnter-clause-room : goal.returns-in-GetEnter-clause-room
returns-in-GetEnter-clause-room g c =
    let kept : IsKept c.args.self.now.pool = rw (← c.self.view_is) c.self.invariant.kept in
    room_lasts c.args.self.now c.get_enter.new.self (GetEnter c.in-GetEnter.wait) c.get_enter.new.hand
    c.get_enter.result kept c.get_enter.ensures.made

pub returns-in-AddEnter-clause-room : goal.returns-in-AddEnter-clause-room
returns-in-AddEnter-clause-room g c =
    let kept : IsKept c.args.self.now.pool = rw (← c.self.view_is) c.self.invariant.kept in
    room_lasts c.args.self.now c.add_enter.new.self (AddEnter c.in-AddEnter.wait) c.args.hand.now
    c.add_enter.result kept c.add_enter.ensures.made
