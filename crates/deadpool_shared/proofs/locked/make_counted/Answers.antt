-- The pool knows what the holder has, and its ticket.
use Rattle.std.specs.Option.{option_or}
use Rattle.deadpool_journal.specs.ByNumber.{number_in}
use Rattle.deadpool_shared.proofs.Known.{is_known, knows_ticket}
use Rattle.deadpool_shared.proofs.locked.make_counted.Goals as goal

pub returns-clause-known : goal.returns-clause-known
returns-clause-known g c =
    let object = option_or c.args.hand.now c.make.new.hand in
    is_known c.args.recorded.now.pool.core.desk c.make.new.self.pool.core.desk c.args.step.now object
    (number_in object) c.make.result c.make.ensures.made.0.0 c.requires.shares
    (knows_ticket c.args.step.now (number_in object) c.make.result c.args.caller.now c.make.new.caller
    c.make.ensures.called)
