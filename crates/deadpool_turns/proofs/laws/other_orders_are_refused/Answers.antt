-- The law that another order is refused.
use Rattle.deadpool_turns.proofs.Refused.{barge, forget, last_first}
use Rattle.deadpool_turns.proofs.laws.other_orders_are_refused.Goals as goal

pub returns-clause-last : goal.returns-clause-last
returns-clause-last c = last_first

pub returns-clause-barge : goal.returns-clause-barge
returns-clause-barge c = barge

pub returns-clause-resize : goal.returns-clause-resize
returns-clause-resize c = forget
