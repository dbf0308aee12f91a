-- The caller has seen the whole history, of which the tally is.
use Rattle.deadpool_shared.proofs.locked.Locked.tally.Goals as goal

pub returns-clause-counted : goal.returns-clause-counted
returns-clause-counted g c = rw c.make_for_owner.ensures.call.3 c.tally.ensures.counted
