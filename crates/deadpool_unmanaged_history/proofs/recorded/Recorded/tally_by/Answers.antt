-- The caller has seen the whole history, of which the tally is.
use Rattle.deadpool_unmanaged_history.proofs.recorded.Recorded.tally_by.Goals as goal

pub returns-clause-counted : goal.returns-clause-counted
returns-clause-counted g c = rw c.make_for_owner.ensures.call.3 c.tally.ensures.counted
