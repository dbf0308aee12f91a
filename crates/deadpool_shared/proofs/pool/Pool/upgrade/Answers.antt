-- The step is made by a caller that has seen how the home's pool opened.
use Rattle.deadpool_shared.proofs.pool.Pool.upgrade.Goals as goal

pub returns-in-Done-clause-counted : goal.returns-in-Done-clause-counted
returns-in-Done-clause-counted g c = rw (c.shared.ensures, c.in_ok-home.ensures) at c.in-Done.ensures.call

pub returns-in-NoHandle-clause-counted : goal.returns-in-NoHandle-clause-counted
returns-in-NoHandle-clause-counted g c = rw (c.shared.ensures, c.in_ok-home.ensures) at c.in-NoHandle.ensures.call
