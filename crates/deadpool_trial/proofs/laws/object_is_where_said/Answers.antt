-- The law that an object given is out, and one kept at its return is idle.
use Rattle.deadpool_trial.proofs.RunsWell.{may, IsOutIfGiven, IsIdleIfKept, each_reply}
use Rattle.deadpool_trial.proofs.laws.object_is_where_said.Goals as goal

pub returns-clause-given : goal.returns-clause-given
returns-clause-given g c =
    λ manager. each_reply (may g.M.Manager g.F.SyncHook g.A.AsyncHook manager) IsOutIfGiven (λ m p x h. h.2)

pub returns-clause-kept : goal.returns-clause-kept
returns-clause-kept g c =
    λ manager. each_reply (may g.M.Manager g.F.SyncHook g.A.AsyncHook manager) IsIdleIfKept (λ m p x h. h.3)
