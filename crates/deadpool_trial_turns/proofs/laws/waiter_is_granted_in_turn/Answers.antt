-- The law that who waits is granted a place in its turn.
use Rattle.deadpool_managed.specs.Outside.{may}
use Rattle.deadpool_trial_turns.proofs.Runs.{granted_in_turn}
use Rattle.deadpool_trial_turns.proofs.laws.waiter_is_granted_in_turn.Goals as goal

pub returns : goal.returns
returns g c = λ manager. granted_in_turn (may g.M.Manager g.F.SyncHook g.A.AsyncHook manager)
