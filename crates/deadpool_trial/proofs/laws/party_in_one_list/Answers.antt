-- The law that no party stands in two lists, nor twice in one.
use Rattle.deadpool_trial.proofs.RunsWell.{may, IsListedOnce, each_state}
use Rattle.deadpool_trial.proofs.OneList.{listed_once}
use Rattle.deadpool_trial.proofs.laws.party_in_one_list.Goals as goal

pub returns : goal.returns
returns g c = λ manager. each_state (may g.M.Manager g.F.SyncHook g.A.AsyncHook manager) IsListedOnce
    (λ q w. listed_once q w.lawful)
