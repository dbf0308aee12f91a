-- The law that no object's number stands twice.
use Rattle.deadpool_trial.proofs.RunsWell.{may, IsNumbered, each_state}
use Rattle.deadpool_trial.proofs.laws.numbers_stand_once.Goals as goal

pub returns : goal.returns
returns g c = λ manager. each_state (may g.M.Manager g.F.SyncHook g.A.AsyncHook manager) IsNumbered (λ q w. w.numbered)
