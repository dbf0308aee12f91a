-- A new pool keeps the invariant of runs.
use Rattle.deadpool_trial.proofs.RunsWell.{opened_well}
use Rattle.deadpool_trial.proofs.laws.opened_is_well.Goals as goal

pub returns : goal.returns
returns g c = opened_well
