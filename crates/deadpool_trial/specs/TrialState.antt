-- What a trial shows: the pool with its parties, and the manager that answers.
use Rattle.deadpool_trial.specs.Pool.{Pool}

pub record TrialState (M V C R S F A : Type 0) : Type 0 where
  pub pool : Pool V C R S F A
  pub manager : M
