-- A drain, as contracts see it.
use Rattle.std.specs.Prelude.{Bool, Option}
use Rattle.deadpool_chronicle.specs.History.{Knowing}
use Rattle.deadpool_history.specs.declared.line.Line.{Line}

pub record DrainState (Pool : Type 0) : Type 0 where
  -- what the handles of its pool share
  pub pool : Pool
  -- whether it waits for some time only
  pub is_limited : Bool
  -- who makes its calls, from its first poll on
  pub caller : Option (Knowing Line)
  -- whether it has given its end
  pub is_over : Bool
