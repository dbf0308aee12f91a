-- What is true of every state of every run that begins with a state of which it is true.
use Rattle.std.specs.Prelude.{◌+◌, ◌≤◌, length}
use Rattle.deadpool_trial.specs.Unmanaged.Moves.{NobodyWaits}
use Rattle.deadpool_trial.specs.Unmanaged.Pool.{Pool, size}

-- there is room for each object, and for each that an add was granted room for
abbrev pub HasRoom : {V : Type 0} → Pool V → Type 0
HasRoom p = size p + length p.adds.granted ≤ p.limit

pub record PoolInvariant {V : Type 0} (p : Pool V) : Type 0 where
  pub nobody_waits : NobodyWaits p
  pub room : HasRoom p
