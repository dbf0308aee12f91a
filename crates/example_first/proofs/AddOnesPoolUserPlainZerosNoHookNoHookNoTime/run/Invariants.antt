-- A one a turn.
use Rattle.std.proofs.Common.{◌≡◌}
use Rattle.example_first.proofs.AddOnesPoolUserPlainZerosNoHookNoHookNoTime.run.Given as goal

abbrev pub invariant-loop-one : goal.invariant-loop-one
invariant-loop-one g l = l.ones ≡ l.one
