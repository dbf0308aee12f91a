-- A line a turn.
use Rattle.std.proofs.Common.{◌≡◌}
use Rattle.every_call_threads.proofs.sheets.WriterPoolUserPlainBlanksNoHookNoHookNoTime.run.Given as goal

abbrev pub invariant-loop-line : goal.invariant-loop-line
invariant-loop-line g l = l.lines ≡ l.line
