-- While places are granted: the line is as after so many grants, and each took two accesses at most.
use Rattle.std.proofs.Common.{◌≡◌, ◌*◌}
use Rattle.deadpool_gate.specs.Gate.{grant, RisesAtMost}
use Rattle.deadpool_gate.proofs.gate.Gate.settle.Given as goal

-- as many got a place as the loop has counted, by two accesses each
abbrev pub invariant-loop-given : goal.invariant-loop-given
invariant-loop-given l = record {
  waiters : l.self.waiters ≡ grant l._given l.initial.self.waiters;
  closed : l.self.is_closed ≡ l.initial.self.is_closed;
  capacity : l.self.capacity ≡ l.initial.self.capacity;
  accesses : RisesAtMost (2 * l._given) l.initial.self.accesses l.self.accesses;
  before : l.self.accesses_before ≡ l.initial.self.accesses_before;
}
