-- While an unmanaged pool's idle objects are counted: there are at least so many, and the pool is as it was.
use Rattle.deadpool_c.proofs.{Words.◌≡◌, Words.◌≤◌, Words.length, Steps.InBlock}
use Rattle.deadpool_c.proofs.unmanaged.count_idle.Given as goal

-- so many are there, and the pool is as it was
abbrev pub invariant-loop-at : goal.invariant-loop-at
invariant-loop-at l = record {
  made : InBlock l.pool.at;
  same : l.pool.state ≡ l.initial.pool.state;
  few : l.at ≤ length l.initial.pool.state.pool.pool.idle;
}
