-- While idle objects are counted: there are at least so many, and the pool is as it was.
use Rattle.deadpool_c.proofs.{Words.◌≡◌, Words.◌≤◌, Words.length, Words.idle_keys, Steps.InBlock}
use Rattle.deadpool_c.proofs.managed_owner.count_idle.Given as goal

-- so many are there, and the pool is as it was
abbrev pub invariant-loop-at : goal.invariant-loop-at
invariant-loop-at l = record {
  made : InBlock l.pool.at;
  same : l.pool.state ≡ l.initial.pool.state;
  few : l.at ≤ length (idle_keys l.initial.pool.state.pool.core.desk);
}
