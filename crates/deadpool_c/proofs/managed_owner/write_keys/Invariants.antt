-- While keys are written into a caller's block: the first ones are those of the idle objects, the rest is as it was.
use Rattle.deadpool_c.proofs.{Words.◌≡◌, Words.◌≤◌, Words.length, Words.take, Words.drop, Words.idle_keys}
use Rattle.deadpool_c.proofs.{Steps.InBlock}
use Rattle.deadpool_c.proofs.managed_owner.write_keys.Given as goal

-- the keys so far stand at the front, and the pool is as it was
abbrev pub invariant-loop-at : goal.invariant-loop-at
invariant-loop-at l = record {
  made : InBlock l.pool.at;
  same : l.pool.state ≡ l.initial.pool.state;
  count : length l.keys ≡ length l.initial.keys;
  few : l.at ≤ length (idle_keys l.initial.pool.state.pool.core.desk);
  front : take l.at l.keys ≡ take l.at (idle_keys l.initial.pool.state.pool.core.desk);
  rest : drop l.at l.keys ≡ drop l.at l.initial.keys;
}
