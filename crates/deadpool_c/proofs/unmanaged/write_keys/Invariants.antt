-- While an unmanaged pool's keys are written into a caller's block: the first are the idle ones, the rest as it was.
use Rattle.deadpool_c.proofs.{Words.◌≡◌, Words.◌≤◌, Words.length, Words.take, Words.drop, Steps.InBlock}
use Rattle.deadpool_c.proofs.unmanaged.write_keys.Given as goal

-- the keys so far stand at the front, and the pool is as it was
abbrev pub invariant-loop-at : goal.invariant-loop-at
invariant-loop-at l = record {
  made : InBlock l.pool.at;
  same : l.pool.state ≡ l.initial.pool.state;
  count : length l.keys ≡ length l.initial.keys;
  few : l.at ≤ length l.initial.pool.state.pool.pool.idle;
  front : take l.at l.keys ≡ take l.at l.initial.pool.state.pool.pool.idle;
  rest : drop l.at l.keys ≡ drop l.at l.initial.keys;
}
