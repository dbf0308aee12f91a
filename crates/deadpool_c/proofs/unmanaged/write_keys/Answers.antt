-- One key more is written, and the pool is as it was.
use Rattle.deadpool_c.proofs.Words.{◌≡◌, ◌∙◌, sym, ap, ◌<◌, length, slice_get, Some, arith, length-set}
use Rattle.deadpool_c.proofs.Words.{slice_get_within}
use Rattle.deadpool_c.proofs.Writing.{front_more, rest_more}
use Rattle.deadpool_c.proofs.unmanaged.write_keys.Goals as goal

pub loop-at-preserved : goal.loop-at-preserved
loop-at-preserved c =
    let l = c.loop-at in
    let given = c.args.pool.now.state.pool.pool.idle in
    let inside : l.at < length l.keys = omega (arith, c.loop-at-test.true, l.invariant.count) in
    let found : slice_get given l.at ≡ Some c.in-Some.key =
    sym (ap (λ s. slice_get s.pool.pool.idle l.at) l.invariant.same) ∙ sym c.replace_with.ensures.0 ∙ c.in-Some.is in
    record {
      made = c.replace_with.ensures.1.1;
      same = c.replace_with.ensures.1.0 ∙ l.invariant.same;
      count = length-set l.keys l.at c.in-Some.key ∙ l.invariant.count;
      few = omega (arith, slice_get_within given l.at c.in-Some.key found);
      front = front_more given l.keys l.at c.in-Some.key inside found l.invariant.front;
      rest = rest_more l.keys c.args.keys.now l.at c.in-Some.key l.invariant.rest;
    }
