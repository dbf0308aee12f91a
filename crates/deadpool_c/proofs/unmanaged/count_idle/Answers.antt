-- One object more is there, and the pool is as it was.
use Rattle.deadpool_c.proofs.Words.{◌≡◌, ◌∙◌, sym, ap, slice_get, Some, arith, slice_get_within}
use Rattle.deadpool_c.proofs.unmanaged.count_idle.Goals as goal

pub loop-at-preserved : goal.loop-at-preserved
loop-at-preserved c =
    let l = c.loop-at in
    let given = c.args.pool.now.state.pool.pool.idle in
    let found : slice_get given l.at ≡ Some c.in-Some._key =
    sym (ap (λ s. slice_get s.pool.pool.idle l.at) l.invariant.same) ∙ sym c.replace_with.ensures.0 ∙ c.in-Some.is in
    record {
      made = c.replace_with.ensures.1.1;
      same = c.replace_with.ensures.1.0 ∙ l.invariant.same;
      few = omega (arith, slice_get_within given l.at c.in-Some._key found);
    }
