-- Each party's shape is that of how it stands and of the object that it was given.
use Rattle.pool_shapes.proofs.Words.{◌∙◌, None, arith, rules, length-append, slice_get-get_or, slice_get_within}
use Rattle.pool_shapes.proofs.Words.{look_of, shape_of}
use Rattle.pool_shapes.proofs.Columns.{one_more}
use Rattle.pool_shapes.proofs.parties.show_parties.Goals as goal

pub loop-party-preserved : goal.loop-party-preserved
loop-party-preserved g c =
    let kept = c.loop-party.invariant in
    let at = c.loop-party.party in
    let given = c.args.given.now in
    let object = slice_get-get_or given at None c.loop-party-test.true in
    let look = rw kept.same at c.look.ensures.look in
    let shape = rw look at c.shape_of.ensures in
    let items = rw shape at c.in_ok-push.ensures.items in
    record {
      same = c.look.ensures.same ∙ kept.same;
      count = search (rules, length-append);
      done =
          rw items (one_more (λ n o. shape_of (look_of n c.args.trial.now.pool) o) given at c.loop-party.shapes.items _
          kept.count object kept.done);
    }

pub returns-clause-shows : goal.returns-clause-shows
returns-clause-shows g c =
    let kept = c.loop-party.invariant in
    let all = c.loop-party-test.false in
    record {
      count = omega (arith, kept.count, all, c.loop-party.auto.party-end);
      each = λ n object is. kept.done n object (let within = slice_get_within c.args.given.now n object is in
          omega (arith, within, all)) is;
    }
