-- While parties are shown: those so far have their shape, and the trial is as it was.
use Rattle.pool_shapes.proofs.{Words.◌≡◌, Words.length, Words.look_of, Words.shape_of, Columns.IsDone}
use Rattle.pool_shapes.proofs.parties.show_parties.Given as goal

abbrev pub invariant-loop-party : goal.invariant-loop-party
invariant-loop-party g l = record {
  same : l.trial ≡ l.initial.trial;
  count : length l.shapes.items ≡ l.party;
  done : IsDone (λ n object. shape_of (look_of n l.initial.trial.pool) object) l.given l.party l.shapes.items;
}
