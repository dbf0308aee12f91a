-- While an unmanaged pool's parties are shown: those so far have their shape, and the trial is as it was.
use Rattle.pool_shapes.proofs.{Words.◌≡◌, Words.length, Words.unmanaged_look_of as look_of, Words.unmanaged_shape_of}
use Rattle.pool_shapes.proofs.{Columns.IsDone}
use Rattle.pool_shapes.proofs.parties.show_unmanaged_parties.Given as goal

abbrev pub invariant-loop-party : goal.invariant-loop-party
invariant-loop-party g l = record {
  same : l.trial ≡ l.initial.trial;
  count : length l.shapes.items ≡ l.party;
  done : IsDone (λ n object. unmanaged_shape_of (look_of n l.initial.trial) object) l.given l.party l.shapes.items;
}
