-- While an object that left is looked for: each party so far has what it had, but for that object.
use Rattle.pool_shapes.proofs.{Words.left_without, Columns.IsChanged}
use Rattle.pool_shapes.proofs.given.Given.take_away.Given as goal

abbrev pub invariant-loop-party : goal.invariant-loop-party
invariant-loop-party l =
    IsChanged (left_without l.number) l.initial.self-inside.objects.items l.party l.self-inside.objects.items
