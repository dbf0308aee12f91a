-- A label that is put at the end of a row lies apart from all that are there.
use Rattle.pool_shapes.proofs.Drawn.{Words.arith, Words.subst, Words.sym, Words.◌≡◌, Words.◌≤◌}
use Rattle.pool_shapes.proofs.Drawn.PutLabels.{in_order_append, end_append}
use Rattle.pool_shapes.specs.declared.marks.shelf.Span.{Span}
use Rattle.pool_shapes.specs.Drawn.Labels.{AreInOrder, end_of}
use Rattle.pool_shapes.proofs.marks.shelf.Shelf.put.Goals as goal

pub invariant_of-self-2 : goal.invariant_of-self-2
invariant_of-self-2 c =
    let before = c.self.inside.spans.items in
    let label : Span = record { from = c.args.from; to = c.args.to } in
    let low : end_of before ≤ c.args.from = omega (arith, c.if-from-self.false, c.self.invariant.1) in
    let high : c.args.from ≤ c.args.to = omega (arith, c.if-to-from.false) in
    subst (λ l. AreInOrder 0 l × (c.args.to ≡ end_of l)) (sym c.in_ok-push.ensures.items)
    (in_order_append 0 before label c.self.invariant.0 low high, sym (end_append 0 before label))
