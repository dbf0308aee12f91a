-- No two labels of a row overlap.
use Rattle.pool_shapes.proofs.Drawn.{Words.subst, PutLabels.no_overlap}
use Rattle.pool_shapes.specs.Drawn.Labels.{DoNotOverlap}
use Rattle.pool_shapes.proofs.marks.shelf.Shelf.laws.Goals as goal

pub returns : goal.returns
returns c = subst (λ l. DoNotOverlap l) c.self.view_is (no_overlap _ _ c.self.invariant.0)
