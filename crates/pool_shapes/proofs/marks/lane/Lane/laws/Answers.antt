-- No two marks of a lane overlap, and its columns are those that its marks show.
use Rattle.pool_shapes.proofs.Drawn.{Words.subst, Words.AreApart, LaidMarks.laid_apart, LaidMarks.all_shown}
use Rattle.pool_shapes.proofs.marks.lane.Lane.laws.Goals as goal

pub returns-clause-apart : goal.returns-clause-apart
returns-clause-apart g c = subst (λ l. AreApart l) c.self.view_is (laid_apart _ _ c.self.invariant)

pub returns-clause-shown : goal.returns-clause-shown
returns-clause-shown g c = all_shown c.self.inside.earlier.items c.self.inside.last _ c.self.view_is c.self.invariant
