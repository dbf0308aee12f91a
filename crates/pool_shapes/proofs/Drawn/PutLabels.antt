-- Labels that stand one behind the other.
use Rattle.pool_shapes.proofs.Drawn.Words.{◌≡◌, ℕ, ◌≤◌, List, [], ◌∷◌, ◌++◌, refl, arith}
use Rattle.pool_shapes.specs.Drawn.Labels.{end_behind, AreInOrder, BeginBehind, DoNotOverlap}
use Rattle.pool_shapes.specs.declared.marks.shelf.Span.{Span}

pub in_order_append : (at : ℕ) (ss : List Span) (s : Span) → AreInOrder at ss → end_behind at ss ≤ s.from
    → s.from ≤ s.to → AreInOrder at (ss ++ s ∷ [])
in_order_append at [] s h low high = (low, high, tt)
in_order_append at (x ∷ xs) s h low high = (h.0, h.1, in_order_append x.to xs s h.2 low high)

pub end_append : (at : ℕ) (ss : List Span) (s : Span) → end_behind at (ss ++ s ∷ []) ≡ s.to
end_append at [] s = refl
end_append at (x ∷ xs) s = end_append x.to xs s

all_behind : (low at : ℕ) (ss : List Span) → AreInOrder at ss → low ≤ at → BeginBehind low ss
all_behind low at [] h l = tt
all_behind low at (s ∷ ss) h l = (omega arith, all_behind low s.to ss h.2 (omega arith))

pub no_overlap : (at : ℕ) (ss : List Span) → AreInOrder at ss → DoNotOverlap ss
no_overlap at [] h = tt
no_overlap at (s ∷ ss) h = (all_behind s.to s.to ss h.2 (omega arith), no_overlap s.to ss h.2)
