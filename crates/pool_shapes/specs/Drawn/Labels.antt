-- Labels in one row.
use Rattle.std.specs.Prelude.{ℕ, ◌≤◌, ⊤, List, [], ◌∷◌}
use Rattle.pool_shapes.specs.declared.marks.shelf.Span.{Span}

-- where the last of some labels ends that begin behind a point
abbrev pub end_behind : ℕ → List Span → ℕ
end_behind at [] = at
end_behind at (s ∷ ss) = end_behind s.to ss

abbrev pub end_of : List Span → ℕ
end_of ss = end_behind 0 ss

-- each begins where the one before it ends or behind that: the first of them at this point or behind it
abbrev pub AreInOrder : ℕ → List Span → Type 0
AreInOrder at [] = ⊤
AreInOrder at (s ∷ ss) = (at ≤ s.from) × (s.from ≤ s.to) × AreInOrder s.to ss

-- all of them begin at this point or behind it
abbrev pub BeginBehind : ℕ → List Span → Type 0
BeginBehind at [] = ⊤
BeginBehind at (s ∷ ss) = (at ≤ s.from) × BeginBehind at ss

-- no two overlap: all that follow one begin where it ends or behind that
abbrev pub DoNotOverlap : List Span → Type 0
DoNotOverlap [] = ⊤
DoNotOverlap (s ∷ ss) = BeginBehind s.to ss × DoNotOverlap ss
