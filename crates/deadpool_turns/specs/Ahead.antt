-- How many of a list stand ahead of one.
use Rattle.std.specs.Prelude.{ℕ, ◌+◌, ◌==◌, List, [], ◌∷◌, if◌then◌else◌}

-- how many stand ahead of the number, or all if it is not there
abbrev pub ahead : ℕ → List ℕ → ℕ
ahead t [] = 0
ahead t (n ∷ ns) = if n == t then 0 else ahead t ns + 1
