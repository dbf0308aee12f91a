-- Lists of numbers that stand once, and a queue that keeps its order.
use Rattle.std.specs.Prelude.{◌≡◌, ℕ, ◌≤◌, Bool, true, false, List, [], ◌∷◌, ◌++◌, length, ⊤}
use Rattle.std.specs.List.{filter}
use Rattle.deadpool_gate.specs.Numbers.{has_number}

-- no number stands in the list twice
abbrev pub IsOnce : List ℕ → Type 0
IsOnce [] = ⊤
IsOnce (n ∷ ns) = (has_number n ns ≡ false) × IsOnce ns

-- after is before without some of its numbers, and at its end a number that was not there, or none
pub record KeepsOrder (before after : List ℕ) : Type 0 where
  pub stays : ℕ → Bool
  pub joins : List ℕ
  pub is : after ≡ filter stays before ++ joins
  pub few : length joins ≤ 1
  pub fresh : (n : ℕ) → has_number n joins ≡ true → has_number n before ≡ false
