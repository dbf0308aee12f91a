-- Runs of a machine, with every state that they pass.
use Rattle.std.specs.Prelude.{◌≡◌, List, [], ◌∷◌, ◌++◌, ⊤}

-- the last of the states after x, or x itself if there is none
abbrev pub last_of : {X : Type 0} → X → List X → X
last_of x [] = x
last_of x (y ∷ ys) = last_of y ys

-- all the states of a run, given those that each of its moves passed
abbrev pub all_states : {X : Type 0} → X → List (List X) → List X
all_states x [] = x ∷ []
all_states x (passed ∷ rest) = x ∷ (passed ++ later rest)
  where
    later : {X : Type 0} → List (List X) → List X
    later [] = []
    later (ys ∷ yss) = ys ++ later yss

-- P holds of each
abbrev pub Each : {X : Type 0} → (X → Type 0) → List X → Type 0
Each P [] = ⊤
Each P (x ∷ xs) = P x × Each P xs

-- P holds of each two neighbours
abbrev pub Neighbours : {X : Type 0} → (X → X → Type 0) → List X → Type 0
Neighbours P [] = ⊤
Neighbours P (x ∷ []) = ⊤
Neighbours P (x ∷ y ∷ zs) = P x y × Neighbours P (y ∷ zs)

-- P holds of each and each later one
abbrev pub Later : {X : Type 0} → (X → X → Type 0) → List X → Type 0
Later P [] = ⊤
Later P (x ∷ xs) = Each (P x) xs × Later P xs

-- Makes x m passed r: from x the move m may pass these states, and be answered r
module _ {X M R : Type 0} (Makes : X → M → List X → R → Type 0) where
  -- A list of moves from a state, with the states that each passed, the replies, and the state after them. Each move
  -- begins where the one before it ended.
  abbrev pub Runs : X → List M → List (List X) → List R → X → Type 0
  Runs x [] [] [] after = after ≡ x
  Runs x (m ∷ ms) (passed ∷ rest) (r ∷ rs) after = Makes x m passed r × Runs (last_of x passed) ms rest rs after
  Runs x _ _ _ after = ⊥
