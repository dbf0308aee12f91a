-- A history, and what a call adds to it. Each entry stands beside the number of its caller.
use Rattle.std.specs.Prelude.{◌≡◌, ℕ, ◌==◌, List, [], ◌∷◌, ◌++◌, map, filter}
use mathlib.Core.List.{IsPrefix}

-- what a caller knows: its number, all its entries, how many callers it has let in, and the beginning that it has seen
pub record Knowing (E : Type 0) : Type 0 where
  pub number : ℕ
  pub mine : List E
  pub admitted : ℕ
  pub seen : List (ℕ × E)

module _ {E : Type 0} where
  -- the entries of one caller, in their order
  abbrev pub calls_by : ℕ → List (ℕ × E) → List E
  calls_by number log = map (λ (x : ℕ × E). x.1) (filter (λ (x : ℕ × E). x.0 == number) log)

  -- one entry more, of those that may stand there, at the end of the history and of its caller's entries
  abbrev pub Adds : (E → Type 0) → List (ℕ × E) → ℕ → List E → List (ℕ × E) → List E → Type 0
  Adds may_be log number mine log' mine' =
      (e : E) × (may_be e × (log' ≡ log ++ (number, e) ∷ []) × (mine' ≡ mine ++ e ∷ []))

  -- a caller's call, after which it has seen all of the history
  abbrev pub Calls : (E → Type 0) → List (ℕ × E) → Knowing E → List (ℕ × E) → Knowing E → Type 0
  Calls may_be log c log' c' =
      Adds may_be log c.number c.mine log' c'.mine × (c'.number ≡ c.number) × (c'.admitted ≡ c.admitted)
      × (c'.seen ≡ log')

  -- A caller that has seen more since, or as much: it has made no call and let nobody in.
  abbrev pub SeesMore : Knowing E → Knowing E → Type 0
  SeesMore c c' = (c' ≡ record c { seen = c'.seen }) × IsPrefix c.seen c'.seen
