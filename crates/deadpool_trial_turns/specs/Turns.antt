-- Who has a place, and when: in the order of the queue, after as many returns.
use Rattle.std.specs.Prelude.{◌≡◌, ℕ, ◌+◌, ◌<◌, ◌≤◌, true, false, List, ◌∷◌, Some, slice_get}
use Rattle.deadpool_gate.specs.Numbers.{has_number}
use Rattle.deadpool_parts.specs.Runs.{all_states, Each}
use Rattle.deadpool_managed.specs.Outside.{May}
use Rattle.deadpool_trial.specs.Laws.{queue}
use Rattle.deadpool_trial.specs.Moves.{PoolRuns}
use Rattle.deadpool_trial.specs.Pool.{Pool, reach}
use Rattle.deadpool_trial.specs.RunLaws.{RunInvariant, sets_limit}
use Rattle.deadpool_trial.specs.declared.moves.Move.{Move}
use Rattle.deadpool_trial.specs.declared.moves.Move.TheVariants as move
use Rattle.deadpool_trial.specs.declared.moves.Reply.{Reply}
use Rattle.deadpool_trial.specs.declared.moves.Reply.TheVariants as reply

module _ {V E : Type 0} where
  -- an object that was out comes back, or is taken
  abbrev pub returned : Move V → Reply V E → ℕ
  returned (move.Back n) reply.Kept = 1
  returned (move.Back n) reply.Detached = 1
  returned (move.Back n) reply.Dropped = 1
  returned (move.Take n) (reply.Taken value) = 1
  returned _ _ = 0

  -- how many do by these moves, answered so
  abbrev pub returns_in : List (Move V) → List (Reply V E) → ℕ
  returns_in (m ∷ ms) (r ∷ rs) = returned m r + returns_in ms rs
  returns_in _ _ = 0

module _ {V C R S F A : Type 0} where
  -- the pool is open, and the party is in its queue: it waits or was granted a place
  abbrev pub IsInQueue : ℕ → Pool V C R S F A → Type 0
  IsInQueue n p = (p.is_open ≡ true) × (has_number n (queue p) ≡ true)

module _ {V E C R S F A : Type 0} (may : May V E C R S F A) where
  -- A run that begins well with its reach within the limit, and sets none. The party that has so many ahead of it is in
  -- the queue in each state, and more objects than that return: then it was granted a place, and has it in the end.
  abbrev pub EachIsGrantedInTurn : Type 0
  EachIsGrantedInTurn = (n earlier : ℕ) (moves : List (Move V)) (p after : Pool V C R S F A)
      (passed : List (List (Pool V C R S F A))) (answers : List (Reply V E))
      → RunInvariant p → reach p ≤ p.limit → slice_get p.waiting earlier ≡ Some n
      → Each (λ m. sets_limit m ≡ false) moves → PoolRuns may p moves passed answers after
      → Each (IsInQueue n) (all_states p passed) → earlier < returns_in moves answers
      → has_number n after.granted ≡ true
