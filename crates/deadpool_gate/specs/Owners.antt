-- Who in a table has the tickets of a queue.
use Rattle.std.specs.Prelude.{◌≡◌, ℕ, ◌+◌, Bool, true, List, [], ◌∷◌, slice_get, Some, if◌then◌else◌}
use Rattle.deadpool_gate.specs.Queue.{Queue, is_listed}

-- tickets of a queue, and a table of those who may have one
module _ {X : Type 0} (has : ℕ → X → Bool) where
  -- the first that has the ticket, by number
  abbrev pub owner : List X → ℕ → ℕ
  owner [] t = 0
  owner (x ∷ xs) t = if has t x then 0 else (owner xs t + 1)

  -- the tickets of the queue are those of the table, one each
  pub record TicketsMatch (q : Queue) (xs : List X) : Type 0 where
    pub owned : (t : ℕ) → is_listed t q ≡ true → (x : X) × ((slice_get xs (owner xs t) ≡ Some x) × (has t x ≡ true))
    pub listed : (n t : ℕ) (x : X) → slice_get xs n ≡ Some x → has t x ≡ true
        → (is_listed t q ≡ true) × (owner xs t ≡ n)
