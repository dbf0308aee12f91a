-- Those that ask for something that is not there, by number, in order of arrival.
use Rattle.std.specs.Prelude.{ℕ, Bool, ◌||◌, List, [], ◌∷◌, ◌++◌, length, map, take, drop, min, if◌then◌else◌}
use Rattle.deadpool_gate.specs.Numbers.{has_number, without_number}

pub record Queue : Type 0 where
  -- those that were granted what they ask for, and have not taken it yet
  pub granted : List ℕ
  pub waiting : List ℕ

abbrev pub nobody : Queue
nobody = record { granted = []; waiting = [] }

-- all of them, in order of arrival
abbrev pub members : Queue → List ℕ
members q = q.granted ++ q.waiting

abbrev pub is_listed : ℕ → Queue → Bool
is_listed n q = has_number n q.granted || has_number n q.waiting

abbrev pub joined : ℕ → Queue → Queue
joined n q = record q { waiting = q.waiting ++ n ∷ [] }

abbrev pub without : ℕ → Queue → Queue
without n q = record { granted = without_number n q.granted; waiting = without_number n q.waiting }

-- those under other numbers
abbrev pub renamed : (ℕ → ℕ) → Queue → Queue
renamed f q = record { granted = map f q.granted; waiting = map f q.waiting }

-- the earliest that wait, so many of them, are granted what they ask for
abbrev pub granting : ℕ → Queue → Queue
granting k q = record { granted = q.granted ++ take k q.waiting; waiting = drop k q.waiting }

-- of an open pool, as many as there is enough for
abbrev pub served : Bool → ℕ → Queue → Queue
served is_open free q = granting (if is_open then min (length q.waiting) free else 0) q
