-- What the manager of a pool of buffers answers.
use Rattle.std.specs.Prelude.{◌≡◌, ◌≤◌, ◌<◌, ℕ, ⊤, [], length, Result, Ok, Err, Vec, vec_capacity, codes}
use Rattle.std.specs.Cow.{cow_str_bytes}
use Rattle.deadpool.specs.RecycleError.{RecycleError}
use Rattle.deadpool.specs.RecycleError.TheVariants.{Message}
use Rattle.deadpool_buffers.specs.declared.manager.BufferError.{BufferError}

-- There is a buffer with nothing in it and with this much room, or none.
abbrev pub MakesEmpty : {A : Type 0} → ℕ → Result (Vec ℕ A) BufferError → Type 0
MakesEmpty reserve (Ok buffer) = (buffer.items ≡ []) × (reserve ≤ vec_capacity buffer)
MakesEmpty reserve (Err cause) = ⊤

-- A buffer of at most this length loses its bytes and keeps its room; a longer one is refused and stays as it is.
abbrev pub EmptiesOrRefuses :
    {A : Type 0} → ℕ → Vec ℕ A → Result (Unit {0}) (RecycleError BufferError) → Vec ℕ A → Type 0
EmptiesOrRefuses most buffer (Ok done) left =
    (length buffer.items ≤ most) × ((left.items ≡ []) × (vec_capacity left ≡ vec_capacity buffer))
EmptiesOrRefuses most buffer (Err (Message text)) left =
    (most < length buffer.items) × ((cow_str_bytes text ≡ codes "buffer too long") × (left ≡ buffer))
EmptiesOrRefuses most buffer answer left = ⊥
