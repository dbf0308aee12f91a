-- How a drain ends, and which calls it makes for its caller.
use Rattle.std.specs.Prelude.{⊤, List, [], ◌∷◌, ◌≡◌, ◌≢◌, ◌<◌, ℕ, Bool, true, false, Option, Some, None, Result}
use Rattle.std.specs.Prelude.{Ok, Err}
use Rattle.futures.specs.declared.task.Poll.{Poll}
use Rattle.futures.specs.declared.task.Poll.TheVariants.{Ready, Pending}
use Rattle.deadpool_chronicle.specs.History.{Knowing, SeesMore}
use Rattle.deadpool_desk.specs.Closing.{HasSome, IsEmpty}
use Rattle.deadpool_desk.specs.declared.owner_step.OwnerReply.TheVariants as owner_reply
use Rattle.deadpool_desk.specs.declared.owner_step.OwnerStep.TheVariants as owner_step
use Rattle.deadpool_history.specs.History.{HasCalled, ThenTells}
use Rattle.deadpool_history.specs.declared.line.Line.{Line}
use Rattle.deadpool_history.specs.declared.line.Line.TheVariants.{Next}
use Rattle.deadpool_journal.specs.declared.entry.Entry.TheVariants.{Owner}
use Rattle.deadpool_lock.specs.Ends.{status_in}
use Rattle.deadpool_lock.specs.declared.ended.DrainError.{DrainError}
use Rattle.deadpool_lock.specs.declared.ended.DrainError.TheVariants.{Timeout, OutOfMemory, Departing}
use Rattle.deadpool_parts.specs.declared.status.Status.{Status}
use Rattle.deadpool_shared.specs.Counts.{IsNewCaller}

-- It ends well where no object is left. Otherwise something is, and its time is over, if it is limited, or there was no
-- memory to wait by; or nothing is, and what has left is still to be dropped.
abbrev pub EndsEmpty : Bool → Result Status DrainError → Type 0
EndsEmpty is_limited (Ok status) = IsEmpty status
EndsEmpty is_limited (Err (Timeout status)) = HasSome status × (is_limited ≡ true)
EndsEmpty is_limited (Err (OutOfMemory status)) = HasSome status
EndsEmpty is_limited (Err (Departing status)) = IsEmpty status

-- the same, where the pool is drained or not, so many still drop what has left it, and the time is over or not
abbrev pub EndsAt : Bool → ℕ → Bool → Result Status DrainError → Type 0
EndsAt is_drained departing is_late (Ok status) = IsEmpty status × (is_drained ≡ true) × (departing ≡ 0)
EndsAt is_drained departing is_late (Err (Timeout status)) =
    HasSome status × (is_drained ≡ false) × (is_late ≡ true)
EndsAt is_drained departing is_late (Err (OutOfMemory status)) =
    HasSome status × (is_drained ≡ false) × (is_late ≡ false)
EndsAt is_drained departing is_late (Err (Departing status)) =
    IsEmpty status × (is_drained ≡ true) × (0 < departing)

-- none of these lines closes the pool
abbrev pub NoneCloses : List Line → Type 0
NoneCloses [] = ⊤
NoneCloses (line ∷ lines) = (line ≢ Next (Owner owner_step.Close owner_reply.Done)) × NoneCloses lines

-- it has closed the pool
abbrev pub IsCloser : Knowing Line → Type 0
IsCloser c = NoneCloses c.mine → ⊥

-- The first poll of a drain closes the pool. A later one makes no such call, as it stays closed.
abbrev pub HasClosed : Bool → Knowing Line → Knowing Line → Type 0
HasClosed true c c' = HasCalled (λ e. e ≡ Owner owner_step.Close owner_reply.Done) c c'
HasClosed false c c' = SeesMore c c'

-- After that a drain that ends asks for the status that it gives, and one that waits on asks for nothing.
abbrev pub HasEnded : Poll (Result Status DrainError) → Knowing Line → Knowing Line → Type 0
HasEnded (Ready ended) c c' = HasCalled (λ e. e ≡ Owner owner_step.Status (owner_reply.Stands (status_in ended))) c c'
HasEnded Pending c c' = c' ≡ c

abbrev pub CallsOfDrain : Bool → Poll (Result Status DrainError) → Knowing Line → Knowing Line → Type 0
CallsOfDrain is_first polled c c' = (closed : Knowing Line) × (HasClosed is_first c closed × HasEnded polled closed c')

-- and after them it knows that all are told
abbrev pub DrainsAndTells : Bool → Poll (Result Status DrainError) → Knowing Line → Knowing Line → Type 0
DrainsAndTells is_first polled c c' = ThenTells (CallsOfDrain is_first polled) c c'

-- One poll of a drain, whose caller is a new one at the first.
abbrev pub PollsDrain : Option (Knowing Line) → Poll (Result Status DrainError) → Option (Knowing Line) → Type 0
PollsDrain (Some c) polled (Some c') = DrainsAndTells false polled c c'
PollsDrain None polled (Some c') = (new : Knowing Line) × (IsNewCaller new × DrainsAndTells true polled new c')
PollsDrain _ polled None = ⊥
