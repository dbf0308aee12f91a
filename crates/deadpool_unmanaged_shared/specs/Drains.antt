-- A drain, as contracts see it, how it ends, and which calls it makes for its caller.
use Rattle.std.specs.Prelude.{◌≡◌, ◌<◌, ℕ, Bool, true, false, not, is_some, Option, Some, None, Result, Ok, Err}
use Rattle.futures.specs.declared.task.Poll.{Poll}
use Rattle.futures.specs.declared.task.Poll.TheVariants.{Ready, Pending}
use Rattle.deadpool_lock.specs.Ends.{status_in}
use Rattle.deadpool_lock.specs.declared.ended.DrainError.{DrainError}
use Rattle.deadpool_lock.specs.declared.ended.DrainError.TheVariants.{Timeout, OutOfMemory, Departing}
use Rattle.deadpool_parts.specs.declared.status.Status.{Status}
use Rattle.deadpool_unmanaged.specs.Closing.{HasSome, IsEmpty}
use Rattle.deadpool_unmanaged_journal.specs.declared.entry.Entry.{Entry}
use Rattle.deadpool_unmanaged_journal.specs.declared.entry.Entry.TheVariants.{Owner}
use Rattle.deadpool_unmanaged_journal.specs.declared.owner_step.OwnerReply.TheVariants as owner_reply
use Rattle.deadpool_unmanaged_journal.specs.declared.owner_step.OwnerStep.TheVariants as owner_step
use Rattle.deadpool_unmanaged_shared.specs.Calling.{IsSupplied}

-- whether it waits for some time only, and its caller, from its first poll on
pub record Drain (C : Type 0) : Type 0 where
  pub is_limited : Bool
  pub caller : Option C

-- it was not polled yet
abbrev pub draining : {C : Type 0} → Bool → Drain C
draining is_limited = record { is_limited = is_limited; caller = None }

-- It ends well where no object is left. Otherwise one is, and its time is over, if it is limited, or there was no
-- memory to wait by; or none is, and one that has left is still to be dropped.
abbrev pub EndsEmpty : Bool → Result Status DrainError → Type 0
EndsEmpty is_limited (Ok status) = IsEmpty status
EndsEmpty is_limited (Err (Timeout status)) = HasSome status × (is_limited ≡ true)
EndsEmpty is_limited (Err (OutOfMemory status)) = HasSome status
EndsEmpty is_limited (Err (Departing status)) = IsEmpty status

-- the same, where the pool is drained or not, so many still drop what has left it, and the time is over or not
abbrev pub EndsAt : Bool → ℕ → Bool → Result Status DrainError → Type 0
EndsAt is_drained departing is_late (Ok status) = IsEmpty status × (is_drained ≡ true) × (departing ≡ 0)
EndsAt is_drained departing is_late (Err (Timeout status)) =
    HasSome status × (is_drained ≡ false) × (is_late ≡ true)
EndsAt is_drained departing is_late (Err (OutOfMemory status)) =
    HasSome status × (is_drained ≡ false) × (is_late ≡ false)
EndsAt is_drained departing is_late (Err (Departing status)) =
    IsEmpty status × (is_drained ≡ true) × (0 < departing)

-- The first relation says what a caller has seen since, and the other what it knows of a step that it made, by its
-- entry.
module _ {T C : Type 0} (keeps : C → C → Type 0) (calls : Entry T → C → C → Type 0) where
  -- The first poll of a drain closes the pool. A later one makes no such call, as it stays closed.
  abbrev pub HasClosed : Bool → C → C → Type 0
  HasClosed true c c' = calls (Owner owner_step.Close owner_reply.Done) c c'
  HasClosed false c c' = keeps c c'

  -- After that a drain that ends asks for the status that it gives, and one that waits on asks for nothing.
  abbrev pub HasEnded : Poll (Result Status DrainError) → C → C → Type 0
  HasEnded (Ready ended) c c' = calls (Owner owner_step.Status (owner_reply.Stands (status_in ended))) c c'
  HasEnded Pending c c' = c' ≡ c

  abbrev pub CallsOfDrain : Bool → Poll (Result Status DrainError) → C → C → Type 0
  CallsOfDrain is_first polled c c' = (closed : C) × (HasClosed is_first c closed × HasEnded polled closed c')

-- one poll of a drain between threads
abbrev pub PollsDrainFrom : {T C : Type 0} → ((C → C → Type 0) → C → C → Type 0) → (C → C → Type 0) → (C → Type 0)
    → (Entry T → C → C → Type 0) → Drain C → Poll (Result Status DrainError) → Drain C → Type 0
PollsDrainFrom tells keeps is_new calls drain polled left =
    (c : _) × ((c' : _)
    × (IsSupplied is_new drain.caller c × tells (CallsOfDrain keeps calls (not (is_some drain.caller)) polled) c c'
    × (left ≡ record drain { caller = Some c' })))
