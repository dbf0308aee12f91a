-- A future that asks something, as contracts see it, how it begins, and what a poll of it is.
use Rattle.std.specs.Prelude.{◌≡◌, ◌⊎◌, ⊤, true, Option, Some, None, IsSomeAnd}
use Rattle.futures.specs.Task.{Wakes}
use Rattle.futures.specs.declared.task.context.Context.{Context}
use Rattle.futures.specs.declared.task.Poll.{Poll}
use Rattle.futures.specs.declared.task.Poll.TheVariants.{Ready, Pending}
use Rattle.futures.specs.declared.task.waker.Waker.{Waker}
use Rattle.deadpool_lock.specs.declared.registration.Registration.{Registration}
use Rattle.deadpool_lock.specs.declared.request.Stage.{Stage}
use Rattle.deadpool_lock.specs.declared.request.Stage.TheVariants.{Asking, Refused, Ended}

-- The waker is that of the task that polls. Or there was no memory for one, and the task is polled again.
abbrev pub IsOf : Option Waker → Context → Type 0
IsOf waker cx = (cx.lacks_waker ≡ true) ⊎ IsSomeAnd waker (λ w. Wakes w cx)

-- whose handle it has, how far it is, what it asks, and what it hears by
pub record Asked (S K Q : Type 0) : Type 0 where
  pub shared : Option S
  pub stage : Stage K
  pub request : Q
  pub registration : Registration

module _ {S K Q : Type 0} where
  -- it asks this of what is shared, and was not polled yet
  abbrev pub Asks : S → K → Q → Asked S K Q → Type 0
  Asks shared kept asked future =
      (future.shared ≡ Some shared) × (future.stage ≡ Asking kept) × (future.request ≡ asked)

  -- no memory was found for what it would keep, and its first poll says so
  abbrev pub IsRefused : Option S → Q → Asked S K Q → Type 0
  IsRefused shared asked future = (future.shared ≡ shared) × (future.stage ≡ Refused) × (future.request ≡ asked)

  -- With a handle of its own it asks, or it was refused and has none. One that borrows a handle has it in either case.
  abbrev pub OwnAsks : S → K → Q → Asked S K Q → Type 0
  OwnAsks shared kept asked future = Asks shared kept asked future ⊎ IsRefused None asked future

  abbrev pub BorrowingAsks : S → K → Q → Asked S K Q → Type 0
  BorrowingAsks shared kept asked future = Asks shared kept asked future ⊎ IsRefused (Some shared) asked future

-- one that asks has a handle
abbrev pub HasHandle : {S K : Type 0} → Option S → Stage K → Type 0
HasHandle None (Asking kept) = ⊥
HasHandle _ _ = ⊤

module _ {K Q O : Type 0} where
  -- It gives what its request may give, or what says that it was refused. One that has ended gives nothing.
  abbrev pub Gives : (Q → K → O → Type 0) → (Q → O → Type 0) → Stage K → Q → O → Type 0
  Gives gives refuses (Asking kept) asked output = gives asked kept output
  Gives gives refuses Refused asked output = refuses asked output
  Gives gives refuses Ended asked output = ⊥

  -- One poll of a future that asks is one of its request. Once it has ended its request stays as it is.
  abbrev pub PollsAsked : {S : Type 0} → (S → Q → Poll O → Q → Type 0) → Option S → Stage K → Q → Poll O → Q → Type 0
  PollsAsked polls (Some shared) (Asking kept) asked turn asked' = polls shared asked turn asked'
  PollsAsked polls shared Ended asked turn asked' = asked' ≡ asked
  PollsAsked polls _ _ asked turn asked' = ⊤

module _ {S K Q L : Type 0} where
  -- What is left of a request that was given up. One that had ended leaves nothing.
  abbrev pub IsLeft : (S → Q → L → Type 0) → Option S → Stage K → Q → Option L → Type 0
  IsLeft cancels (Some shared) (Asking kept) asked (Some left) = cancels shared asked left
  IsLeft cancels shared (Asking kept) asked left = ⊥
  IsLeft cancels shared _ asked left = left ≡ None

abbrev pub IsAsking : {K : Type 0} → Stage K → Type 0
IsAsking (Asking kept) = ⊤
IsAsking _ = ⊥

abbrev pub IfRefused : {K : Type 0} → Stage K → Type 0 → Type 0
IfRefused Refused P = P
IfRefused _ P = ⊤

module _ {K O : Type 0} where
  -- One that asks keeps what is kept for its output while it is pending. One that was refused says so at once. A poll
  -- that gives an output is its last; one that has ended stays so.
  abbrev pub Turns : Stage K → Poll O → Stage K → Type 0
  Turns Ended (Ready output) after = ⊥
  Turns before (Ready output) after = after ≡ Ended
  Turns Refused Pending after = ⊥
  Turns before Pending after = after ≡ before
