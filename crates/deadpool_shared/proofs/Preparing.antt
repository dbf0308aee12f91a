-- The object that a get prepares, and gives in the end, is the one that it has by the lines of its caller.
use Rattle.std.proofs.Props.{props}
use Rattle.std.proofs.Common.{◌≡◌, ◌⊎◌, ℕ, List, ◌∷◌, [], Option, Some, None, Result, Ok, Err, refl}
use Rattle.std.proofs.Common.{inl, inr}
use Rattle.std.proofs.lemmas.Bool.{cases_Bool}
use Rattle.std.specs.Bool.{⊤}
use Rattle.std.specs.Prelude.{drop}
use Rattle.std.specs.declared.time.Duration.{Duration}
use Rattle.futures.specs.declared.task.Poll.{Poll}
use Rattle.futures.specs.declared.task.Poll.TheVariants as poll
use Rattle.deadpool_parts.specs.Moments.{deadline_after, is_reached, lacks_runtime}
use Rattle.deadpool_parts.specs.Program.{Always, Ask, Gives, Program, Return, ◌>>=◌}
use Rattle.deadpool_parts.specs.declared.errors.PoolError.{PoolError}
use Rattle.deadpool_parts.specs.declared.errors.RecycleError.{RecycleError}
use Rattle.deadpool_parts.specs.declared.moment.Moment.{Moment}
use Rattle.deadpool_parts.specs.declared.moment.Runtime.{Runtime}
use Rattle.deadpool_parts.specs.declared.config.Timeouts.{Timeouts}
use Rattle.deadpool_managed.specs.Calls.{ask_hooks, start}
use Rattle.deadpool_managed.specs.Get.{Advanced, Advances, AdvancesFrom, AfterChecked, AfterCreated, AfterCreation}
use Rattle.deadpool_managed.specs.Get.{AdvancesCreation, AfterPrepared, AfterServed, Made, Makes}
use Rattle.deadpool_managed.specs.Get.{PollsOver, ended_by, making, no_step}
use Rattle.deadpool_managed.specs.HookLists.{HookLists}
use Rattle.deadpool_managed.specs.Outside.{Answer, Asking, May, Question}
use Rattle.deadpool_managed.specs.Prepare.{begin_recycling, object_of, poll_recycling, post_recycle, post_recycled}
use Rattle.deadpool_managed.specs.Prepare.{pre_recycled, prepare, recycled, with_value}
use Rattle.deadpool_managed.specs.Slots.{Slot}
use Rattle.deadpool_managed.specs.Stages.{Checking, Creating, Finished, Going, Preparation, PreRecycle, Prepared}
use Rattle.deadpool_managed.specs.Stages.{PostRecycle, Queued, Recycle, Recycling, Stage, Unpolled}
use Rattle.deadpool_managed.specs.Steps.{Lent, PollsAt}
use Rattle.deadpool_managed.specs.declared.calls.Position.{Position}
use Rattle.deadpool_managed.specs.declared.calls.Verdict.{Verdict}
use Rattle.deadpool_managed.specs.declared.calls.Verdict.TheVariants as verdict
use Rattle.deadpool_managed.specs.declared.get.Turn.{Turn}
use Rattle.deadpool_managed.specs.declared.get.Turn.TheVariants.{More, Done}
use Rattle.deadpool_managed.specs.declared.kept.Kept.{Kept}
use Rattle.deadpool_desk.specs.declared.step.Reply.{Reply}
use Rattle.deadpool_desk.specs.declared.step.Reply.TheVariants as reply
use Rattle.deadpool_desk.specs.declared.step.Step.TheVariants.{Enter, Ask as AskStep, Again, Created, Discard}
use Rattle.deadpool_desk.specs.declared.step.Step.TheVariants.{Failed, Refused}
use Rattle.deadpool_journal.specs.ByNumber.{number_in}
use Rattle.deadpool_turns.specs.Holders.{gets, given_by, has_after}
use Rattle.deadpool_lock.specs.Asked.{IsAsking}
use Rattle.deadpool_lock.specs.declared.request.Stage.{Stage as Future}
use Rattle.deadpool_lock.specs.declared.request.Stage.TheVariants as future
use Rattle.deadpool_managed.specs.Holds.{held_after}
use Rattle.deadpool_managed.specs.Phases.{turn_of}
use Rattle.deadpool_managed.specs.declared.work.Came.{Came}
use Rattle.deadpool_managed.specs.declared.work.Came.TheVariants as came
use Rattle.deadpool_shared.specs.Counts.{Holder, IsHeldBy, held_by}
use Rattle.deadpool_shared.specs.Gets.{PreparesOwn, PreparesWhile, held_while, seat_desk}
use Rattle.deadpool_shared.proofs.Owning.{has_stepped}

module _ {Q A B : Type 0} {Ans : Q → Type 0} (P : B → Type 0) where
  always_then : (p : Program Q Ans A) (f : A → Program Q Ans B) → ((a : A) → Always P (f a)) → Always P (p >>= f)
  always_then (Return a) f each = each a
  always_then (Ask q k) f each = λ a. always_then (k a) f each

always_gives : {Q B : Type 0} {Ans : Q → Type 0} (P : B → Type 0) (may : (q : Q) → Ans q → Type 0)
    (p : Program Q Ans B) (b : B) → Always P p → Gives may p b → P b
always_gives P may (Return a) b always gives = rw gives at always
always_gives P may (Ask q k) b always gives = always_gives P may (k gives.0) b (always gives.0) gives.1.1

module _ (V R S : Type 0) where
  -- it is the object with this number of which something came
  abbrev IsOf : ℕ → Prepared V R S → Type 0
  IsOf n (Prepared.Accepted slot) = slot.number ≡ n
  IsOf n (Prepared.GivenUp slot) = slot.number ≡ n
  IsOf n (Prepared.Pending preparation) = (object_of preparation).number ≡ n

-- A preparation leaves an object its number, whatever is answered.
module _ (V E C R S F A : Type 0) (now : Moment) (runtime : Option Runtime) (timeout : Option Duration)
    (hooks : HookLists F A) where
  abbrev Keeps : ℕ → Asking V E C R S F A (Prepared V R S) → Type 0
  Keeps n p = Always {Q = Question V C R S F A} {Answer = Answer V E C R S F A} (IsOf V R S n) p

  post_recycled_keeps : (slot : Slot V) (x : Verdict S E × V) → IsOf V R S slot.number (post_recycled now slot x)
  post_recycled_keeps slot (verdict.Accepted, v) = refl
  post_recycled_keeps slot (verdict.Refused e, v) = refl
  post_recycled_keeps slot (verdict.Pending at, v) = refl

  post_recycle_keeps : (slot : Slot V) (at : Position S) → Keeps slot.number (post_recycle now hooks slot at)
  post_recycle_keeps slot at =
      always_then {Q = Question V C R S F A} {Ans = Answer V E C R S F A} (IsOf V R S slot.number)
      (ask_hooks at.accepted (drop at.accepted hooks.post_recycle) at.begun slot.value.value slot.value.metrics)
      (λ x. Return (post_recycled now slot x)) (post_recycled_keeps slot)

  recycled_keeps : (deadline : Option Moment) (slot : Slot V)
      (x : Poll (Result (Unit {0}) (RecycleError E)) × R × V)
      → Keeps slot.number (recycled now hooks deadline slot x)
  recycled_keeps deadline slot (poll.Ready (Ok u), r, v) = post_recycle_keeps (with_value v slot) start
  recycled_keeps deadline slot (poll.Ready (Err e), r, v) = refl
  recycled_keeps deadline slot (poll.Pending, r, v) =
      elim (cases_Bool (is_reached deadline now)) [ inl late ↦ rw late refl | inr early ↦ rw early refl ]

  poll_recycling_keeps : (deadline : Option Moment) (r : R) (slot : Slot V)
      → Keeps slot.number (poll_recycling now hooks deadline r slot)
  poll_recycling_keeps deadline r slot = λ x. recycled_keeps deadline slot x

  begin_recycling_keeps : (slot : Slot V) → Keeps slot.number (begin_recycling now runtime timeout hooks slot)
  begin_recycling_keeps slot =
      elim (cases_Bool (lacks_runtime runtime timeout)) [
        | inl lacks ↦ rw lacks refl
        | inr has ↦ rw has (λ b. poll_recycling_keeps (deadline_after now timeout) b.0 (with_value b.1 slot))
      ]

  pre_recycled_keeps : (slot : Slot V) (x : Verdict S E × V)
      → Keeps slot.number (pre_recycled now runtime timeout hooks slot x)
  pre_recycled_keeps slot (verdict.Accepted, v) = begin_recycling_keeps (with_value v slot)
  pre_recycled_keeps slot (verdict.Refused e, v) = refl
  pre_recycled_keeps slot (verdict.Pending at, v) = refl

  prepare_keeps : (preparation : Preparation V R S)
      → Keeps (object_of preparation).number (prepare now runtime timeout hooks preparation)
  prepare_keeps (PreRecycle slot at) =
      always_then {Q = Question V C R S F A} {Ans = Answer V E C R S F A} (IsOf V R S slot.number)
      (ask_hooks at.accepted (drop at.accepted hooks.pre_recycle) at.begun slot.value.value slot.value.metrics)
      (pre_recycled now runtime timeout hooks slot) (pre_recycled_keeps slot)
  prepare_keeps (Recycle slot r deadline) = poll_recycling_keeps deadline r slot
  prepare_keeps (PostRecycle slot at) = post_recycle_keeps slot at

module _ {V E C R S : Type 0} where
  -- what it has after a turn: the object that is given, or the one that it prepares
  abbrev pub HasAfter : Stage V C R S → Turn V E → Option ℕ → Type 0
  HasAfter stage (Done (Ok slot)) has = has ≡ Some slot.number
  HasAfter stage (Done (Err cause)) has = ⊤
  HasAfter stage _ has = PreparesOwn stage has

  served_has : (deadline : Option Moment) (answer : Reply) (given : Option (Slot V)) (after : Stage V C R S)
      (turn : Turn V E) (before has : Option ℕ) → AfterServed deadline answer given after turn
      → has ≡ has_after (gets (given_by (number_in given) answer)) before → HasAfter after turn has
  served_has deadline (reply.Object left) (Some slot) after turn before has follows is = rw (follows.0, follows.1) is
  served_has deadline reply.Create None after turn before has follows is = rw (follows.0, follows.1) tt
  served_has deadline reply.Going None after turn before has follows is = rw (follows.0, follows.1) tt
  served_has deadline (reply.Waiting ticket) None after turn before has follows is = rw (follows.0, follows.1) tt
  served_has deadline reply.Exhausted None after turn before has follows is = rw (follows.0, follows.1) tt
  served_has deadline reply.Closed None after turn before has follows is = rw (follows.0, follows.1) tt
  served_has deadline reply.Unknown None after turn before has follows is = rw (follows.0, follows.1) tt
  served_has deadline reply.Full None after turn before has follows is = rw (follows.0, follows.1) tt
  served_has deadline reply.Expired None after turn before has follows is = rw (follows.0, follows.1) tt
  served_has deadline reply.Crowded None after turn before has follows is = rw (follows.0, follows.1) tt
  served_has deadline reply.OutOfMemory None after turn before has follows is = rw (follows.0, follows.1) tt
  served_has deadline _ _ after turn before has follows is = absurd follows

  ended_has : (cause : PoolError E) (answer : Reply) (after : Stage V C R S) (turn : Turn V E) (has : Option ℕ)
      → turn ≡ ended_by cause answer → HasAfter after turn has
  ended_has cause reply.Done after turn has is = rw is tt
  ended_has cause _ after turn has is = rw is tt

  created_has : (value : V) (now : Moment) (answer : Reply) (after : Stage V C R S) (turn : Turn V E)
      (h h' : Option Holder) → Makes (seat_desk {T = Kept V}) h (making Created answer None) h'
      → AfterCreated value now answer after turn → HasAfter after turn (held_by h')
  created_has value now (reply.Number number) after turn h h' makes follows =
      rw (follows.0, follows.1) (has_stepped Created None (reply.Number number) h h' makes.1.1)
  created_has value now _ after turn h h' makes follows = rw (follows.0, follows.1) tt

  creation_has : (now : Moment) (deadline : Option Moment) (x : Poll (Result V E) × C) (made : Made V)
      (after : Stage V C R S) (turn : Turn V E) (h h' : Option Holder) → Makes seat_desk h made h'
      → AfterCreation now deadline x made after turn → HasAfter after turn (held_by h')
  creation_has now deadline (poll.Ready (Ok value), c) (making Created answer None) after turn h h' makes follows =
      created_has value now answer after turn h h' makes follows
  creation_has now deadline (poll.Ready (Err e), c) (making Failed answer None) after turn h h' makes follows =
      ended_has _ answer after turn (held_by h') follows.1
  creation_has now deadline (poll.Pending, c) no_step after turn h h' makes follows = rw (follows.1, follows.2) tt
  creation_has now deadline (poll.Pending, c) (making Failed answer None) after turn h h' makes follows =
      ended_has _ answer after turn (held_by h') follows.2
  creation_has now deadline _ _ after turn h h' makes follows = absurd follows

module _ {V E C R S F A : Type 0} (may : May V E C R S F A) (runtime : Option Runtime) (hooks : HookLists F A)
    (now : Moment) (timeouts : Timeouts) where
  begun_has : (begun : Option C) (deadline : Option Moment) (made : Made V) (after : Stage V C R S) (turn : Turn V E)
      (h h' : Option Holder) → Makes seat_desk h made h'
      → AdvancesCreation may runtime now timeouts.create begun deadline made after turn
      → HasAfter after turn (held_by h')
  begun_has (Some c) deadline made after turn h h' makes (x, (given, follows)) =
      creation_has now deadline x made after turn h h' makes follows
  begun_has None deadline made after turn h h' makes (inl refused) =
      ended_has _ refused.0 after turn (held_by h') refused.1.3
  begun_has None deadline made after turn h h' makes (inr (served, (x, (given, follows)))) =
      creation_has now (deadline_after now timeouts.create) x made after turn h h' makes follows

  prepared_has : (preparation : Preparation V R S) (allowance : Option ℕ) (x : Prepared V R S) (made : Made V)
      (after : Stage V C R S) (turn : Turn V E) (h h' : Option Holder) → IsOf V R S (object_of preparation).number x
      → held_by h ≡ Some (object_of preparation).number → Makes seat_desk h made h'
      → AfterPrepared may allowance x made after turn → HasAfter after turn (held_by h')
  prepared_has preparation allowance (Prepared.Accepted slot) no_step after turn h h' same own makes follows =
      rw (follows.0, follows.1, makes, same) own
  prepared_has preparation allowance (Prepared.Pending next) no_step after turn h h' same own makes follows =
      rw (follows.0, follows.1, makes, same) own
  prepared_has preparation allowance (Prepared.GivenUp slot) (making Discard reply.Done None) after turn h h' same
      own makes follows =
      rw (follows.1, follows.2) tt
  prepared_has preparation allowance (Prepared.GivenUp slot) (making Discard _ None) after turn h h' same
      own makes follows =
      rw (follows.0, follows.1) tt
  prepared_has preparation allowance _ _ after turn h h' same own makes follows = absurd follows

  checked_has : (slot : Slot V) (x : Verdict S E × V) (made : Made V) (after : Stage V C R S) (turn : Turn V E)
      (h h' : Option Holder) → held_by h ≡ Some slot.number → Makes seat_desk h made h'
      → AfterChecked may slot x made after turn → HasAfter after turn (held_by h')
  checked_has slot (verdict.Accepted, v) no_step after turn h h' own makes follows =
      rw (follows.0, follows.1, makes) own
  checked_has slot (verdict.Pending at, v) no_step after turn h h' own makes follows =
      rw (follows.0, follows.1, makes) own
  checked_has slot (verdict.Refused e, v) (making Refused answer None) after turn h h' own makes follows =
      ended_has _ answer after turn (held_by h') follows.2
  checked_has slot _ _ after turn h h' own makes follows = absurd follows

  -- one advance
  advanced_has : (stage : Stage V C R S) (made : Made V) (after : Stage V C R S) (turn : Turn V E)
      (h h' : Option Holder) → Makes seat_desk h made h'
      → AdvancesFrom may runtime hooks now timeouts stage made after turn → PreparesOwn stage (held_by h)
      → HasAfter after turn (held_by h')
  advanced_has Unpolled no_step after turn h h' makes a own = rw (a.1, a.2) tt
  advanced_has Unpolled (making (Enter wait) answer given) after turn h h' makes a own =
      served_has _ answer given after turn (held_by h) (held_by h') a.2
      (has_stepped (Enter wait) (number_in given) answer h h' makes.1.1)
  advanced_has (Queued ticket deadline) (making (AskStep named expired) answer given) after turn h h' makes a own =
      served_has _ answer given after turn (held_by h) (held_by h') a.2
      (has_stepped (AskStep named expired) (number_in given) answer h h' makes.1.1)
  advanced_has (Going allowance) (making (Again asked) answer given) after turn h h' makes a own =
      served_has _ answer given after turn (held_by h) (held_by h') a.1
      (has_stepped (Again asked) (number_in given) answer h h' makes.1.1)
  advanced_has (Creating begun deadline) made after turn h h' makes a own =
      begun_has begun deadline made after turn h h' makes a
  advanced_has (Recycling preparation allowance) made after turn h h' makes (x, (given, follows)) own =
      prepared_has preparation allowance x made after turn h h'
      (always_gives (IsOf V R S (object_of preparation).number) may _ x
      (prepare_keeps V E C R S F A now runtime timeouts.recycle hooks preparation) given)
      own makes follows
  advanced_has (Checking slot at) made after turn h h' makes (x, (given, follows)) own =
      checked_has slot x made after turn h h' own makes follows
  advanced_has Finished no_step after turn h h' makes a own = rw (a.0, a.1) tt
  advanced_has _ _ after turn h h' makes a own = absurd a

  advances_have : (steps : List (Advanced (Option Holder) V C R S)) (h h' : Option Holder)
      (stage stage' : Stage V C R S) (turn : Turn V E)
      → Advances seat_desk may runtime hooks now timeouts h stage steps h' stage' turn → PreparesOwn stage (held_by h)
      → HasAfter stage' turn (held_by h')
  advances_have [] h h' stage stage' turn a own = absurd a
  advances_have (x ∷ []) h h' stage stage' turn a own =
      rw (a.3, a.4) (advanced_has stage x.made x.stage turn h x.desk a.0 a.1 own)
  advances_have (x ∷ y ∷ zs) h h' stage stage' turn a own =
      advances_have (y ∷ zs) x.desk h' x.stage stage' turn a.2
      (advanced_has stage x.made x.stage More h x.desk a.0 a.1 own)

  polled_has : (h h' : Option Holder) (stage stage' : Stage V C R S) (turn : Turn V E)
      → PollsOver seat_desk may runtime hooks now timeouts h stage h' stage' turn → PreparesOwn stage (held_by h)
      → HasAfter stage' turn (held_by h')
  polled_has h h' stage stage' turn polled own = advances_have polled.0 h h' stage stage' turn polled.1 own

-- one poll
pub polled_at : {V E C R S F A : Type 0} (lent : Lent V E C R S F A) (h h' : Option Holder)
    (stage stage' : Stage V C R S) (turn : Turn V E) → PollsAt seat_desk lent h stage h' stage' turn
    → PreparesOwn stage (held_by h) → HasAfter stage' turn (held_by h')
polled_at lent h h' stage stage' turn polled own =
    polled_has lent.may lent.runtime lent.hooks lent.now lent.timeouts h h' stage stage' turn polled own

-- what a get prepares before a poll, while it asks
pub own_while : {K V C R S : Type 0} (asking : Future K) (stage : Stage V C R S) (has : Option ℕ) → IsAsking asking
    → PreparesWhile asking stage has → PreparesOwn stage has
own_while (future.Asking kept) stage has asks own = own
own_while future.Refused stage has asks own = absurd asks
own_while future.Ended stage has asks own = absurd asks

-- and after one that leaves it asking
pub waits_on : {K V E C R S : Type 0} (asking : Future K) (comes : Came E) (slot : Option (Slot V))
    (stage : Stage V C R S) (seat place : Option Holder) → IsAsking asking
    → (comes ≡ came.More) ⊎ (comes ≡ came.Pending) → place ≡ seat
    → IsHeldBy seat (held_after stage (turn_of comes slot))
    → HasAfter stage (turn_of comes slot) (held_by seat)
    → IsHeldBy place (held_while asking stage) × PreparesWhile asking stage (held_by place)
waits_on (future.Asking kept) comes slot stage seat place asks (inl more) same holds own =
    rw same (rw more at holds, rw more at own)
waits_on (future.Asking kept) comes slot stage seat place asks (inr pending) same holds own =
    rw same (rw pending at holds, rw pending at own)
waits_on future.Refused comes slot stage seat place asks goes same holds own = absurd asks
waits_on future.Ended comes slot stage seat place asks goes same holds own = absurd asks

-- the object that a get gives
pub gives_own : {V E C R S : Type 0} (comes : Came E) (place : Option (Slot V)) (slot : Slot V) (stage : Stage V C R S)
    (has : Option ℕ) → comes ≡ came.Given → place ≡ Some slot → HasAfter stage (turn_of comes place) has
    → has ≡ Some slot.number
gives_own comes place slot stage has given is own = rw (given, is) at own

-- a fact of which there is one
pub own_once : (has : Option ℕ) (n : ℕ) (p q : has ≡ Some n) → p ≡ q
own_once has n = let once : IsProp (has ≡ Some n) = hlevel props in once
