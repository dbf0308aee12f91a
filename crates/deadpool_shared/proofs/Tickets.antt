-- Under which ticket a holder waits by the lines of its caller, after each step at its seat; and a get in the queue
-- waits under the one that it has.
use Rattle.std.proofs.Common.{◌≡◌, ℕ, List, ◌∷◌, [], Option, Some, None, Result, Ok, Err, refl, ap, sym, ◌∙◌}
use Rattle.std.proofs.Common.{inl, inr}
use Rattle.futures.specs.declared.task.Poll.{Poll}
use Rattle.futures.specs.declared.task.Poll.TheVariants as poll
use Rattle.deadpool_chronicle.specs.History.{Knowing}
use Rattle.deadpool_desk.specs.Replies.{NamesOnly, named}
use Rattle.deadpool_desk.specs.declared.step.Reply.{Reply}
use Rattle.deadpool_desk.specs.declared.step.Reply.TheVariants as reply
use Rattle.deadpool_desk.specs.declared.step.Step.{Step}
use Rattle.deadpool_desk.specs.declared.step.Step.TheVariants.{Enter, Ask, Again, Created, Discard, Failed, Refused}
use Rattle.deadpool_desk.specs.declared.step.Step.TheVariants.{Withdraw}
use Rattle.deadpool_history.proofs.Own.{waits_from-snoc}
use Rattle.deadpool_history.specs.Own.{waits_in}
use Rattle.deadpool_history.specs.declared.line.Line.{Line}
use Rattle.deadpool_history.specs.declared.line.Line.TheVariants.{Next}
use Rattle.deadpool_journal.specs.ByNumber.{number_in}
use Rattle.deadpool_journal.specs.declared.entry.Entry.TheVariants.{Made as MadeEntry}
use Rattle.deadpool_lock.specs.Asked.{IsAsking}
use Rattle.deadpool_lock.specs.declared.request.Stage.{Stage as Future}
use Rattle.deadpool_lock.specs.declared.request.Stage.TheVariants as future
use Rattle.deadpool_managed.specs.Get.{Advanced, Advances, AdvancesCreation, AdvancesFrom, AfterChecked, AfterCreated}
use Rattle.deadpool_managed.specs.Get.{AfterCreation, AfterDiscard, AfterPrepared, AfterServed, Made, Makes}
use Rattle.deadpool_managed.specs.Get.{making, no_step}
use Rattle.deadpool_managed.specs.HookLists.{HookLists}
use Rattle.deadpool_managed.specs.Holds.{WaitsUnder, ticket_at}
use Rattle.deadpool_managed.specs.Outside.{May}
use Rattle.deadpool_managed.specs.Slots.{Slot}
use Rattle.deadpool_managed.specs.Stages.{Checking, Creating, Finished, Going, Prepared, Queued, Recycling, Stage}
use Rattle.deadpool_managed.specs.Stages.{Unpolled}
use Rattle.deadpool_managed.specs.Steps.{Lent, PollsAt}
use Rattle.deadpool_managed.specs.declared.calls.Verdict.{Verdict}
use Rattle.deadpool_managed.specs.declared.calls.Verdict.TheVariants as verdict
use Rattle.deadpool_managed.specs.declared.get.Turn.{Turn}
use Rattle.deadpool_parts.specs.declared.config.Timeouts.{Timeouts}
use Rattle.deadpool_parts.specs.declared.moment.Moment.{Moment}
use Rattle.deadpool_parts.specs.declared.moment.Runtime.{Runtime}
use Rattle.deadpool_turns.specs.Tickets.{IsNamed, told}
use Rattle.deadpool_shared.specs.Calling.{CallsFromSeat, CallsIfHeard, CallsOrRefuses, IsSupplied}
use Rattle.deadpool_shared.specs.Counts.{Holder, waits_by}
use Rattle.deadpool_shared.specs.Gets.{WaitsWhile, seat_desk}

supplied_waits : (h supplied : Option Holder) → IsSupplied h supplied → waits_by supplied ≡ waits_by h
supplied_waits (Some h) supplied is = rw is refl
supplied_waits None (Some h) is = rw (is.1.0) refl
supplied_waits None None is = refl

names_own : (step : Step) (waits : Option ℕ) → NamesOnly (λ t. waits ≡ Some t) step → IsNamed (named step) waits
names_own (Ask ticket expired) waits names = names ticket refl
names_own (Withdraw ticket) waits names = names ticket refl
names_own _ waits names = tt

-- a step that may be made at a seat names its maker's own ticket
pub names_at_seat : (step : Step) (entry supplied : Option Holder) (h : Holder) → supplied ≡ Some h
    → IsSupplied entry supplied → NamesOnly (λ t. waits_by entry ≡ Some t) step
    → IsNamed (named step) (waits_in h.caller.mine)
names_at_seat step entry supplied h same from names =
    let waits : waits_in h.caller.mine ≡ waits_by entry = ap waits_by (sym same) ∙ supplied_waits entry supplied from in
    rw waits (names_own step (waits_by entry) names)

-- who was told a ticket waits under it
abbrev WaitsIfTold : Reply → Option ℕ → Type 0
WaitsIfTold answer waits = (t : ℕ) → told answer ≡ Some t → waits ≡ Some t

called_waits : (step : Step) (number : Option ℕ) (answer : Reply) (c c' : Knowing Line)
    → CallsOrRefuses step number answer c c' → WaitsIfTold answer (waits_in c'.mine)
called_waits step number answer c c' (inl called) t is =
    rw (called.1.2, called.1.0) (waits_from-snoc None c.mine (Next (MadeEntry step number answer)) ∙ is)
called_waits step number answer c c' (inr refused) t is =
    absurd (let no : None ≡ Some t = rw (refused.0.1) at is in cc)

heard_waits : (step : Step) (number : Option ℕ) (answer : Reply) (h h' : Option Holder)
    → CallsIfHeard step number answer h h' → WaitsIfTold answer (waits_by h')
heard_waits step number answer (Some h) (Some h') heard =
    let mine : h'.caller.mine ≡ heard.0.mine = ap (λ (k : Knowing Line). k.mine) heard.1.1.0 in
    rw mine (called_waits step number answer h.caller heard.0 heard.1.0)
heard_waits step number answer (Some h) None heard = absurd heard
heard_waits step number answer None (Some h') heard = absurd heard
heard_waits (Enter wait) number reply.Exhausted None None heard = λ t is. is
heard_waits _ number _ None None heard = absurd heard

stepped_waits : (step : Step) (number : Option ℕ) (answer : Reply) (h h' : Option Holder)
    → CallsFromSeat step number answer h h' → WaitsIfTold answer (waits_by h')
stepped_waits step number answer h h' calls = heard_waits step number answer calls.0 h' calls.1.1

module _ {V C R S : Type 0} where
  abbrev pub WaitsOwn : Stage V C R S → Option ℕ → Type 0
  WaitsOwn stage waits = WaitsUnder (λ t. waits ≡ Some t) stage

  -- a get that is not in the queue waits under no ticket
  outside : (stage after : Stage V C R S) (waits : Option ℕ) → after ≡ stage → ticket_at stage ≡ None
      → WaitsOwn after waits
  outside stage after waits is none t named =
      absurd (let no : None ≡ Some t = sym none ∙ ap ticket_at (sym is) ∙ named in cc)

module _ {V E C R S : Type 0} where
  served_waits : (deadline : Option Moment) (answer : Reply) (given : Option (Slot V)) (after : Stage V C R S)
      (turn : Turn V E) (waits : Option ℕ) → AfterServed deadline answer given after turn → WaitsIfTold answer waits
      → WaitsOwn after waits
  served_waits deadline (reply.Waiting ticket) None after turn waits follows is = rw (follows.0) is
  served_waits deadline (reply.Object left) (Some slot) after turn waits follows is =
      outside _ after waits follows.0 refl
  served_waits deadline reply.Create None after turn waits follows is = outside _ after waits follows.0 refl
  served_waits deadline reply.Going None after turn waits follows is = outside _ after waits follows.0 refl
  served_waits deadline reply.Exhausted None after turn waits follows is = outside _ after waits follows.0 refl
  served_waits deadline reply.Closed None after turn waits follows is = outside _ after waits follows.0 refl
  served_waits deadline reply.Unknown None after turn waits follows is = outside _ after waits follows.0 refl
  served_waits deadline reply.Full None after turn waits follows is = outside _ after waits follows.0 refl
  served_waits deadline reply.Expired None after turn waits follows is = outside _ after waits follows.0 refl
  served_waits deadline reply.Crowded None after turn waits follows is = outside _ after waits follows.0 refl
  served_waits deadline reply.OutOfMemory None after turn waits follows is = outside _ after waits follows.0 refl
  served_waits deadline _ _ after turn waits follows is = absurd follows

  created_waits : (value : V) (now : Moment) (answer : Reply) (after : Stage V C R S) (turn : Turn V E)
      (waits : Option ℕ) → AfterCreated value now answer after turn → WaitsOwn after waits
  created_waits value now (reply.Number number) after turn waits follows = outside _ after waits follows.0 refl
  created_waits value now _ after turn waits follows = outside _ after waits follows.0 refl

  creation_waits : (now : Moment) (deadline : Option Moment) (x : Poll (Result V E) × C) (made : Made V)
      (after : Stage V C R S) (turn : Turn V E) (waits : Option ℕ) → AfterCreation now deadline x made after turn
      → WaitsOwn after waits
  creation_waits now deadline (poll.Ready (Ok value), c) (making Created answer None) after turn waits follows =
      created_waits value now answer after turn waits follows
  creation_waits now deadline (poll.Ready (Err e), c) (making Failed answer None) after turn waits follows =
      outside _ after waits follows.0 refl
  creation_waits now deadline (poll.Pending, c) no_step after turn waits follows = outside _ after waits follows.1 refl
  creation_waits now deadline (poll.Pending, c) (making Failed answer None) after turn waits follows =
      outside _ after waits follows.1 refl
  creation_waits now deadline _ _ after turn waits follows = absurd follows

module _ {V E C R S F A : Type 0} (may : May V E C R S F A) (runtime : Option Runtime) (hooks : HookLists F A)
    (now : Moment) (timeouts : Timeouts) where
  begun_waits : (begun : Option C) (deadline : Option Moment) (made : Made V) (after : Stage V C R S) (turn : Turn V E)
      (waits : Option ℕ) → AdvancesCreation may runtime now timeouts.create begun deadline made after turn
      → WaitsOwn after waits
  begun_waits (Some c) deadline made after turn waits (x, (given, follows)) =
      creation_waits now deadline x made after turn waits follows
  begun_waits None deadline made after turn waits (inl refused) = outside _ after waits refused.1.2 refl
  begun_waits None deadline made after turn waits (inr (served, (x, (given, follows)))) =
      creation_waits now _ x made after turn waits follows

  discarded_waits : (value : V) (allowance : Option ℕ) (answer : Reply) (after : Stage V C R S) (turn : Turn V E)
      (waits : Option ℕ) → AfterDiscard may value allowance answer after turn → WaitsOwn after waits
  discarded_waits value allowance reply.Done after turn waits follows = outside _ after waits follows.1 refl
  discarded_waits value allowance _ after turn waits follows = outside _ after waits follows.0 refl

  prepared_waits : (allowance : Option ℕ) (x : Prepared V R S) (made : Made V) (after : Stage V C R S) (turn : Turn V E)
      (waits : Option ℕ) → AfterPrepared may allowance x made after turn → WaitsOwn after waits
  prepared_waits allowance (Prepared.Accepted slot) no_step after turn waits follows =
      outside _ after waits follows.0 refl
  prepared_waits allowance (Prepared.Pending next) no_step after turn waits follows =
      outside _ after waits follows.0 refl
  prepared_waits allowance (Prepared.GivenUp slot) (making Discard answer None) after turn waits follows =
      discarded_waits slot.value.value allowance answer after turn waits follows
  prepared_waits allowance _ _ after turn waits follows = absurd follows

  checked_waits : (slot : Slot V) (x : Verdict S E × V) (made : Made V) (after : Stage V C R S) (turn : Turn V E)
      (waits : Option ℕ) → AfterChecked may slot x made after turn → WaitsOwn after waits
  checked_waits slot (verdict.Accepted, v) no_step after turn waits follows = outside _ after waits follows.0 refl
  checked_waits slot (verdict.Pending at, v) no_step after turn waits follows = outside _ after waits follows.0 refl
  checked_waits slot (verdict.Refused e, v) (making Refused answer None) after turn waits follows =
      outside _ after waits follows.1 refl
  checked_waits slot _ _ after turn waits follows = absurd follows

  -- one advance
  advanced_waits : (stage : Stage V C R S) (made : Made V) (after : Stage V C R S) (turn : Turn V E)
      (h h' : Option Holder) → Makes seat_desk h made h'
      → AdvancesFrom may runtime hooks now timeouts stage made after turn → WaitsOwn after (waits_by h')
  advanced_waits Unpolled no_step after turn h h' makes a = outside _ after _ a.1 refl
  advanced_waits Unpolled (making (Enter wait) answer given) after turn h h' makes a =
      served_waits _ answer given after turn (waits_by h') a.2
      (stepped_waits (Enter wait) (number_in given) answer h h' makes.1.1)
  advanced_waits (Queued ticket deadline) (making (Ask asked expired) answer given) after turn h h' makes a =
      served_waits _ answer given after turn (waits_by h') a.2
      (stepped_waits (Ask asked expired) (number_in given) answer h h' makes.1.1)
  advanced_waits (Going allowance) (making (Again asked) answer given) after turn h h' makes a =
      served_waits _ answer given after turn (waits_by h') a.1
      (stepped_waits (Again asked) (number_in given) answer h h' makes.1.1)
  advanced_waits (Creating begun deadline) made after turn h h' makes a =
      begun_waits begun deadline made after turn (waits_by h') a
  advanced_waits (Recycling preparation allowance) made after turn h h' makes (x, (given, follows)) =
      prepared_waits allowance x made after turn (waits_by h') follows
  advanced_waits (Checking slot at) made after turn h h' makes (x, (given, follows)) =
      checked_waits slot x made after turn (waits_by h') follows
  advanced_waits Finished no_step after turn h h' makes a = outside _ after _ a.0 refl
  advanced_waits _ _ after turn h h' makes a = absurd a

  -- by the last of several
  advances_wait : (steps : List (Advanced (Option Holder) V C R S)) (h h' : Option Holder)
      (stage stage' : Stage V C R S) (turn : Turn V E)
      → Advances seat_desk may runtime hooks now timeouts h stage steps h' stage' turn → WaitsOwn stage' (waits_by h')
  advances_wait [] h h' stage stage' turn a = absurd a
  advances_wait (x ∷ []) h h' stage stage' turn a =
      rw (a.3, a.4) (advanced_waits stage x.made x.stage turn h x.desk a.0 a.1)
  advances_wait (x ∷ y ∷ zs) h h' stage stage' turn a = advances_wait (y ∷ zs) x.desk h' x.stage stage' turn a.2

-- one poll
pub waits_own : {V E C R S F A : Type 0} (lent : Lent V E C R S F A) (h h' : Option Holder)
    (stage stage' : Stage V C R S) (turn : Turn V E) → PollsAt seat_desk lent h stage h' stage' turn
    → WaitsOwn stage' (waits_by h')
waits_own lent h h' stage stage' turn polled =
    advances_wait lent.may lent.runtime lent.hooks lent.now lent.timeouts polled.0 h h' stage stage' turn polled.1

-- while its future asks: before a poll, and after it
pub waits_before : {K V C R S : Type 0} (asking : Future K) (stage : Stage V C R S) (waits : Option ℕ)
    → IsAsking asking → WaitsWhile asking stage waits → WaitsOwn stage waits
waits_before (future.Asking kept) stage waits asks own = own
waits_before future.Refused stage waits asks own = absurd asks
waits_before future.Ended stage waits asks own = absurd asks

pub waits_after : {K V C R S : Type 0} (asking : Future K) (stage : Stage V C R S) (seat place : Option Holder)
    → place ≡ seat → WaitsOwn stage (waits_by seat) → WaitsWhile asking stage (waits_by place)
waits_after (future.Asking kept) stage seat place same own = rw same own
waits_after future.Refused stage seat place same own = tt
waits_after future.Ended stage seat place same own = tt
