-- A get that is served: by the reply it is past the queue, and stands where the reply says, however long it may wait.
use Rattle.deadpool_managed.proofs.Words.{◌≡◌, ℕ, ◌<◌, ◌-◌, Bool, true, Option, Some, None, Moment, Slot, Stage, Turn}
use Rattle.deadpool_managed.proofs.Words.{DeskState, places, Serves, Does, AfterServed, IsReplyTo, IsServing, IsReport}
use Rattle.deadpool_managed.proofs.Words.{Reply, Step, arith}
use Rattle.deadpool_desk.specs.Replies.{Leaves}

-- the replies to the steps that ask for a place
pub enter_serving : (wait : Bool) (reply : Reply) → IsReplyTo (Step.Enter wait) reply → IsServing reply
enter_serving wait (Reply.Object left) fits = tt
enter_serving wait Reply.Create fits = tt
enter_serving wait Reply.Going fits = tt
enter_serving wait Reply.Exhausted fits = tt
enter_serving wait Reply.Closed fits = tt
enter_serving wait Reply.Full fits = tt
enter_serving wait Reply.Crowded fits = tt
enter_serving wait (Reply.Waiting ticket) fits = tt
enter_serving wait Reply.OutOfMemory fits = tt
enter_serving wait _ fits = absurd fits

pub ask_serving : (ticket : ℕ) (expired : Bool) (reply : Reply) → IsReplyTo (Step.Ask ticket expired) reply
    → IsServing reply
ask_serving ticket expired (Reply.Object left) fits = tt
ask_serving ticket expired Reply.Create fits = tt
ask_serving ticket expired Reply.Going fits = tt
ask_serving ticket expired Reply.Exhausted fits = tt
ask_serving ticket expired Reply.Closed fits = tt
ask_serving ticket expired (Reply.Waiting same) fits = tt
ask_serving ticket expired Reply.Expired fits = tt
ask_serving ticket expired Reply.Unknown fits = tt
ask_serving ticket expired _ fits = absurd fits

pub again_serving : (allowance : Option ℕ) (reply : Reply) → IsReplyTo (Step.Again allowance) reply → IsServing reply
again_serving allowance (Reply.Object left) fits = tt
again_serving allowance Reply.Create fits = tt
again_serving allowance Reply.Going fits = tt
again_serving allowance Reply.Exhausted fits = tt
again_serving allowance Reply.Unknown fits = tt
again_serving (Some allowance) _ fits = absurd fits
again_serving None _ fits = absurd fits

-- by a reply to a report nothing comes into the hand
pub reported : {O : Type 0} (step : Step) (reply : Reply) (hand : Option O) → IsReport step → IsReplyTo step reply
    → Leaves reply None hand → hand ≡ None
reported step Reply.Done hand report fits left = left
reported step Reply.Unknown hand report fits left = left
reported step (Reply.Number number) hand report fits left = left
reported Step.Discard _ hand report fits left = absurd fits
reported Step.Created _ hand report fits left = absurd fits
reported Step.Failed _ hand report fits left = absurd fits
reported Step.Refused _ hand report fits left = absurd fits
reported (Step.Withdraw ticket) _ hand report fits left = absurd fits
reported (Step.Cancel what) _ hand report fits left = absurd fits
reported _ _ hand report fits left = absurd report

module _ {V : Type 0} where
  -- whatever serves a get whose place is in no count is a reply to one that goes on
  pub again_serves : (c d : DeskState (Slot V)) (allowance : Option ℕ) (reply : Reply) (given : Option (Slot V))
      → 0 < c.going → Serves (record c { going = c.going - 1 }) allowance given reply d
      → Does c (Step.Again allowance) given reply d
  again_serves c d allowance (Reply.Object left) (Some slot) some serves = (some, serves)
  again_serves c d allowance Reply.Going None some serves = (some, serves)
  again_serves c d allowance Reply.Create None some serves = (some, serves)
  again_serves c d allowance Reply.Exhausted None some serves = (some, serves)
  again_serves c d allowance _ (Some slot) some serves = absurd serves
  again_serves c d allowance _ None some serves = absurd serves

  -- and to one that enters where a place is free
  pub enter_serves : (core c : DeskState (Slot V)) (wait : Bool) (reply : Reply) (given : Option (Slot V))
      → core.is_open ≡ true → places core < core.limit → Serves core None given reply c
      → Does core (Step.Enter wait) given reply c
  enter_serves core c wait (Reply.Object left) (Some slot) opens free serves = (opens, free, serves)
  enter_serves core c wait Reply.Going None opens free serves = (opens, free, serves)
  enter_serves core c wait Reply.Create None opens free serves = (opens, free, serves)
  enter_serves core c wait Reply.Exhausted None opens free serves = (opens, free, serves)
  enter_serves core c wait _ (Some slot) opens free serves = absurd serves
  enter_serves core c wait _ None opens free serves = absurd serves

  pub enter_fits : (core c : DeskState (Slot V)) (wait : Bool) (reply : Reply) (given : Option (Slot V))
      → Serves core None given reply c → IsReplyTo (Step.Enter wait) reply
  enter_fits core c wait (Reply.Object left) (Some slot) serves = tt
  enter_fits core c wait Reply.Going None serves = tt
  enter_fits core c wait Reply.Create None serves = tt
  enter_fits core c wait Reply.Exhausted None serves = tt
  enter_fits core c wait _ (Some slot) serves = absurd serves
  enter_fits core c wait _ None serves = absurd serves

  pub again_fits : (core c : DeskState (Slot V)) (more : ℕ) (reply : Reply) (given : Option (Slot V))
      → Serves core (Some more) given reply c → IsReplyTo (Step.Again (Some more)) reply
  again_fits core c more (Reply.Object left) (Some slot) serves = serves.1
  again_fits core c more Reply.Going None serves = tt
  again_fits core c more Reply.Create None serves = tt
  again_fits core c more Reply.Exhausted None serves = tt
  again_fits core c more _ (Some slot) serves = absurd serves
  again_fits core c more _ None serves = absurd serves

  -- the step of a get that enters when a place is free
  pub entered_free : (d d' : DeskState (Slot V)) (wait : Bool) (reply : Reply) (given : Option (Slot V))
      → d.is_open ≡ true → places d < d.limit → Does d (Step.Enter wait) given reply d'
      → Serves d None given reply d'
  entered_free d d' wait Reply.Closed None opens free h = absurd (let shut = h.0 in cc)
  entered_free d d' wait Reply.Full None opens free h = absurd (let full = h.1 in omega (arith, full, free))
  entered_free d d' wait Reply.Crowded None opens free h = absurd (let full = h.1 in omega (arith, full, free))
  entered_free d d' wait (Reply.Waiting ticket) None opens free h = absurd (let full = h.1 in omega (arith, full, free))
  entered_free d d' wait Reply.OutOfMemory None opens free h = absurd (let full = h.1 in omega (arith, full, free))
  entered_free d d' wait reply (Some slot) opens free h = h.2
  entered_free d d' wait reply None opens free h = h.2

  -- so is one that goes on, with a place
  pub again_served : (c d : DeskState (Slot V)) (allowance : Option ℕ) (reply : Reply) (given : Option (Slot V))
      → 0 < c.going → Does c (Step.Again allowance) given reply d
      → Serves (record c { going = c.going - 1 }) allowance given reply d
  again_served c d allowance Reply.Unknown None some does = absurd (let none = does.0 in omega (arith, none, some))
  again_served c d allowance reply (Some slot) some does = does.1
  again_served c d allowance reply None some does = does.1

module _ {V E C R S : Type 0} where
  -- a get that is served waits for nothing, so its deadline is not asked for
  pub served_until : (d c : DeskState (Slot V)) (allowance : Option ℕ) (reply : Reply) (given : Option (Slot V))
      (after : Stage V C R S) (turn : Turn V E) (deadline : Option Moment)
      → Serves d allowance given reply c → AfterServed None reply given after turn
      → AfterServed deadline reply given after turn
  served_until d c allowance (Reply.Object left) (Some slot) after turn deadline serves h = h
  served_until d c allowance Reply.Going None after turn deadline serves h = h
  served_until d c allowance Reply.Create None after turn deadline serves h = h
  served_until d c allowance Reply.Exhausted None after turn deadline serves h = h
  served_until d c allowance _ (Some slot) after turn deadline serves h = absurd serves
  served_until d c allowance _ None after turn deadline serves h = absurd serves
