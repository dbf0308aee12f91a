-- A pool with room for all that may wait keeps it, and refuses none of them for want of memory.
use Rattle.std.proofs.Common.{◌≡◌, ℕ, ◌-◌, ◌<◌, ◌≤◌, ◌^◌, min, Bool, true, false, Option, Some, None, refl, arith}
use Rattle.std.proofs.lemmas.Bool.{le-leb, lt-ltb}
use Rattle.std.specs.Prelude.{length}
use Rattle.deadpool_desk.specs.CoreState.{CoreState, listed}
use Rattle.deadpool_desk.specs.CoreSteps.{Steps}
use Rattle.deadpool_desk.specs.DeskState.{DeskState, places, would_queue}
use Rattle.deadpool_desk.specs.declared.slot.Slot.{Slot}
use Rattle.deadpool_desk.specs.declared.step.Reply.{Reply}
use Rattle.deadpool_desk.specs.declared.step.Reply.TheVariants.{OutOfMemory, Waiting}
use Rattle.deadpool_desk.specs.declared.step.Held.TheVariants.{Place, Creation, Object}
use Rattle.deadpool_desk.specs.declared.step.Step.{Step}
use Rattle.deadpool_desk.specs.declared.step.Step.TheVariants.{Enter, Ask, Again, Discard, Created, Failed, Refused}
use Rattle.deadpool_desk.specs.declared.step.Step.TheVariants.{Back, Withdraw, Cancel, Take}
use Rattle.deadpool_shared.specs.Locked.{may_wait}

joins_queue : {O : Type 0} (d : DeskState O) → d.is_open ≡ true → d.limit ≤ places d
    → length d.waiting < d.max_waiting → would_queue d ≡ true
joins_queue d opens full few =
    rw (opens, le-leb d.limit (places d) full, lt-ltb (length d.waiting) d.max_waiting few) refl

module _ {T : Type 0} where
  -- a get that has to join the queue finds room in it
  abbrev pub FindsRoom : CoreState T → Step → Type 0
  FindsRoom c step = may_wait step ≡ true → would_queue c.desk ≡ true → listed c < min c.queue_room (2 ^ 63 - 1)

  module _ (c c' : CoreState T) where
    -- it then is not refused
    pub nobody_refused : (step : Step) (object : Option (Slot T)) → FindsRoom c step
        → Steps c step object OutOfMemory c'
        → ⊥
    nobody_refused (Enter wait) None finds h =
        let some = finds h.0.2 (joins_queue c.desk h.0.0 h.0.1 h.0.3) in
        let full = h.2.0 in
        absurd (omega (arith, some, full))
    nobody_refused (Enter wait) (Some slot) finds h = absurd h.0.2
    nobody_refused (Ask ticket expired) None finds h = absurd h.0.2
    nobody_refused (Ask ticket expired) (Some slot) finds h = absurd h.0.2
    nobody_refused (Again allowance) None finds h = absurd h.0.1
    nobody_refused (Again allowance) (Some slot) finds h = absurd h.0.1
    nobody_refused Discard None finds h = absurd h.0
    nobody_refused Created None finds h = absurd h.0
    nobody_refused Failed None finds h = absurd h.0
    nobody_refused Refused None finds h = absurd h.0
    nobody_refused Back (Some slot) finds h = absurd h.0
    nobody_refused Take None finds h = absurd h.0
    nobody_refused (Withdraw ticket) None finds h = absurd h.0
    nobody_refused (Cancel Place) None finds h = absurd h.0
    nobody_refused (Cancel Creation) None finds h = absurd h.0
    nobody_refused (Cancel Object) None finds h = absurd h.0
    nobody_refused _ _ finds h = absurd h.0

    -- and the room is as it was
    pub same_room : (step : Step) (object : Option (Slot T)) (reply : Reply) → FindsRoom c step
        → Steps c step object reply c' → c'.queue_room ≡ c.queue_room
    same_room (Enter wait) None (Waiting ticket) finds h =
        let some = finds h.0.2 (joins_queue c.desk h.0.0 h.0.1 h.0.3) in
        h.2.2.1 (omega (arith, some))
    same_room (Enter wait) (Some slot) (Waiting ticket) finds h = absurd h.0.2
    same_room (Enter wait) object OutOfMemory finds h = absurd (nobody_refused (Enter wait) object finds h)
    same_room _ _ _ finds h = h.2
