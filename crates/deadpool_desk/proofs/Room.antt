-- What each step leaves of the bound on those that wait, and of the room for objects; and so of a queue that has room
-- for all that may wait.
use Rattle.deadpool_desk.proofs.Names.{◌≡◌, ℕ, ◌+◌, ◌-◌, ◌≤◌, refl, arith, Option, Some, None}
use Rattle.deadpool_desk.proofs.Names.{DeskState, Serves, Slot, places, settled, unqueued}
use Rattle.deadpool_desk.proofs.Names.{Bool, true, false, Ok, Retained}
use Rattle.std.proofs.Common.{Err, Result, if◌then◌else◌}
use Rattle.std.specs.declared.alloc.AllocError.{AllocError}
use Rattle.deadpool_desk.specs.Closing.{EachStep}
use Rattle.deadpool_desk.specs.CoreState.{CoreState, HasRoom}
use Rattle.deadpool_desk.specs.CoreSteps.{MakesForOwner, Queues, Retains, Steps}
use Rattle.deadpool_desk.specs.DeskSteps.{DoesForOwner, GivesUp, resized}
use Rattle.deadpool_desk.specs.declared.owner_step.OwnerReply.{OwnerReply}
use Rattle.deadpool_desk.specs.declared.owner_step.OwnerReply.TheVariants as owner_reply
use Rattle.deadpool_desk.specs.declared.owner_step.OwnerStep.{OwnerStep}
use Rattle.deadpool_desk.specs.declared.owner_step.OwnerStep.TheVariants as owner
use Rattle.deadpool_desk.specs.declared.retain.Retainer.{Ghosts as RetainerOf}
use Rattle.deadpool_desk.specs.declared.step.Held.TheVariants as held
use Rattle.deadpool_desk.specs.declared.step.Reply.{Reply}
use Rattle.deadpool_desk.specs.declared.step.Reply.TheVariants.{Object, Create, Going, Exhausted, Closed, Full, Waiting}
use Rattle.deadpool_desk.specs.declared.step.Reply.TheVariants.{Crowded, OutOfMemory, Expired, Done, Number, Kept}
use Rattle.deadpool_desk.specs.declared.step.Reply.TheVariants.{Detach, Dropped, Taken, Unknown}
use Rattle.deadpool_desk.specs.declared.step.Step.{Step}
use Rattle.deadpool_desk.specs.declared.step.Step.TheVariants.{Enter, Ask, Again, Discard, Created, Failed, Refused}
use Rattle.deadpool_desk.specs.declared.step.Step.TheVariants.{Back, Withdraw, Cancel, Take}

-- the bound on those that wait is the same, and there is room for as many objects
abbrev KeepsBounds : {O : Type 0} → DeskState O → DeskState O → Type 0
KeepsBounds d d' = (d'.max_waiting ≡ d.max_waiting) × (d'.reserve ≡ d.reserve)

bound_of : {O : Type 0} (opens : Bool) (limit : ℕ) (d : DeskState O)
    → (if opens then resized limit d else d).max_waiting ≡ d.max_waiting
bound_of true limit d = refl
bound_of false limit d = refl

module _ {O : Type 0} (d : DeskState O) where
  given_up_keeps : (count : ℕ) (reply : Reply) (without d' : DeskState O) → KeepsBounds d without
      → GivesUp d count reply without d' → KeepsBounds d d'
  given_up_keeps count Done without d' same h = rw h.1 same
  given_up_keeps count Unknown without d' same h = rw h.1 (refl, refl)
  given_up_keeps count _ without d' same h = absurd h

  served_keeps : (e : DeskState O) → KeepsBounds d e → (allowance : Option ℕ) (object : Option O) (reply : Reply)
      (d' : DeskState O) → Serves e allowance object reply d' → KeepsBounds d d'
  served_keeps e same allowance (Some slot) (Object left) d' h = rw h.2 same
  served_keeps e same allowance None Going d' h = rw h.2 same
  served_keeps e same allowance None Create d' h = rw h.2 same
  served_keeps e same allowance None Exhausted d' h = rw h.2 same
  served_keeps e same allowance _ _ d' h = absurd h

pub step_keeps : {O : Type 0} → EachStep {O = O} (λ _ _. KeepsBounds)
step_keeps d d' (Enter wait) None Closed h = rw h.1 (refl, refl)
step_keeps d d' (Enter wait) None Full h = rw h.3 (refl, refl)
step_keeps d d' (Enter wait) None Crowded h = rw h.4 (refl, refl)
step_keeps d d' (Enter wait) None (Waiting ticket) h = rw h.5 (refl, refl)
step_keeps d d' (Enter wait) None OutOfMemory h = rw h.4 (refl, refl)
step_keeps d d' (Enter wait) object reply h = served_keeps d d (refl, refl) None object reply d' h.2
step_keeps d d' (Ask ticket expired) None Unknown h = rw h.1 (refl, refl)
step_keeps d d' (Ask ticket expired) None Closed h = rw h.2 (refl, refl)
step_keeps d d' (Ask ticket expired) None Expired h = rw h.4 (refl, refl)
step_keeps d d' (Ask ticket expired) None (Waiting same) h = rw h.5 (refl, refl)
step_keeps d d' (Ask ticket expired) object reply h =
    served_keeps d (unqueued ticket d) (refl, refl) None object reply d' h.2
step_keeps d d' (Again allowance) None Unknown h = rw h.1 (refl, refl)
step_keeps d d' (Again allowance) object reply h =
    served_keeps d (record d { going = d.going - 1 }) (refl, refl) allowance object reply d' h.1
step_keeps d d' Discard None reply h = given_up_keeps d d.outside reply
    (record d { outside = d.outside - 1; going = d.going + 1 }) d' (refl, refl) h
step_keeps d d' Created None Unknown h = rw h.1 (refl, refl)
step_keeps d d' Created None (Number number) h = rw h.2 (refl, refl)
step_keeps d d' Failed None reply h = given_up_keeps d d.creations reply
    (settled (record d { creations = d.creations - 1 })) d' (refl, refl) h
step_keeps d d' Refused None reply h = given_up_keeps d d.outside reply
    (settled (record d { outside = d.outside - 1 })) d' (refl, refl) h
step_keeps d d' Back (Some slot) Unknown h = rw h.1 (refl, refl)
step_keeps d d' Back (Some slot) Dropped h = rw h.2 (refl, refl)
step_keeps d d' Back (Some slot) Detach h = rw h.3 (refl, refl)
step_keeps d d' Back (Some slot) Kept h = rw h.3 (refl, refl)
step_keeps d d' Take None Unknown h = rw h.1 (refl, refl)
step_keeps d d' Take None (Taken detach) h = rw h.2 (refl, refl)
step_keeps d d' (Withdraw ticket) None Unknown h = rw h.1 (refl, refl)
step_keeps d d' (Withdraw ticket) None Done h = rw h.1 (refl, refl)
step_keeps d d' (Cancel held.Place) None reply h = given_up_keeps d d.going reply
    (settled (record d { going = d.going - 1 })) d' (refl, refl) h
step_keeps d d' (Cancel held.Creation) None reply h = given_up_keeps d d.creations reply
    (settled (record d { creations = d.creations - 1 })) d' (refl, refl) h
step_keeps d d' (Cancel held.Object) None reply h = given_up_keeps d d.outside reply
    (settled (record d { outside = d.outside - 1 })) d' (refl, refl) h
step_keeps d d' _ _ _ h = absurd h

owner_keeps : {O : Type 0} (d d' : DeskState O) (step : OwnerStep) (reply : OwnerReply) → DoesForOwner d step reply d'
    → d'.max_waiting ≡ d.max_waiting
owner_keeps d d' owner.Status (owner_reply.Stands status) h = rw h.1 refl
owner_keeps d d' (owner.Resize limit) owner_reply.Done h = rw h (bound_of d.is_open limit d)
owner_keeps d d' (owner.Resize limit) owner_reply.OutOfMemory h = rw h.2 refl
owner_keeps d d' owner.Close owner_reply.Done h = rw h refl
owner_keeps d d' owner.CloneHandle owner_reply.Done h = rw h.1 refl
owner_keeps d d' owner.CloneHandle owner_reply.NoHandle h = rw h.1 refl
owner_keeps d d' owner.DropHandle owner_reply.Done h = rw h.1 refl
owner_keeps d d' owner.DropHandle owner_reply.NoHandle h = rw h.1 refl
owner_keeps d d' owner.Upgrade owner_reply.Done h = rw h.1 refl
owner_keeps d d' owner.Upgrade owner_reply.NoHandle h = rw h.1 refl
owner_keeps d d' _ _ h = absurd h

module _ {T : Type 0} (c c' : CoreState T) where
  -- no step takes room away
  room_stays : (step : Step) (reply : Reply) → Queues c step reply c' → c.queue_room ≤ c'.queue_room
  room_stays (Enter wait) (Waiting ticket) h = h.2.0
  room_stays (Enter wait) OutOfMemory h = h.1.0
  room_stays _ _ h = omega (arith, h)

  pub step_keeps_room : (step : Step) (object : Option (Slot T)) (reply : Reply) → Steps c step object reply c'
      → HasRoom c → HasRoom c'
  step_keeps_room step object reply h roomy =
      let same = step_keeps c.desk c'.desk step object reply h.0 in
      omega (arith, same.0, same.1, room_stays step reply h.2, roomy)

  pub owner_keeps_room : (step : OwnerStep) (reply : OwnerReply) → MakesForOwner c step reply c'
      → c'.desk.reserve ≤ c.desk.reserve → HasRoom c → HasRoom c'
  owner_keeps_room step reply h few roomy =
      omega (arith, owner_keeps c.desk c'.desk step reply h.0, few, h.2, roomy)

  pub nobody_refused : (wait : Bool) (object : Option (Slot T)) → HasRoom c → places c.desk ≤ c.desk.reserve
      → Steps c (Enter wait) object OutOfMemory c' → ⊥
  nobody_refused wait None roomy held h =
      let some = h.0.3 in
      let full = h.2.0 in
      absurd (omega (arith, some, full, roomy, held))
  nobody_refused wait (Some slot) roomy held h = absurd h.0.2

module _ {T R L : Type 0} (asks : RetainerOf R T L) (c c' : CoreState T) where
  pub retain_keeps_room : (r r' : R) (result : Result (Retained L) AllocError) → Retains asks c r result c' r'
      → HasRoom c → HasRoom c'
  retain_keeps_room r r' (Ok given) h roomy =
      let bound : c'.desk.max_waiting ≡ c.desk.max_waiting = rw h.0.3 refl in
      let same : c'.desk.reserve ≡ c.desk.reserve = rw h.0.3 refl in
      omega (arith, bound, same, h.2, roomy)
  retain_keeps_room r r' (Err e) h roomy =
      let bound : c'.desk.max_waiting ≡ c.desk.max_waiting = rw h.0.1 refl in
      let same : c'.desk.reserve ≡ c.desk.reserve = rw h.0.1 refl in
      omega (arith, bound, same, h.2, roomy)
