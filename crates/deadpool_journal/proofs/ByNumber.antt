-- A step of a desk, by number, is the same step of the desk by number.
use Rattle.deadpool_journal.proofs.Words.{◌≡◌, ◌≢◌, ℕ, ◌+◌, ◌-◌, Bool, true, false, List, [], ◌∷◌, length, map, refl}
use Rattle.deadpool_journal.proofs.Words.{sym, ap, ◌∙◌, Option, Some, None, drop, if◌then◌else◌, ◌==◌, max, option_map}
use Rattle.deadpool_journal.proofs.Words.{length-map, map-append, take-map, drop-map, slice_get-map, most_handles}
use Rattle.deadpool_journal.proofs.Words.{QueueMode, Fifo, Lifo, DeskState, next_idle, other_idle, settled, status_of}
use Rattle.deadpool_journal.proofs.Words.{Serves, unqueued, given_up, resized, Slot, number_of, number_in, numbered}
use Rattle.deadpool_journal.proofs.Words.{Does, DoesForOwner, GivesUp, OwnerReply, OwnerStep, Reply, Step}
use Rattle.std.specs.Option.{option_or}
use Rattle.deadpool_desk.specs.declared.owner_step.OwnerReply.TheVariants as owner_reply
use Rattle.deadpool_desk.specs.declared.owner_step.OwnerStep.TheVariants as owner
use Rattle.deadpool_desk.specs.declared.step.Held.TheVariants as held
use Rattle.deadpool_desk.specs.declared.step.Reply.TheVariants.{Object, Create, Going, Exhausted, Closed, Full, Waiting}
use Rattle.deadpool_desk.specs.declared.step.Reply.TheVariants.{Crowded, OutOfMemory, Expired, Done, Number, Kept}
use Rattle.deadpool_desk.specs.declared.step.Reply.TheVariants.{Detach}
use Rattle.deadpool_desk.specs.declared.step.Reply.TheVariants.{Dropped, Taken, Unknown}
use Rattle.deadpool_desk.specs.declared.step.Step.TheVariants.{Enter, Ask, Again, Discard, Created, Failed, Refused}
use Rattle.deadpool_desk.specs.declared.step.Step.TheVariants.{Back, Withdraw, Cancel, Take}

module _ {T : Type 0} where
  next_numbered : (mode : QueueMode) (idle : List (Slot T)) (slot : Slot T) → next_idle mode idle ≡ Some slot
      → next_idle mode (map number_of idle) ≡ Some slot.number
  next_numbered Fifo idle slot h = slice_get-map number_of idle 0 ∙ ap (option_map number_of) h
  next_numbered Lifo idle slot h =
      rw (length-map idle (number_of {T = T}))
      (slice_get-map number_of idle (length idle - 1) ∙ ap (option_map number_of) h)

  other_numbered : (mode : QueueMode) (idle : List (Slot T))
      → other_idle mode (map number_of idle) ≡ map number_of (other_idle mode idle)
  other_numbered Fifo idle = drop-map number_of 1 idle
  other_numbered Lifo idle = rw (length-map idle (number_of {T = T})) (take-map number_of (length idle - 1) idle)

  pub some_numbered : (idle : List (Slot T)) → idle ≢ [] → map number_of idle ≢ []
  some_numbered [] h = absurd (h refl)
  some_numbered (x ∷ xs) h = λ e. cc

  pub or_numbered : (was hand : Option (Slot T))
      → option_or (number_in was) (number_in hand) ≡ number_in (option_or was hand)
  or_numbered (Some slot) hand = refl
  or_numbered None hand = refl

  serves_numbered : (d d' : DeskState (Slot T)) (allowance : Option ℕ) (o : Option (Slot T)) (reply : Reply)
      → Serves d allowance o reply d' → Serves (numbered d) allowance (number_in o) reply (numbered d')
  serves_numbered d d' allowance (Some slot) (Object left) h = (
    next_numbered d.mode d.idle slot h.0,
    rw (length-map d.idle (number_of {T = T})) h.1,
    ap numbered h.2 ∙ ap (λ (i : List ℕ). record (numbered d) { idle = i; outside = d.outside + 1 })
        (sym (other_numbered d.mode d.idle)),
  )
  serves_numbered d d' allowance None Going h =
      (some_numbered d.idle h.0, rw (length-map d.idle (number_of {T = T})) h.1, ap numbered h.2)
  serves_numbered d d' allowance None Create h = (ap (map number_of) h.0, h.1, ap numbered h.2)
  serves_numbered d d' allowance None Exhausted h = (ap (map number_of) h.0, h.1, ap numbered h.2)
  serves_numbered d d' allowance _ _ h = absurd h

  gives_up_numbered : (d without d' : DeskState (Slot T)) (count : ℕ) (reply : Reply) → GivesUp d count reply without d'
      → GivesUp (numbered d) count reply (numbered without) (numbered d')
  gives_up_numbered d without d' count Done h = (h.0, ap numbered h.1)
  gives_up_numbered d without d' count Unknown h = (h.0, ap numbered h.1)
  gives_up_numbered d without d' count _ h = absurd h

  pub does_numbered : (d d' : DeskState (Slot T)) (step : Step) (o : Option (Slot T)) (reply : Reply)
      → Does d step o reply d' → Does (numbered d) step (number_in o) reply (numbered d')
  does_numbered d d' (Enter wait) None Closed h = (h.0, ap numbered h.1)
  does_numbered d d' (Enter wait) None Full h = (h.0, h.1, h.2, ap numbered h.3)
  does_numbered d d' (Enter wait) None Crowded h = (h.0, h.1, h.2, h.3, ap numbered h.4)
  does_numbered d d' (Enter wait) None (Waiting ticket) h = (h.0, h.1, h.2, h.3, h.4, ap numbered h.5)
  does_numbered d d' (Enter wait) None OutOfMemory h = (h.0, h.1, h.2, h.3, ap numbered h.4)
  does_numbered d d' (Enter wait) o reply h = (h.0, h.1, serves_numbered d d' None o reply h.2)
  does_numbered d d' (Ask ticket expired) None Unknown h = (h.0, ap numbered h.1)
  does_numbered d d' (Ask ticket expired) None Closed h = (h.0, h.1, ap numbered h.2)
  does_numbered d d' (Ask ticket expired) None Expired h = (h.0, h.1, h.2, h.3, ap numbered h.4)
  does_numbered d d' (Ask ticket expired) None (Waiting same) h = (h.0, h.1, h.2, h.3, h.4, ap numbered h.5)
  does_numbered d d' (Ask ticket expired) o reply h =
      (h.0, h.1, serves_numbered (unqueued ticket d) d' None o reply h.2)
  does_numbered d d' (Again allowance) None Unknown h = (h.0, ap numbered h.1)
  does_numbered d d' (Again allowance) o reply h =
      (h.0, serves_numbered (record d { going = d.going - 1 }) d' allowance o reply h.1)
  does_numbered d d' Discard None reply h =
      gives_up_numbered d (record d { outside = d.outside - 1; going = d.going + 1 }) d' d.outside reply h
  does_numbered d d' Created None Unknown h = (h.0, ap numbered h.1)
  does_numbered d d' Created None (Number number) h = (h.0, h.1, ap numbered h.2)
  does_numbered d d' Failed None reply h =
      gives_up_numbered d (settled (record d { creations = d.creations - 1 })) d' d.creations reply h
  does_numbered d d' Refused None reply h =
      gives_up_numbered d (settled (record d { outside = d.outside - 1 })) d' d.outside reply h
  does_numbered d d' Back (Some slot) Unknown h = (h.0, ap numbered h.1)
  does_numbered d d' Back (Some slot) Dropped h = (h.0, h.1, ap numbered h.2)
  does_numbered d d' Back (Some slot) Detach h =
      (h.0, h.1, rw (length-map d.idle (number_of {T = T})) h.2, ap numbered h.3)
  does_numbered d d' Back (Some slot) Kept h = (
    h.0,
    h.1,
    rw (length-map d.idle (number_of {T = T})) h.2,
    ap numbered h.3 ∙ ap (λ (i : List ℕ). settled (record (numbered d) { idle = i; outside = d.outside - 1 }))
        (map-append number_of d.idle (slot ∷ [])),
  )
  does_numbered d d' Take None Unknown h = (h.0, ap numbered h.1)
  does_numbered d d' Take None (Taken detach) h = (h.0, h.1, ap numbered h.2)
  does_numbered d d' (Withdraw ticket) None Unknown h = (h.0, ap numbered h.1)
  does_numbered d d' (Withdraw ticket) None Done h = (h.0, ap numbered h.1)
  does_numbered d d' (Cancel held.Place) None reply h =
      gives_up_numbered d (settled (record d { going = d.going - 1 })) d' d.going reply h
  does_numbered d d' (Cancel held.Creation) None reply h =
      gives_up_numbered d (settled (record d { creations = d.creations - 1 })) d' d.creations reply h
  does_numbered d d' (Cancel held.Object) None reply h =
      gives_up_numbered d (settled (record d { outside = d.outside - 1 })) d' d.outside reply h
  does_numbered d d' _ _ _ h = absurd h

  resized_numbered : (limit : ℕ) (d : DeskState (Slot T)) → numbered (resized limit d) ≡ resized limit (numbered d)
  resized_numbered limit d =
      let gone = given_up limit d in
      let same : map number_of (drop gone d.idle) ≡ drop gone (map number_of d.idle) =
      sym (drop-map number_of gone d.idle) in
      rw (length-map d.idle (number_of {T = T}))
      (ap (λ (i : List ℕ). settled (record (numbered d) { limit = limit; reserve = max d.reserve limit; idle = i }))
      same)

  cond_numbered : (b : Bool) (d e : DeskState (Slot T))
      → numbered (if b then d else e) ≡ (if b then numbered d else numbered e)
  cond_numbered true d e = refl
  cond_numbered false d e = refl

  none_or : (b : Bool) (idle : List (Slot T))
      → map number_of (if b then [] else idle) ≡ (if b then [] else map number_of idle)
  none_or true idle = refl
  none_or false idle = refl

  pub does_for_owner_numbered : (d d' : DeskState (Slot T)) (step : OwnerStep) (reply : OwnerReply)
      → DoesForOwner d step reply d' → DoesForOwner (numbered d) step reply (numbered d')
  does_for_owner_numbered d d' owner.Status (owner_reply.Stands status) h =
      let same : status_of d ≡ status_of (numbered d) = rw (length-map d.idle (number_of {T = T})) refl in
      (h.0 ∙ same, ap numbered h.1)
  does_for_owner_numbered d d' (owner.Resize limit) owner_reply.Done h =
      ap numbered h ∙ cond_numbered d.is_open (resized limit d) d
      ∙ ap (λ (e : DeskState ℕ). if d.is_open then e else numbered d) (resized_numbered limit d)
  does_for_owner_numbered d d' (owner.Resize limit) owner_reply.OutOfMemory h = (h.0, h.1, ap numbered h.2)
  does_for_owner_numbered d d' owner.Close owner_reply.Done h = ap numbered h
  does_for_owner_numbered d d' owner.DropHandle owner_reply.Done h =
      let left = if d.handles == most_handles then most_handles else d.handles - 1 in (
        h.0,
        ap numbered h.1 ∙ ap (λ (i : List ℕ). record (numbered d) { handles = left; idle = i })
            (none_or (left == 0) d.idle),
      )
  does_for_owner_numbered d d' owner.DropHandle owner_reply.NoHandle h = (h.0, ap numbered h.1)
  does_for_owner_numbered d d' owner.CloneHandle owner_reply.Done h = (h.0, ap numbered h.1)
  does_for_owner_numbered d d' owner.CloneHandle owner_reply.NoHandle h = (h.0, ap numbered h.1)
  does_for_owner_numbered d d' owner.Upgrade owner_reply.Done h = (h.0, ap numbered h.1)
  does_for_owner_numbered d d' owner.Upgrade owner_reply.NoHandle h = (h.0, ap numbered h.1)
  does_for_owner_numbered d d' _ _ h = absurd h
