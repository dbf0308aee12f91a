-- A step of a pool, by name, is the same step of the pool by name.
use Rattle.deadpool_unmanaged_journal.proofs.Words.{◌≡◌, ◌-◌, Bool, true, false, List, [], ◌∷◌, length, map, refl}
use Rattle.deadpool_unmanaged_journal.proofs.Words.{sym, ap, ◌∙◌, Option, Some, None, if◌then◌else◌, ◌==◌, option_map}
use Rattle.deadpool_unmanaged_journal.proofs.Words.{length-map, map-append, take-map, slice_get-map, most_handles}
use Rattle.deadpool_unmanaged_journal.proofs.Words.{State, last_idle, other_idle, settled, status_of, handed, stored}
use Rattle.deadpool_unmanaged_journal.proofs.Words.{without_get, without_add, one_handle_less, by_name, name_in, Does}
use Rattle.deadpool_unmanaged_journal.proofs.Words.{DoesForOwner, OwnerReply, OwnerStep, Reply, Step, option_or}
use Rattle.deadpool_unmanaged.specs.declared.step.Reply.TheVariants.{Object, Stored, Closed, Full, Waiting, OutOfMemory}
use Rattle.deadpool_unmanaged.specs.declared.step.Reply.TheVariants.{Crowded, Expired, Done, Kept, Dropped, Taken}
use Rattle.deadpool_unmanaged.specs.declared.step.Reply.TheVariants.{Unknown}
use Rattle.deadpool_unmanaged.specs.declared.step.Step.TheVariants.{GetEnter, GetAsk, GetCancel, AddEnter, AddAsk}
use Rattle.deadpool_unmanaged.specs.declared.step.Step.TheVariants.{AddCancel, Back, Take}
use Rattle.deadpool_unmanaged_journal.specs.declared.owner_step.OwnerReply.TheVariants as owner_reply
use Rattle.deadpool_unmanaged_journal.specs.declared.owner_step.OwnerStep.TheVariants as owner

module _ {T O : Type 0} (name : T → O) where
  pub or_named : (was hand : Option T)
      → option_or (name_in name was) (name_in name hand) ≡ name_in name (option_or was hand)
  or_named (Some value) hand = refl
  or_named None hand = refl

  last_named : (idle : List T) (value : T) → last_idle idle ≡ Some value
      → last_idle (map name idle) ≡ Some (name value)
  last_named idle value h =
      rw (length-map idle name) (slice_get-map name idle (length idle - 1) ∙ ap (option_map name) h)

  none_named : (idle : List T) → idle ≡ [] → map name idle ≡ []
  none_named idle h = ap (map name) h

  settled_named : (d : State T) → by_name name (settled d) ≡ settled (by_name name d)
  settled_named d = rw (length-map d.idle name) refl

  handed_named : (d : State T) → by_name name (handed d) ≡ handed (by_name name d)
  handed_named d =
      let same : map name (other_idle d.idle) ≡ other_idle (map name d.idle) =
      rw (length-map d.idle name) (sym (take-map name (length d.idle - 1) d.idle)) in
      ap (λ (i : List O). record (by_name name d) { idle = i; outside = (handed d).outside }) same

  stored_named : (value : T) (d : State T) → by_name name (stored value d) ≡ stored (name value) (by_name name d)
  stored_named value d = ap (λ (i : List O). record (by_name name d) { idle = i }) (map-append name d.idle (value ∷ []))

  -- what is settled is given, or stored, before
  gave : (d d' : State T) → d' ≡ settled (handed d) → by_name name d' ≡ settled (handed (by_name name d))
  gave d d' h = ap (by_name name) h ∙ settled_named (handed d) ∙ ap settled (handed_named d)

  took : (value : T) (d d' : State T) → d' ≡ settled (stored value d)
      → by_name name d' ≡ settled (stored (name value) (by_name name d))
  took value d d' h = ap (by_name name) h ∙ settled_named (stored value d) ∙ ap settled (stored_named value d)

  left : (d d' : State T) → d' ≡ settled d → by_name name d' ≡ settled (by_name name d)
  left d d' h = ap (by_name name) h ∙ settled_named d

  pub does_named : (d d' : State T) (step : Step) (o : Option T) (reply : Reply)
      → Does d step o reply d' → Does (by_name name d) step (name_in name o) reply (by_name name d')
  does_named d d' (GetEnter wait) None Closed h = (h.0, ap (by_name name) h.1)
  does_named d d' (GetEnter wait) (Some value) Object h =
      (h.0, rw (length-map d.idle name) h.1, last_named d.idle value h.2, gave d d' h.3)
  does_named d d' (GetEnter wait) None Full h =
      (h.0, rw (length-map d.idle name) h.1, h.2, ap (by_name name) h.3)
  does_named d d' (GetEnter wait) None Crowded h =
      (h.0, rw (length-map d.idle name) h.1, h.2, h.3, ap (by_name name) h.4)
  does_named d d' (GetEnter wait) None (Waiting ticket) h =
      (h.0, rw (length-map d.idle name) h.1, h.2, h.3, h.4, ap (by_name name) h.5)
  does_named d d' (GetEnter wait) None OutOfMemory h =
      (h.0, rw (length-map d.idle name) h.1, h.2, h.3, ap (by_name name) h.4)
  does_named d d' (GetAsk ticket expired) None Unknown h = (h.0, ap (by_name name) h.1)
  does_named d d' (GetAsk ticket expired) None Closed h =
      (h.0, λ is_open. ((h.1 is_open).0, none_named d.idle (h.1 is_open).1), ap (by_name name) h.2)
  does_named d d' (GetAsk ticket expired) (Some value) Object h =
      (h.0, h.1, last_named d.idle value h.2, gave (without_get ticket d) d' h.3)
  does_named d d' (GetAsk ticket expired) None Expired h =
      (h.0, h.1, h.2, h.3, left (without_get ticket d) d' h.4)
  does_named d d' (GetAsk ticket expired) None (Waiting same) h =
      (h.0, h.1, h.2, h.3, h.4, ap (by_name name) h.5)
  does_named d d' (GetCancel ticket) None Unknown h = (h.0, ap (by_name name) h.1)
  does_named d d' (GetCancel ticket) None Done h = (h.0, left (without_get ticket d) d' h.1)
  does_named d d' (AddEnter wait) (Some value) Closed h = (h.0, ap (by_name name) h.1)
  does_named d d' (AddEnter wait) (Some value) Stored h =
      (h.0, rw (length-map d.idle name) h.1, took value d d' h.2)
  does_named d d' (AddEnter wait) (Some value) Full h =
      (h.0, rw (length-map d.idle name) h.1, h.2, ap (by_name name) h.3)
  does_named d d' (AddEnter wait) (Some value) Crowded h =
      (h.0, rw (length-map d.idle name) h.1, h.2, h.3, ap (by_name name) h.4)
  does_named d d' (AddEnter wait) (Some value) (Waiting ticket) h =
      (h.0, rw (length-map d.idle name) h.1, h.2, h.3, h.4, ap (by_name name) h.5)
  does_named d d' (AddEnter wait) (Some value) OutOfMemory h =
      (h.0, rw (length-map d.idle name) h.1, h.2, h.3, ap (by_name name) h.4)
  does_named d d' (AddAsk ticket) (Some value) Unknown h = (h.0, ap (by_name name) h.1)
  does_named d d' (AddAsk ticket) (Some value) Closed h = (h.0, h.1, ap (by_name name) h.2)
  does_named d d' (AddAsk ticket) (Some value) Stored h =
      (h.0, h.1, took value (without_add ticket d) d' h.2)
  does_named d d' (AddAsk ticket) (Some value) (Waiting same) h =
      (h.0, h.1, h.2, h.3, ap (by_name name) h.4)
  does_named d d' (AddCancel ticket) None Unknown h = (h.0, ap (by_name name) h.1)
  does_named d d' (AddCancel ticket) None Done h = (h.0, left (without_add ticket d) d' h.1)
  does_named d d' Back (Some value) Unknown h = (h.0, ap (by_name name) h.1)
  does_named d d' Back (Some value) Dropped h =
      (h.0, h.1, left (record d { outside = d.outside - 1 }) d' h.2)
  does_named d d' Back (Some value) Kept h =
      (h.0, h.1, h.2, took value (record d { outside = d.outside - 1 }) d' h.3)
  does_named d d' Take None Unknown h = (h.0, ap (by_name name) h.1)
  does_named d d' Take None Taken h = (h.0, left (record d { outside = d.outside - 1 }) d' h.1)
  does_named d d' _ _ _ h = absurd h

  if_named : (b : Bool) (d e : State T)
      → by_name name (if b then d else e) ≡ (if b then by_name name d else by_name name e)
  if_named true d e = refl
  if_named false d e = refl

  less_named : (d : State T) → by_name name (one_handle_less d) ≡ one_handle_less (by_name name d)
  less_named d =
      let handles = if d.handles == most_handles then most_handles else d.handles - 1 in
      let none = record d { handles = 0; idle = [] } in
      if_named (handles == 0) (settled none) (record d { handles = handles })
      ∙ ap (λ (e : State O). if handles == 0 then e else record (by_name name d) { handles = handles })
      (settled_named none)

  pub does_for_owner_named : (d d' : State T) (step : OwnerStep) (reply : OwnerReply)
      → DoesForOwner d step reply d' → DoesForOwner (by_name name d) step reply (by_name name d')
  does_for_owner_named d d' owner.Status (owner_reply.Stands status) h =
      let same : status_of d ≡ status_of (by_name name d) = rw (length-map d.idle name) refl in
      (h.0 ∙ same, ap (by_name name) h.1)
  does_for_owner_named d d' owner.Close owner_reply.Done h = ap (by_name name) h
  does_for_owner_named d d' owner.CloneHandle owner_reply.Done h = (h.0, ap (by_name name) h.1)
  does_for_owner_named d d' owner.CloneHandle owner_reply.NoHandle h = (h.0, ap (by_name name) h.1)
  does_for_owner_named d d' owner.DropHandle owner_reply.Done h = (h.0, ap (by_name name) h.1 ∙ less_named d)
  does_for_owner_named d d' owner.DropHandle owner_reply.NoHandle h = (h.0, ap (by_name name) h.1)
  does_for_owner_named d d' owner.Upgrade owner_reply.Done h = (h.0, ap (by_name name) h.1)
  does_for_owner_named d d' owner.Upgrade owner_reply.NoHandle h = (h.0, ap (by_name name) h.1)
  does_for_owner_named d d' _ _ h = absurd h
