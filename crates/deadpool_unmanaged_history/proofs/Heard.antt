-- What a step makes of those in the queues that were not told.
use Rattle.deadpool_unmanaged_history.proofs.Words.{◌≡◌, ◌∙◌, ◌-◌, Bool, true, false, [], Option, Some, None, ap}
use Rattle.deadpool_unmanaged_history.proofs.Words.{refl}
use Rattle.deadpool_unmanaged_history.proofs.Words.{if◌then◌else◌, ◌==◌, most_handles, Does, DoesForOwner, Entry}
use Rattle.deadpool_unmanaged_history.proofs.Words.{OwnerReply, OwnerStep, Reply, State, Step, Steps, Unnotified}
use Rattle.deadpool_unmanaged_history.proofs.Words.{settled, unheard_after, unnotified_of}
use Rattle.deadpool_unmanaged_history.specs.Unheard.{unnotified_after}
use Rattle.deadpool_unmanaged_history.specs.declared.line.Line.TheVariants.{Next}
use Rattle.deadpool_unmanaged.specs.declared.step.Reply.TheVariants.{Object, Stored, Closed, Full, Waiting, OutOfMemory}
use Rattle.deadpool_unmanaged.specs.declared.step.Reply.TheVariants.{Crowded, Expired, Done, Kept, Dropped, Taken}
use Rattle.deadpool_unmanaged.specs.declared.step.Reply.TheVariants.{Unknown}
use Rattle.deadpool_unmanaged.specs.declared.step.Step.TheVariants.{GetEnter, GetAsk, GetCancel, AddEnter, AddAsk}
use Rattle.deadpool_unmanaged.specs.declared.step.Step.TheVariants.{AddCancel, Back, Take}
use Rattle.deadpool_unmanaged_journal.specs.declared.entry.Entry.TheVariants.{Made, Owner}
use Rattle.deadpool_unmanaged_journal.specs.declared.owner_step.OwnerReply.TheVariants as owner_reply
use Rattle.deadpool_unmanaged_journal.specs.declared.owner_step.OwnerStep.TheVariants as owner

module _ {T : Type 0} where
  heard_made : (d d' : State T) (step : Step) (o : Option T) (reply : Reply) → Does d step o reply d'
      → unnotified_of d' ≡ unnotified_after step reply (unnotified_of d)
  heard_made d d' (GetEnter wait) None Closed h = ap unnotified_of h.1
  heard_made d d' (GetEnter wait) (Some value) Object h = ap unnotified_of h.3
  heard_made d d' (GetEnter wait) None Full h = ap unnotified_of h.3
  heard_made d d' (GetEnter wait) None Crowded h = ap unnotified_of h.4
  heard_made d d' (GetEnter wait) None (Waiting ticket) h = ap unnotified_of h.5
  heard_made d d' (GetEnter wait) None OutOfMemory h = ap unnotified_of h.4
  heard_made d d' (GetAsk ticket expired) None Unknown h = ap unnotified_of h.1
  heard_made d d' (GetAsk ticket expired) None Closed h = ap unnotified_of h.2
  heard_made d d' (GetAsk ticket expired) (Some value) Object h = ap unnotified_of h.3
  heard_made d d' (GetAsk ticket expired) None Expired h = ap unnotified_of h.4
  heard_made d d' (GetAsk ticket expired) None (Waiting same) h = ap unnotified_of h.5
  heard_made d d' (GetCancel ticket) None Unknown h = ap unnotified_of h.1
  heard_made d d' (GetCancel ticket) None Done h = ap unnotified_of h.1
  heard_made d d' (AddEnter wait) (Some value) Closed h = ap unnotified_of h.1
  heard_made d d' (AddEnter wait) (Some value) Stored h = ap unnotified_of h.2
  heard_made d d' (AddEnter wait) (Some value) Full h = ap unnotified_of h.3
  heard_made d d' (AddEnter wait) (Some value) Crowded h = ap unnotified_of h.4
  heard_made d d' (AddEnter wait) (Some value) (Waiting ticket) h = ap unnotified_of h.5
  heard_made d d' (AddEnter wait) (Some value) OutOfMemory h = ap unnotified_of h.4
  heard_made d d' (AddAsk ticket) (Some value) Unknown h = ap unnotified_of h.1
  heard_made d d' (AddAsk ticket) (Some value) Closed h = ap unnotified_of h.2
  heard_made d d' (AddAsk ticket) (Some value) Stored h = ap unnotified_of h.2
  heard_made d d' (AddAsk ticket) (Some value) (Waiting same) h = ap unnotified_of h.4
  heard_made d d' (AddCancel ticket) None Unknown h = ap unnotified_of h.1
  heard_made d d' (AddCancel ticket) None Done h = ap unnotified_of h.1
  heard_made d d' Back (Some value) Unknown h = ap unnotified_of h.1
  heard_made d d' Back (Some value) Dropped h = ap unnotified_of h.2
  heard_made d d' Back (Some value) Kept h = ap unnotified_of h.3
  heard_made d d' Take None Unknown h = ap unnotified_of h.1
  heard_made d d' Take None Taken h = ap unnotified_of h.1
  heard_made d d' _ _ _ h = absurd h

  either_hears : (b : Bool) (d e : State T) (us : Unnotified) → unnotified_of d ≡ us → unnotified_of e ≡ us
      → unnotified_of (if b then d else e) ≡ us
  either_hears true d e us one other = one
  either_hears false d e us one other = other

  -- the owner tells nobody, and makes nobody wait
  heard_for_owner : (d d' : State T) (step : OwnerStep) (reply : OwnerReply) → DoesForOwner d step reply d'
      → unnotified_of d' ≡ unnotified_of d
  heard_for_owner d d' owner.Status (owner_reply.Stands status) h = ap unnotified_of h.1
  heard_for_owner d d' owner.Close owner_reply.Done h = ap unnotified_of h
  heard_for_owner d d' owner.CloneHandle owner_reply.Done h = ap unnotified_of h.1
  heard_for_owner d d' owner.CloneHandle owner_reply.NoHandle h = ap unnotified_of h.1
  heard_for_owner d d' owner.DropHandle owner_reply.Done h =
      let left = if d.handles == most_handles then most_handles else d.handles - 1 in
      ap unnotified_of h.1
      ∙ either_hears (left == 0) (settled (record d { handles = 0; idle = [] })) (record d { handles = left })
      (unnotified_of d) refl refl
  heard_for_owner d d' owner.DropHandle owner_reply.NoHandle h = ap unnotified_of h.1
  heard_for_owner d d' owner.Upgrade owner_reply.Done h = ap unnotified_of h.1
  heard_for_owner d d' owner.Upgrade owner_reply.NoHandle h = ap unnotified_of h.1
  heard_for_owner d d' _ _ h = absurd h

  pub heard : (d d' : State T) (e : Entry T) → Steps d e d'
      → unnotified_of d' ≡ unheard_after (Next e) (unnotified_of d)
  heard d d' (Made step object reply) h = heard_made d d' step object reply h
  heard d d' (Owner step reply) h = heard_for_owner d d' step reply h
