-- A get that is cancelled over the desk is a party that is cancelled in the pool.
use Rattle.deadpool_trial.proofs.Basics.{◌≡◌, ℕ, ◌-◌, ◌≤◌, List, true, false, set, refl, sym, ap, ◌∙◌, subst, arith}
use Rattle.deadpool_trial.proofs.Basics.{Option, Some, None, eq-eqb, slice_get, Gives, owner, owned-set, owned-leaves}
use Rattle.deadpool_trial.proofs.Words.{Moment, Timeouts, DeskState, settled, is_listed, desk_unqueued as unqueued}
use Rattle.deadpool_trial.proofs.Words.{Does, Getting, May, object_of, Made, no_step, making, Makes, CancelsFrom}
use Rattle.deadpool_trial.proofs.Words.{GivesUp, Pool, prepared_at, removed, cancel, NobodyWaits, standing_of}
use Rattle.deadpool_trial.proofs.Words.{has_ticket, queue_of, TrialInvariant, Slot, Stage}
use Rattle.deadpool_trial.proofs.Words.{Step, DeskReply, Held, core_desk}
use Rattle.deadpool_trial.proofs.Words.{Setup, image, get_at}
use Rattle.deadpool_managed.specs.Stages as stage
use Rattle.deadpool_trial.specs.declared.moves.Reply.TheVariants as reply
use Rattle.deadpool_trial.proofs.DeskImage.{NoTicket, is_done, goes, creates, prepares, Shifts, TrialInvariant-set}
use Rattle.deadpool_trial.proofs.DeskImage.{put_off-unqueued, put_off-image, holds_place, holds_creation, holds_object}
use Rattle.deadpool_trial.proofs.DeskImage.{ends_free, ends_empty}

module _ {M V E C R S F A : Type 0} (may : May V E C R S F A) (setup : Setup M F A V E C R S) (n : ℕ)
    (core core' : DeskState (Slot V)) (gets : List (Option (Getting V C R S))) (out : List (Slot V)) (own : Timeouts)
    (k : TrialInvariant core gets out) (nobody : NobodyWaits (image setup core gets out)) where
  abbrev pool : Pool V C R S F A
  pool = image setup core gets out

  abbrev gone : List (Option (Getting V C R S))
  gone = set gets n None

  -- the pool without the party, and its counts
  abbrev Removes : DeskState (Slot V) → Type 0
  Removes d = (removed n pool ≡ image setup d gone out) × TrialInvariant d gone out

  -- what is to be shown of a get that is cancelled at a stage
  abbrev Goal : Stage V C R S → DeskState (Slot V) → Type 0
  Goal old d =
      Gives may (cancel n (record { timeouts = own; standing = standing_of old }) pool) (
        reply.Cancelled,
        image setup d gone out,
      )
      × TrialInvariant d gone out

  -- a get that held a place, and is counted no more
  removes_counted : (old : Stage V C R S) (going creations outside : ℕ) → slice_get gets n ≡ Some (get_at own old)
      → NoTicket (get_at own old)
      → Shifts core (record core { going = going; creations = creations; outside = outside })
      (get_at own old) None out out
      → Removes (settled (record core { going = going; creations = creations; outside = outside }))
  removes_counted old going creations outside h none shifts =
      let left : DeskState (Slot V) = record core { going = going; creations = creations; outside = outside } in
      ends_free setup core gets out n None left
      (put_off-image setup core gets out k.tickets n (get_at own old) None h none (λ u. refl))
      (TrialInvariant-set core left gets n (get_at own old) None out out h k
      (owned-set has_ticket (queue_of core) gets k.tickets n (get_at own old) None h none (λ u. refl)) shifts)

  module _ (ticket : ℕ) (deadline : Option Moment)
      (h : slice_get gets n ≡ Some (get_at own (stage.Queued ticket deadline))) where
    -- the ticket is in the queue, and is its own
    is_ours : (is_listed ticket core ≡ true) × (owner has_ticket gets ticket ≡ n)
    is_ours = k.tickets.listed n ticket (get_at own (stage.Queued ticket deadline)) h (eq-eqb ticket ticket refl)

    -- a get in the queue
    removes_queued : Removes (settled (unqueued ticket core))
    removes_queued =
        let left : DeskState (Slot V) = unqueued ticket core in
        let old : Option (Getting V C R S) = get_at own (stage.Queued ticket deadline) in
        ends_free setup core gets out n None left
        (put_off-unqueued setup core gets out k.tickets n old None h ticket is_ours.1 (λ u. refl) (λ u. refl))
        (TrialInvariant-set core left gets n old None out out h k
        (owned-leaves has_ticket (queue_of core) gets k.tickets n old None h ticket is_ours.1 (λ u. refl)
        (λ u. refl))
        record { going = refl; creations = refl; outside = refl; room = omega arith })

    -- so it is at the desk
    cancels_queued : (r : DeskReply) → Does core (Step.Withdraw ticket) None r core'
        → Goal (stage.Queued ticket deadline) core'
    cancels_queued DeskReply.Done e =
        rw e.1 (ap (λ (q : Pool V C R S F A). (reply.Cancelled, q)) removes_queued.0, removes_queued.1)
    cancels_queued DeskReply.Unknown e = absurd (let differ : true ≡ false = sym is_ours.0 ∙ e.0 in cc)
    cancels_queued _ e = absurd e

  -- a get that held a place or a creation, and no object
  cancels_held : (old : Stage V C R S) (going creations : ℕ) → slice_get gets n ≡ Some (get_at own old)
      → NoTicket (get_at own old) → ◌≡◌ {A = Option (Slot V)} (prepared_at (standing_of old)) None
      → Shifts core (record core { going = going; creations = creations }) (get_at own old) None out out
      → core' ≡ settled (record core { going = going; creations = creations }) → Goal old core'
  cancels_held old going creations h none holds shifts e =
      let all = removes_counted old going creations core.outside h none shifts in
      rw (e, holds) (ap (λ (q : Pool V C R S F A). (reply.Cancelled, q)) all.0, all.1)

  -- a get with an idle object, or with a new one: the object is given up
  cancels_object : (old : Stage V C R S) (slot : Slot V) (r : DeskReply) → slice_get gets n ≡ Some (get_at own old)
      → NoTicket (get_at own old)
      → ◌≡◌ {A = Option (Slot V)} (prepared_at (standing_of old)) (Some slot)
      → goes (get_at own old) ≡ 0 → creates (get_at own old) ≡ 0 → prepares (get_at own old) ≡ 1
      → Does core (Step.Cancel Held.Object) None r core' → GivesUp may slot.value.value r → Goal old core'
  cancels_object old slot r h none holds g c p e gives =
      let one = holds_object core gets out k n (get_at own old) h in
      let done = is_done core core' (settled (record core { outside = core.outside - 1 })) core.outside r
      (omega (arith, one, p)) e in
      let all = removes_counted old core.going core.creations (core.outside - 1) h none
      record {
        going = omega (arith, g);
        creations = omega (arith, c);
        outside = omega (arith, one, p);
        room = omega arith;
      } in
      let asked = rw done.0 at gives in
      rw (done.1, holds) ((asked.0, (asked.1, ap (λ (q : Pool V C R S F A). (reply.Cancelled, q)) all.0)), all.1)

  -- a get that holds nothing
  cancels_empty : (old : Stage V C R S) → slice_get gets n ≡ Some (get_at own old) → NoTicket (get_at own old)
      → Shifts core core (get_at own old) None out out
      → ◌≡◌ {A = Option (Slot V)} (prepared_at (standing_of old)) None → core' ≡ core → Goal old core'
  cancels_empty old h none shifts holds e =
      let counted : TrialInvariant core gone out =
      TrialInvariant-set core core gets n (get_at own old) None out out h k
      (owned-set has_ticket (queue_of core) gets k.tickets n (get_at own old) None h none (λ u. refl)) shifts in
      rw (e, holds) (
        ap (λ (q : Pool V C R S F A). (reply.Cancelled, q))
            (ends_empty setup core gets out n None k nobody (get_at own old) h none (λ u. refl) counted),
        counted,
      )

  pub get_cancelled : (old : Stage V C R S) (made : Made V) → slice_get gets n ≡ Some (get_at own old)
      → Makes core_desk core made core' → CancelsFrom may old made → Goal old core'
  get_cancelled stage.Unpolled no_step h e a =
      cancels_empty stage.Unpolled h (λ u. refl) record {
        going = refl;
        creations = refl;
        outside = refl;
        room = omega arith;
      } refl e
  get_cancelled stage.Finished no_step h e a =
      cancels_empty stage.Finished h (λ u. refl) record {
        going = refl;
        creations = refl;
        outside = refl;
        room = omega arith;
      } refl e
  get_cancelled (stage.Queued ticket deadline) (making (Step.Withdraw named) r None) h e a =
      cancels_queued ticket deadline h r (subst (λ t. Does core (Step.Withdraw t) None r core') a e.1)
  get_cancelled (stage.Going allowance) (making (Step.Cancel Held.Place) r None) h e a =
      let one : 1 ≤ core.going = holds_place core gets out k n (get_at own (stage.Going allowance)) h in
      let done = is_done core core' (settled (record core { going = core.going - 1 })) core.going r one e.1 in
      cancels_held (stage.Going allowance) (core.going - 1) core.creations h (λ u. refl) refl
      record { going = omega (arith, one); creations = refl; outside = refl; room = omega arith } done.1
  get_cancelled (stage.Creating begun deadline) (making (Step.Cancel Held.Creation) r None) h e a =
      let one : 1 ≤ core.creations = holds_creation core gets out k n (get_at own (stage.Creating begun deadline)) h in
      let done =
      is_done core core' (settled (record core { creations = core.creations - 1 })) core.creations r one e.1 in
      cancels_held (stage.Creating begun deadline) core.going (core.creations - 1) h (λ u. refl) refl
      record { going = refl; creations = omega (arith, one); outside = refl; room = omega arith } done.1
  get_cancelled (stage.Recycling preparation allowance) (making (Step.Cancel Held.Object) r None) h e a =
      cancels_object (stage.Recycling preparation allowance) (object_of preparation) r h
      (λ u. refl) refl refl refl refl e.1 a
  get_cancelled (stage.Checking slot at) (making (Step.Cancel Held.Object) r None) h e a =
      cancels_object (stage.Checking slot at) slot r h (λ u. refl) refl refl refl refl e.1 a
  get_cancelled _ _ h e a = absurd a
