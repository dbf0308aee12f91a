-- Advances of a get with a creation under way, with an object, or that has ended.
use Rattle.deadpool_trial.proofs.Basics.{◌≡◌, ℕ, ◌+◌, ◌-◌, ◌≤◌, List, false, set, refl, ap, ◌∙◌, arith, inl, inr}
use Rattle.deadpool_trial.proofs.Basics.{Option, Some, None, Result, Ok, Err, slice_get, cond-true, cond-false, Return}
use Rattle.deadpool_trial.proofs.Basics.{◌>>=◌, Gives, Gives-bind, set-same, owned-set, length-with_numbered, length}
use Rattle.deadpool_trial.proofs.Words.{Poll, deadline_after, is_reached, lacks_runtime, Moment, Timeouts, PoolError}
use Rattle.deadpool_trial.proofs.Words.{Timeout, Backend, NoRuntimeSpecified, PostCreateHook, start, new_metrics}
use Rattle.deadpool_trial.proofs.Words.{DeskState, settled, Does, Getting, May, create, prepare, post_create}
use Rattle.deadpool_trial.proofs.Words.{with_value, Made, no_step, making, Makes, AfterCreation, AfterPrepared}
use Rattle.deadpool_trial.proofs.Words.{AfterChecked, AdvancesCreation, ended_by, Pool, fail, rest, go_on, with_slot}
use Rattle.deadpool_trial.proofs.Words.{slot_number, created, reviewed, checked, hand_out, advance_at, party_of}
use Rattle.deadpool_trial.proofs.Words.{standing_of, TrialInvariant, has_ticket, queue_of}
use Rattle.deadpool_trial.proofs.Words.{given, reply_to, Slot, Position}
use Rattle.deadpool_trial.proofs.Words.{Verdict, Preparation, Prepared, Stage, Turn, Step, DeskReply, Reply, core_desk}
use Rattle.deadpool_trial.proofs.Words.{Setup, image, get_at, party_at}
use Rattle.futures.specs.declared.task.Poll.TheVariants as poll
use Rattle.deadpool_parts.specs.declared.errors.TimeoutType.TheVariants as phase
use Rattle.deadpool_managed.specs.declared.calls.Verdict.TheVariants as verdict
use Rattle.deadpool_managed.specs.Stages as stage
use Rattle.deadpool_managed.specs.declared.get.Turn.TheVariants as turn
use Rattle.deadpool_trial.specs.declared.moves.Reply.TheVariants as reply
use Rattle.deadpool_trial.proofs.DeskImage.{NoTicket, is_done, owned-same, goes, creates, prepares, lasts, Shifts, put}
use Rattle.deadpool_trial.proofs.DeskImage.{put_off, TrialInvariant-set, put-image, put_off-image, Gives-same}
use Rattle.deadpool_trial.proofs.DeskImage.{holds_creation, holds_object, ends_free}

module _ {M V E C R S F A : Type 0} (may : May V E C R S F A) (setup : Setup M F A V E C R S) (n : ℕ) (now : Moment)
    (core core' : DeskState (Slot V)) (gets : List (Option (Getting V C R S))) (out : List (Slot V)) (own : Timeouts)
    (k : TrialInvariant core gets out) where
  abbrev pool : Pool V C R S F A
  pool = image setup core gets out

  -- the pool and the counts after an advance
  abbrev Pairs : DeskState (Slot V) → Stage V C R S → Turn V E → Reply V E × Pool V C R S F A → Type 0
  Pairs d s t x =
      (x ≡ (reply_to t, image setup d (set gets n (get_at own s)) (given t out)))
      × TrialInvariant d (set gets n (get_at own s)) (given t out)

  -- what is to be shown of an advance from one stage to another
  abbrev Goal : Stage V C R S → DeskState (Slot V) → Stage V C R S → Turn V E → Type 0
  Goal old d s t =
      Gives may (advance_at (standing_of old) n (party_at own old) now pool) (
        reply_to t,
        image setup d (set gets n (get_at own s)) (given t out),
      )
      × TrialInvariant d (set gets n (get_at own s)) (given t out)

  module _ (old : Stage V C R S) (h : slice_get gets n ≡ Some (get_at own old)) (none : NoTicket (get_at own old)) where
    -- another stage, with the counts that it makes
    moves_on : (d : DeskState (Slot V)) (s : Stage V C R S) (out' : List (Slot V)) → d.granted ≡ core.granted
        → d.waiting ≡ core.waiting → NoTicket (get_at own s)
        → Shifts core d (get_at own old) (get_at own s) out out' → TrialInvariant d (set gets n (get_at own s)) out'
    moves_on d s out' e f no_new shifts =
        TrialInvariant-set core d gets n (get_at own old) (get_at own s) out out' h k
        (owned-same core d (set gets n (get_at own s))
        (owned-set has_ticket (queue_of core) gets k.tickets n (get_at own old) (get_at own s) h none no_new) e f)
        shifts

    put_as : (s : Stage V C R S) → NoTicket (get_at own s)
        → put n (party_of (get_at own s)) pool ≡ image setup core (set gets n (get_at own s)) out
    put_as s no_new = put-image setup core gets out k.tickets n (get_at own old) (get_at own s) h none no_new

    -- and is in no queue
    put_off_as : (s : Stage V C R S) → NoTicket (get_at own s)
        → put_off n (party_of (get_at own s)) pool ≡ image setup core (set gets n (get_at own s)) out
    put_off_as s no_new = put_off-image setup core gets out k.tickets n (get_at own old) (get_at own s) h none no_new

  module _ (begun : Option C) (until : Option Moment)
      (h : slice_get gets n ≡ Some (get_at own (stage.Creating begun until))) where
    abbrev creator : Stage V C R S
    creator = stage.Creating begun until

    abbrev without_creation : DeskState (Slot V)
    without_creation = record core { creations = core.creations - 1 }

    -- there is a creation to lower the count by
    one_creation : 1 ≤ core.creations
    one_creation = holds_creation core gets out k n (get_at own creator) h

    -- a creation that ends without an object frees its place
    creation_failed : (cause : PoolError E) (r : DeskReply) (s : Stage V C R S) (t : Turn V E)
        → Does core Step.Failed None r core' → s ≡ stage.Finished → t ≡ ended_by cause r
        → Pairs core' s t (fail n (party_at own creator) cause pool)
    creation_failed cause r s t e is_s is_t =
        let done = is_done core core' (settled without_creation) core.creations r one_creation e in
        let all = ends_free setup core gets out n (get_at own stage.Finished) without_creation
        (put_off_as creator h (λ u. refl) stage.Finished (λ u. refl))
        (moves_on creator h (λ u. refl) without_creation stage.Finished out refl refl (λ u. refl)
        record {
          going = refl;
          creations = let one = one_creation in omega arith;
          outside = refl;
          room = omega arith;
        }) in
        rw (is_s, is_t, done.0, done.1) (ap (λ (q : Pool V C R S F A). (reply.Failed cause, q)) all.0, all.1)

    -- one that ends well is an object with the next number
    creation_ends : (value : V) (c : C) (deadline : Option Moment)
        → Pairs (record core { creations = core.creations - 1; next = core.next + 1; outside = core.outside + 1 })
        (stage.Checking record {
          number = core.next;
          value = record { value = value; metrics = new_metrics now };
        } start) turn.More
        (created n (party_at own creator) now deadline pool (poll.Ready (Ok value), c))
    creation_ends value c deadline =
        let new : Stage V C R S =
        stage.Checking record {
          number = core.next;
          value = record { value = value; metrics = new_metrics now };
        } start in (
          ap (λ (q : Pool V C R S F A). (reply.More, record q { next = core.next + 1 }))
              (put_as creator h (λ u. refl) new (λ u. refl)),
          moves_on creator h (λ u. refl)
              (record core { creations = core.creations - 1; next = core.next + 1; outside = core.outside + 1 }) new out
              refl refl (λ u. refl)
              record {
                going = refl;
                creations = let one = one_creation in omega arith;
                outside = omega arith;
                room = omega arith;
              },
        )

    -- what a creation came to, at the desk and in the pool
    creation_answered : (deadline : Option Moment) (x : Poll (Result V E) × C) (made : Made V) (s : Stage V C R S)
        (t : Turn V E)
        → Makes core_desk core made core' → AfterCreation now deadline x made s t
        → Pairs core' s t (created n (party_at own creator) now deadline pool x)
    creation_answered deadline (poll.Ready (Ok value), c) (making Step.Created (DeskReply.Number number) None) s t e a =
        rw (a.0, a.1, e.1.2, e.1.1) (creation_ends value c deadline)
    creation_answered deadline (poll.Ready (Ok value), c) (making Step.Created DeskReply.Unknown None) s t e a =
        absurd (let one = one_creation in omega (arith, one, e.1.0))
    creation_answered deadline (poll.Ready (Ok value), c) (making Step.Created _ None) s t e a = absurd e.0
    creation_answered deadline (poll.Ready (Err cause), c) (making Step.Failed r None) s t e a =
        creation_failed (Backend cause) r s t e.1 a.0 a.1
    creation_answered deadline (poll.Pending, c) no_step s t e a =
        let new : Stage V C R S = stage.Creating (Some c) deadline in
        rw (a.1, a.2, e) (
          cond-false (is_reached deadline now) _ _ a.0
              ∙ ap (λ (q : Pool V C R S F A). (reply.Pending, q)) (put_as creator h (λ u. refl) new (λ u. refl)),
          moves_on creator h (λ u. refl) core new out refl refl (λ u. refl) record {
            going = refl;
            creations = refl;
            outside = refl;
            room = omega arith;
          },
        )
    creation_answered deadline (poll.Pending, c) (making Step.Failed r None) s t e a =
        let all = creation_failed (Timeout phase.Create) r s t e.1 a.1 a.2 in
        (cond-true (is_reached deadline now) _ _ a.0 ∙ all.0, all.1)
    creation_answered deadline _ _ s t e a = absurd a

  -- a creation, begun before or now, is answered
  creation_made : (begun : Option C) (until deadline : Option Moment) (made : Made V) (s : Stage V C R S) (t : Turn V E)
      → slice_get gets n ≡ Some (get_at own (stage.Creating begun until))
      → Makes core_desk core made core' → (x : Poll (Result V E) × C) → Gives may (create begun) x
      → AfterCreation now deadline x made s t
      → Gives may
      (create begun >>= λ y. Return (created n (party_at own (stage.Creating begun until)) now deadline pool y))
      (reply_to t, image setup core' (set gets n (get_at own s)) (given t out))
      × TrialInvariant core' (set gets n (get_at own s)) (given t out)
  creation_made begun until deadline made s t h e x g a =
      let all = creation_answered begun until h deadline x made s t e a in (
        Gives-bind may (create begun)
            (λ y. Return (created n (party_at own (stage.Creating begun until)) now deadline pool y)) x _ g all.0,
        all.1,
      )

  -- a creation that was not begun, if something serves its timeout, or it has none
  creation_begins : (until : Option Moment) (made : Made V) (s : Stage V C R S) (t : Turn V E)
      → slice_get gets n ≡ Some (get_at own (stage.Creating None until))
      → Makes core_desk core made core' → lacks_runtime setup.environment.runtime own.create ≡ false
      → (x : Poll (Result V E) × C) → Gives may (create None) x
      → AfterCreation now (deadline_after now own.create) x made s t → Goal (stage.Creating None until) core' s t
  creation_begins until made s t h e runs x g a =
      let all = creation_made None until (deadline_after now own.create) made s t h e x g a in
      (Gives-same may _ _ _ (cond-false (lacks_runtime setup.environment.runtime own.create) _ _ runs) all.0, all.1)

  -- a get with a creation under way
  pub from_creating : (begun : Option C) (until : Option Moment) (made : Made V) (s : Stage V C R S) (t : Turn V E)
      → slice_get gets n ≡ Some (get_at own (stage.Creating begun until))
      → Makes core_desk core made core'
      → AdvancesCreation may setup.environment.runtime now own.create begun until made s t
      → Goal (stage.Creating begun until) core' s t
  from_creating (Some c) until made s t h e a = creation_made (Some c) until until made s t h e a.0 a.1.0 a.1.1
  from_creating None until made s t h e (inl a) =
      let e' = rw a.1.1 at e in
      let all = creation_failed None until h NoRuntimeSpecified a.0 s t e'.1 a.1.2 a.1.3 in
      (Gives-same may _ _ _ (cond-true (lacks_runtime setup.environment.runtime own.create) _ _ a.1.0) all.0, all.1)
  from_creating None until made s t h e (inr a) = creation_begins until made s t h e a.0 a.1.0 a.1.1.0 a.1.1.1

  module _ (old : Stage V C R S) (h : slice_get gets n ≡ Some (get_at own old)) (none : NoTicket (get_at own old))
      (goes_none : goes (get_at own old) ≡ 0) (creates_none : creates (get_at own old) ≡ 0)
      (prepares_one : prepares (get_at own old) ≡ 1) (lasts_still : lasts (get_at own old) ≡ 1) where
    -- there is an object to lower the count by
    one_object : 1 ≤ core.outside
    one_object = omega (arith, holds_object core gets out k n (get_at own old) h, prepares_one)

    -- another stage, with the counts that it makes
    object_moves : (d : DeskState (Slot V)) (s : Stage V C R S) (out' : List (Slot V)) → d.granted ≡ core.granted
        → d.waiting ≡ core.waiting → NoTicket (get_at own s)
        → d.going ≡ core.going + goes (get_at own s) → d.creations ≡ core.creations + creates (get_at own s)
        → d.outside + 1 + length out ≡ core.outside + prepares (get_at own s) + length out'
        → length out' + lasts (get_at own s) ≤ length out + 1 → TrialInvariant d (set gets n (get_at own s)) out'
    object_moves d s out' e f no_new going creations outside room =
        moves_on old h none d s out' e f no_new record {
          going = omega (arith, goes_none, going);
          creations = omega (arith, creates_none, creations);
          outside = omega (arith, prepares_one, outside);
          room = omega (arith, lasts_still, room);
        }

    object_given : (slot : Slot V)
        → Pairs core stage.Finished (turn.Done (Ok slot)) (hand_out n (party_at own old) slot pool)
    object_given slot =
        let longer = length-with_numbered slot_number slot out in (
          ap (λ (q : Pool V C R S F A). (reply.Object slot.number, record q { out = with_slot slot out }))
              (put_as old h none stage.Finished (λ u. refl)),
          object_moves core stage.Finished (with_slot slot out) refl refl (λ u. refl) (omega arith) (omega arith)
              (omega (arith, longer)) (omega (arith, longer)),
        )

    -- the get rests with the object until its next poll
    object_rests : (new : Stage V C R S) → NoTicket (get_at own new) → goes (get_at own new) ≡ 0
        → creates (get_at own new) ≡ 0 → prepares (get_at own new) ≡ 1 → lasts (get_at own new) ≡ 1
        → Pairs core new turn.Pending (rest n (party_at own old) (standing_of new) pool)
    object_rests new no_new g c p l = (
      ap (λ (q : Pool V C R S F A). (reply.Pending, q)) (put_as old h none new no_new),
      object_moves core new out refl refl no_new (omega (arith, g)) (omega (arith, c)) (omega (arith, p))
          (omega (arith, l)),
    )

    -- an idle object is given up, and the get keeps its place
    object_discarded : (allowance : Option ℕ)
        → Pairs (record core { outside = core.outside - 1; going = core.going + 1 }) (stage.Going allowance) turn.More
        (go_on n (party_at own old) (standing_of (stage.Going allowance)) pool)
    object_discarded allowance = (
      ap (λ (q : Pool V C R S F A). (reply.More, q)) (put_as old h none (stage.Going allowance) (λ u. refl)),
      object_moves (record core { outside = core.outside - 1; going = core.going + 1 })
          (stage.Going allowance) out refl refl (λ u. refl)
          refl (omega arith) (omega (arith, one_object)) (omega arith),
    )

    -- a new object is given up with its place
    object_refused : (cause : PoolError E)
        → Pairs (settled (record core { outside = core.outside - 1 })) stage.Finished (turn.Done (Err cause))
        (fail n (party_at own old) cause pool)
    object_refused cause =
        let left : DeskState (Slot V) = record core { outside = core.outside - 1 } in
        let all = ends_free setup core gets out n (get_at own stage.Finished) left
        (put_off_as old h none stage.Finished (λ u. refl))
        (object_moves left stage.Finished out refl refl (λ u. refl) (omega arith) (omega arith)
        (omega (arith, one_object)) (omega arith)) in
        (ap (λ (q : Pool V C R S F A). (reply.Failed cause, q)) all.0, all.1)

  -- what a preparation came to
  prepared_answered : (preparation : Preparation V R S) (allowance : Option ℕ) (x : Prepared V R S) (made : Made V)
      (s : Stage V C R S) (t : Turn V E)
      → slice_get gets n ≡ Some (get_at own (stage.Recycling preparation allowance)) → Makes core_desk core made core'
      → AfterPrepared may allowance x made s t
      → Gives may (reviewed n (party_at own (stage.Recycling preparation allowance)) allowance pool x)
      (reply_to t, image setup core' (set gets n (get_at own s)) (given t out))
      × TrialInvariant core' (set gets n (get_at own s)) (given t out)
  prepared_answered preparation allowance (Prepared.Accepted slot) no_step s t h e a =
      rw (a.0, a.1, e) (object_given (stage.Recycling preparation allowance) h (λ u. refl) refl refl refl refl slot)
  prepared_answered preparation allowance (Prepared.Pending left) no_step s t h e a =
      rw (a.0, a.1, e)
      (object_rests (stage.Recycling preparation allowance) h (λ u. refl) refl refl refl refl
      (stage.Recycling left None) (λ u. refl) refl refl refl refl)
  prepared_answered preparation allowance (Prepared.GivenUp slot) (making Step.Discard r None) s t h e a =
      let one = one_object (stage.Recycling preparation allowance) h (λ u. refl) refl refl refl refl in
      let done = is_done core core' (record core { outside = core.outside - 1; going = core.going + 1 }) core.outside r
      one e.1 in
      let all = object_discarded (stage.Recycling preparation allowance) h (λ u. refl) refl refl refl refl allowance in
      let b = rw done.0 at a in
      rw (b.1, b.2, done.1) ((b.0.0, (b.0.1, all.0)), all.1)
  prepared_answered preparation allowance _ _ s t h e a = absurd a

  -- a get with an idle object
  pub from_recycling : (preparation : Preparation V R S) (allowance : Option ℕ) (made : Made V) (s : Stage V C R S)
      (t : Turn V E)
      → slice_get gets n ≡ Some (get_at own (stage.Recycling preparation allowance)) → Makes core_desk core made core'
      → (x : Prepared V R S)
      → Gives may (prepare now setup.environment.runtime own.recycle setup.environment.hooks preparation) x
      → AfterPrepared may allowance x made s t
      → Goal (stage.Recycling preparation allowance) core' s t
  from_recycling preparation allowance made s t h e x g a =
      let all = prepared_answered preparation allowance x made s t h e a in (
        Gives-bind may (prepare now setup.environment.runtime own.recycle setup.environment.hooks preparation)
            (reviewed n (party_at own (stage.Recycling preparation allowance)) allowance pool) x _ g all.0,
        all.1,
      )

  -- what the hooks that see a new object came to
  checked_answered : (slot : Slot V) (at : Position S) (x : Verdict S E × V) (made : Made V) (s : Stage V C R S)
      (t : Turn V E)
      → slice_get gets n ≡ Some (get_at own (stage.Checking slot at)) → Makes core_desk core made core'
      → AfterChecked may slot x made s t
      → Gives may (checked n (party_at own (stage.Checking slot at)) slot pool x)
      (reply_to t, image setup core' (set gets n (get_at own s)) (given t out))
      × TrialInvariant core' (set gets n (get_at own s)) (given t out)
  checked_answered slot at (verdict.Accepted, v) no_step s t h e a =
      rw (a.0, a.1, e) (object_given (stage.Checking slot at) h (λ u. refl) refl refl refl refl (with_value v slot))
  checked_answered slot at (verdict.Pending left, v) no_step s t h e a =
      rw (a.0, a.1, e)
      (object_rests (stage.Checking slot at) h (λ u. refl) refl refl refl refl (stage.Checking (with_value v slot) left)
      (λ u. refl) refl refl refl refl)
  checked_answered slot at (verdict.Refused cause, v) (making Step.Refused r None) s t h e a =
      let one = one_object (stage.Checking slot at) h (λ u. refl) refl refl refl refl in
      let done = is_done core core' (settled (record core { outside = core.outside - 1 })) core.outside r one e.1 in
      let all = object_refused (stage.Checking slot at) h (λ u. refl) refl refl refl refl (PostCreateHook cause) in
      let b = rw done.0 at a in
      rw (b.1, b.2, done.1) ((b.0.0, (b.0.1, all.0)), all.1)
  checked_answered slot at _ _ s t h e a = absurd a

  -- a get with a new object
  pub from_checking : (slot : Slot V) (at : Position S) (made : Made V) (s : Stage V C R S) (t : Turn V E)
      → slice_get gets n ≡ Some (get_at own (stage.Checking slot at))
      → Makes core_desk core made core' → (x : Verdict S E × V)
      → Gives may (post_create setup.environment.hooks slot at) x → AfterChecked may slot x made s t
      → Goal (stage.Checking slot at) core' s t
  from_checking slot at made s t h e x g a =
      let all = checked_answered slot at x made s t h e a in (
        Gives-bind may (post_create setup.environment.hooks slot at)
            (checked n (party_at own (stage.Checking slot at)) slot pool) x _ g all.0,
        all.1,
      )

  pub from_finished : (s : Stage V C R S) (t : Turn V E) → slice_get gets n ≡ Some (get_at own stage.Finished)
      → core' ≡ core → s ≡ stage.Finished → t ≡ turn.Pending → Goal stage.Finished core' s t
  from_finished s t h e is_s is_t = rw (is_s, is_t, e, set-same gets n (get_at own stage.Finished) h) (refl, k)
