-- Advances of a get that was not polled, that is in the queue, or that holds a place and nothing else.
use Rattle.deadpool_trial.proofs.Basics.{◌+◌, cond-true, cond-false, ◌≡◌, ℕ, ◌-◌, ◌<◌, ◌≤◌, List, Bool, true, false}
use Rattle.deadpool_trial.proofs.Basics.{not, ◌&&◌, set, map, refl, sym, ap, ◌∙◌, subst, arith, Option, Some, None}
use Rattle.deadpool_trial.proofs.Basics.{Err, is_none, nat_lt, nat_le, option_map, eq-eqb, lt-ltb, le-ltb, le-leb}
use Rattle.deadpool_trial.proofs.Basics.{lt-leb, length}
use Rattle.deadpool_trial.proofs.Basics.{slice_get, length-map, slice_get-map, has_number, without_number, Gives}
use Rattle.deadpool_trial.proofs.Basics.{owner, set-same, owned-set}
use Rattle.deadpool_trial.proofs.Basics.{owned-joins, owned-leaves, granted-renamed, not-true, not-false}
use Rattle.deadpool_trial.proofs.Words.{Standing, deadline_after, is_reached, is_positive, Moment, Timeouts, PoolError}
use Rattle.deadpool_trial.proofs.Words.{Timeout, Closed, NoRuntimeSpecified, Crowded, OutOfMemory, DeskState}
use Rattle.deadpool_trial.proofs.Words.{desk_places as places, is_listed, desk_unqueued as unqueued, Serves, Does}
use Rattle.deadpool_trial.proofs.Words.{again_served, Getting, May, Reserve, AfterServed, Pool, unpolled, queued}
use Rattle.deadpool_trial.proofs.Words.{going, places as pool_places, unqueued as pool_unqueued, fail, advance_at}
use Rattle.deadpool_trial.proofs.Words.{NobodyWaits, party_of, standing_of, has_ticket}
use Rattle.deadpool_trial.proofs.Words.{queue_of, TrialInvariant, given}
use Rattle.deadpool_trial.proofs.Words.{reply_to, Slot, Stage, Turn, Step, DeskReply, Reply, Setup, image, get_at}
use Rattle.deadpool_trial.proofs.Words.{party_at}
use Rattle.deadpool_parts.specs.declared.errors.TimeoutType.TheVariants as phase
use Rattle.deadpool_managed.specs.Stages as stage
use Rattle.deadpool_managed.specs.declared.get.Turn.TheVariants as turn
use Rattle.deadpool_trial.specs.declared.moves.Reply.TheVariants as reply
use Rattle.deadpool_trial.proofs.NumberLists.{without-twice}
use Rattle.deadpool_trial.proofs.DeskImage.{Owns, NoTicket, queueing, put_off, TrialInvariant-set, put_off-unqueued}
use Rattle.deadpool_trial.proofs.DeskImage.{put-queueing, unqueued-none, places-image, put-image, Gives-same}
use Rattle.deadpool_trial.proofs.DeskImage.{holds_place, ends_quietly, ends_empty, nobody_waits-closed}
use Rattle.deadpool_trial.proofs.DeskImage.{nobody_waits-unqueued, goes, creates, prepares, lasts}
use Rattle.deadpool_trial.proofs.Serving.{HasLeft, serves}

module _ {M V E C R S F A : Type 0} (may : May V E C R S F A) (setup : Setup M F A V E C R S) (n : ℕ) (now : Moment)
    (core core' : DeskState (Slot V)) (gets : List (Option (Getting V C R S))) (out : List (Slot V)) (own : Timeouts)
    (k : TrialInvariant core gets out) (nobody : NobodyWaits (image setup core gets out)) where
  abbrev pool : Pool V C R S F A
  pool = image setup core gets out

  -- the pool when it stands elsewhere, and no object is given out
  abbrev after : DeskState (Slot V) → Stage V C R S → Pool V C R S F A
  after d s = image setup d (set gets n (get_at own s)) out

  abbrev Counted : DeskState (Slot V) → Stage V C R S → Type 0
  Counted d s = TrialInvariant d (set gets n (get_at own s)) out

  -- what is to be shown of an advance from one stage to another, if no object is given out
  abbrev Goal : Stage V C R S → DeskState (Slot V) → Stage V C R S → Turn V E → Type 0
  Goal old d s t =
      Gives may (advance_at (standing_of old) n (party_at own old) now pool) (
        reply_to t,
        image setup d (set gets n (get_at own s)) (given t out),
      )
      × TrialInvariant d (set gets n (get_at own s)) (given t out)

  -- a get that is in no queue, and held a place at most, is in no count of the desk without its place
  place_left : (old : Stage V C R S) (standing : Standing V C R S) (kept : ℕ)
      (h : slice_get gets n ≡ Some (get_at own old)) → NoTicket (get_at own old)
      → kept + goes (get_at own old) ≡ core.going
      → creates (get_at own old) ≡ 0 → prepares (get_at own old) ≡ 0 → lasts (get_at own old) ≡ 1
      → HasLeft setup n core (record core { going = kept }) gets out own old standing
      (map (owner has_ticket gets) core.granted) (map (owner has_ticket gets) core.waiting) h k
  place_left old standing kept h none less creates_none prepares_none lasts_still =
      record {
        owned =
            λ s no_new. owned-set has_ticket (queue_of core) gets k.tickets n (get_at own old)
            (get_at own s) h none no_new;
        named = λ s no_new. put-image setup core gets out k.tickets n (get_at own old) (get_at own s) h none no_new;
        unqueued = unqueued-none setup core gets out k.tickets n (get_at own old) None h none;
        going = less;
        creations = refl;
        outside = refl;
        creates_none = creates_none;
        prepares_none = prepares_none;
        lasts_still = lasts_still;
      }

  module _ (h : slice_get gets n ≡ Some (get_at own stage.Unpolled)) where
    -- the counts when an entry is refused
    entry_counted : Counted core stage.Finished
    entry_counted =
        TrialInvariant-set core core gets n (get_at own stage.Unpolled) (get_at own stage.Finished) out out h k
        (owned-set has_ticket (queue_of core) gets k.tickets n (get_at own stage.Unpolled) (get_at own stage.Finished) h
        (λ u. refl) (λ u. refl))
        record { going = refl; creations = refl; outside = refl; room = omega arith }

    entry_refused : (cause : PoolError E)
        → ◌≡◌ {A = Reply V E × Pool V C R S F A} (fail n (party_at own stage.Unpolled) cause pool) (
          reply.Failed cause,
          after core stage.Finished,
        )
    entry_refused cause =
        ap (λ (q : Pool V C R S F A). (reply.Failed cause, q))
        (ends_empty setup core gets out n (get_at own stage.Finished) k nobody (get_at own stage.Unpolled) h (λ u. refl)
        (λ u. refl) entry_counted)

    module _ (runs : (is_positive own.wait && is_none setup.environment.runtime) ≡ false) where
      -- the pool is full if the desk is
      full_as : core.limit ≤ places core → nat_lt (pool_places pool) core.limit ≡ false
      full_as full = le-ltb (pool_places pool) core.limit
          (subst (λ m. core.limit ≤ m) (sym (places-image setup core gets out k)) full)

      -- and has a free place if the desk has one
      free_as : places core < core.limit → nat_lt (pool_places pool) core.limit ≡ true
      free_as free = lt-ltb (pool_places pool) core.limit
          (subst (λ m. m < core.limit) (sym (places-image setup core gets out k)) free)

      -- it is crowded if the desk is
      crowded_as : core.max_waiting ≤ length core.waiting → nat_le core.max_waiting (length pool.waiting) ≡ true
      crowded_as most = le-leb core.max_waiting (length pool.waiting)
          (omega (arith, length-map core.waiting (owner has_ticket gets), most))

      roomy_as : length core.waiting < core.max_waiting → nat_le core.max_waiting (length pool.waiting) ≡ false
      roomy_as fewer = lt-leb core.max_waiting (length pool.waiting)
          (omega (arith, length-map core.waiting (owner has_ticket gets), fewer))

      -- memory may be found for the queue, and may be missing
      module _ (memory : (found : Bool) → may Reserve found) where
        -- an entry that joins the queue
        entry_waits : (t : ℕ) → core.is_open ≡ true → core.limit ≤ places core
            → is_reached (deadline_after now own.wait) now ≡ false → length core.waiting < core.max_waiting
            → is_listed t core ≡ false
            → Goal stage.Unpolled (queueing t core) (stage.Queued t (deadline_after now own.wait)) turn.Pending
        entry_waits t is_open full waits roomy fresh =
            let new : Stage V C R S = stage.Queued t (deadline_after now own.wait) in (
              Gives-same may _ _ _
                  (cond-false _ _ _ runs ∙ cond-false _ _ _ (ap not is_open) ∙ cond-false _ _ _ (full_as full)
                  ∙ cond-false _ _ _ waits ∙ cond-false _ _ _ (roomy_as roomy)) (
                    true,
                    (
                      memory true,
                      ap (λ (q : Pool V C R S F A). (reply.Pending, q))
                          (put-queueing setup core gets out k.tickets n (get_at own stage.Unpolled)
                          (get_at own new) h t fresh (λ u. refl) (λ u. refl)),
                    ),
                  ),
              TrialInvariant-set core (queueing t core) gets n (get_at own stage.Unpolled) (get_at own new) out out h k
                  (owned-joins has_ticket (queue_of core) gets k.tickets n (get_at own stage.Unpolled)
                  (get_at own new) h t fresh (λ u. refl) (λ u. refl))
                  record { going = refl; creations = refl; outside = refl; room = omega arith },
            )

        -- an entry that finds no memory
        entry_finds_none : core.is_open ≡ true → core.limit ≤ places core
            → is_reached (deadline_after now own.wait) now ≡ false → length core.waiting < core.max_waiting
            → Goal stage.Unpolled core stage.Finished (turn.Done (Err OutOfMemory))
        entry_finds_none is_open full waits roomy = (
          Gives-same may _ _ _
              (cond-false _ _ _ runs ∙ cond-false _ _ _ (ap not is_open) ∙ cond-false _ _ _ (full_as full)
              ∙ cond-false _ _ _ waits ∙ cond-false _ _ _ (roomy_as roomy))
              (false, (memory false, entry_refused OutOfMemory)),
          entry_counted,
        )

        -- an entry that is served
        entry_served : (reply : DeskReply) (object : Option (Slot V)) (s : Stage V C R S) (t : Turn V E)
            → core.is_open ≡ true → places core < core.limit
            → Serves core None object reply core' → AfterServed (deadline_after now own.wait) reply object s t
            → Goal stage.Unpolled core' s t
        entry_served reply object s t is_open free e a =
            let all = serves setup n core core gets out own stage.Unpolled unpolled
            (map (owner has_ticket gets) core.granted) (map (owner has_ticket gets) core.waiting) h k
            (place_left stage.Unpolled unpolled core.going h (λ u. refl) (omega arith) refl refl refl)
            core' None (deadline_after now own.wait) reply object s t e a in (
              Gives-same may _ _ _
                  (cond-false _ _ _ runs ∙ cond-false _ _ _ (ap not is_open) ∙ cond-true _ _ _ (free_as free)) all.0,
              all.1,
            )

        pub from_entered : (wait : Bool) (reply : DeskReply) (object : Option (Slot V)) (s : Stage V C R S)
            (t : Turn V E) → wait ≡ not (is_reached (deadline_after now own.wait) now)
            → Does core (Step.Enter wait) object reply core'
            → AfterServed (deadline_after now own.wait) reply object s t → Goal stage.Unpolled core' s t
        from_entered wait DeskReply.Closed None s t w e a =
            rw (a.0, a.1, e.1) (
              Gives-same may _ _ _ (cond-false _ _ _ runs ∙ cond-true _ _ _ (ap not e.0)) (entry_refused Closed),
              entry_counted,
            )
        from_entered wait DeskReply.Full None s t w e a =
            rw (a.0, a.1, e.3) (
              Gives-same may _ _ _
                  (cond-false _ _ _ runs ∙ cond-false _ _ _ (ap not e.0) ∙ cond-false _ _ _ (full_as e.1)
                  ∙ cond-true _ _ _ (not-false _ (sym w ∙ e.2))) (entry_refused (Timeout phase.Wait)),
              entry_counted,
            )
        from_entered wait (DeskReply.Waiting ticket) None s t w e a =
            rw (a.0, a.1, e.5) (entry_waits ticket e.0 e.1 (not-true _ (sym w ∙ e.2)) e.3 e.4)
        from_entered wait DeskReply.Crowded None s t w e a =
            rw (a.0, a.1, e.4) (
              Gives-same may _ _ _
                  (cond-false _ _ _ runs ∙ cond-false _ _ _ (ap not e.0) ∙ cond-false _ _ _ (full_as e.1)
                  ∙ cond-false _ _ _ (not-true _ (sym w ∙ e.2)) ∙ cond-true _ _ _ (crowded_as e.3))
                  (entry_refused Crowded),
              entry_counted,
            )
        from_entered wait DeskReply.OutOfMemory None s t w e a =
            rw (a.0, a.1, e.4) (entry_finds_none e.0 e.1 (not-true _ (sym w ∙ e.2)) e.3)
        from_entered wait reply (Some slot) s t w e a = entry_served reply (Some slot) s t e.0 e.1 e.2 a
        from_entered wait reply None s t w e a = entry_served reply None s t e.0 e.1 e.2 a

    -- a timeout without a runtime ends a get before its entry
    pub from_unrun : (s : Stage V C R S) (t : Turn V E) → core' ≡ core
        → (is_positive own.wait && is_none setup.environment.runtime) ≡ true → s ≡ stage.Finished
        → t ≡ turn.Done (Err NoRuntimeSpecified)
        → Goal stage.Unpolled core' s t
    from_unrun s t e lacks is_s is_t =
        rw (is_s, is_t, e) (
          Gives-same may _ _ _ (cond-true _ _ _ lacks) (entry_refused NoRuntimeSpecified),
          entry_counted,
        )

  module _ (allowance : Option ℕ) (h : slice_get gets n ≡ Some (get_at own (stage.Going allowance))) where
    -- a get that holds a place and nothing else
    pub from_going : (reply : DeskReply) (object : Option (Slot V)) (s : Stage V C R S) (t : Turn V E)
        → Does core (Step.Again allowance) object reply core' → AfterServed None reply object s t
        → Goal (stage.Going allowance) core' s t
    from_going reply object s t e a =
        let one : 1 ≤ core.going = holds_place core gets out k n (get_at own (stage.Going allowance)) h in
        serves setup n core (record core { going = core.going - 1 }) gets out own (stage.Going allowance)
        (going allowance) (map (owner has_ticket gets) core.granted) (map (owner has_ticket gets) core.waiting) h k
        (place_left (stage.Going allowance) (going allowance) (core.going - 1) h (λ u. refl)
        (omega (arith, one)) refl refl refl)
        core' allowance None reply object s t (again_served core core' allowance reply object (omega (arith, one)) e) a

  module _ (ticket : ℕ) (deadline : Option Moment)
      (h : slice_get gets n ≡ Some (get_at own (stage.Queued ticket deadline))) where
    abbrev waiter : Option (Getting V C R S)
    waiter = get_at own (stage.Queued ticket deadline)

    abbrev without_ticket : DeskState (Slot V)
    without_ticket = unqueued ticket core

    -- the ticket is in the queue, and is its own
    is_ours : (is_listed ticket core ≡ true) × (owner has_ticket gets ticket ≡ n)
    is_ours = k.tickets.listed n ticket waiter h (eq-eqb ticket ticket refl)

    -- its party was granted a place if its ticket was
    tells_granted : has_number n (map (owner has_ticket gets) core.granted) ≡ has_number ticket core.granted
    tells_granted =
        granted-renamed has_ticket (queue_of core) gets k.tickets n waiter None h ticket is_ours.1 (λ u. refl)

    -- the pool when it has left the queue
    left_named : (new : Option (Getting V C R S)) → NoTicket new
        → put_off n (party_of new) pool ≡ image setup without_ticket (set gets n new) out
    left_named new none =
        put_off-unqueued setup core gets out k.tickets n waiter new h ticket is_ours.1 (λ u. refl) none

    -- the owners of the other tickets
    left_owned : (new : Option (Getting V C R S)) → NoTicket new → Owns without_ticket (set gets n new)
    left_owned new none =
        owned-leaves has_ticket (queue_of core) gets k.tickets n waiter new h ticket is_ours.1 (λ u. refl) none

    -- the counts when it ends without a place
    left_counted : Counted without_ticket stage.Finished
    left_counted =
        TrialInvariant-set core without_ticket gets n waiter (get_at own stage.Finished) out out h k
        (left_owned (get_at own stage.Finished) (λ u. refl))
        record { going = refl; creations = refl; outside = refl; room = omega arith }

    -- a get in the queue ends without a place
    left_refused : (cause : PoolError E) → NobodyWaits (after without_ticket stage.Finished)
        → ◌≡◌ {A = Reply V E × Pool V C R S F A} (fail n (party_at own (stage.Queued ticket deadline)) cause pool)
        (reply.Failed cause, after without_ticket stage.Finished)
    left_refused cause quiet =
        ap (λ (q : Pool V C R S F A). (reply.Failed cause, q))
        (ends_quietly setup core gets out n (get_at own stage.Finished) without_ticket
        (left_named (get_at own stage.Finished) (λ u. refl)) quiet)

    -- a get that has left the queue is in no count
    queued_left : HasLeft setup n core without_ticket gets out own (stage.Queued ticket deadline) (queued deadline)
        (pool_unqueued n pool).granted (pool_unqueued n pool).waiting h k
    queued_left =
        record {
          owned = λ s none. left_owned (get_at own s) none;
          named = λ s none. left_named (get_at own s) none;
          unqueued = twice;
          going = omega arith;
          creations = refl;
          outside = refl;
          creates_none = refl;
          prepares_none = refl;
          lasts_still = refl;
        }
      where
        -- it leaves the queue once
        twice : pool_unqueued n (pool_unqueued n pool) ≡ pool_unqueued n pool
        twice =
            ap
            (λ ns. record (pool_unqueued n pool) {
              granted = ns;
              waiting = without_number n (pool_unqueued n pool).waiting;
            })
            (without-twice n (map (owner has_ticket gets) core.granted))
            ∙ ap (λ ns. record (pool_unqueued n pool) { waiting = ns })
            (without-twice n (map (owner has_ticket gets) core.waiting))

    -- a get in the queue that is served
    queued_served : (reply : DeskReply) (object : Option (Slot V)) (s : Stage V C R S) (t : Turn V E)
        → core.is_open ≡ true → has_number ticket core.granted ≡ true
        → Serves without_ticket None object reply core' → AfterServed deadline reply object s t
        → Goal (stage.Queued ticket deadline) core' s t
    queued_served reply object s t is_open granted e a =
        let all = serves setup n core without_ticket gets out own (stage.Queued ticket deadline) (queued deadline)
        (pool_unqueued n pool).granted (pool_unqueued n pool).waiting h k queued_left core' None deadline reply object s
        t e a in
        (cond-false _ _ _ (ap not is_open) ∙ cond-true _ _ _ (tells_granted ∙ granted) ∙ all.0, all.1)

    -- a get in the queue
    pub from_queued : (expired : Bool) (reply : DeskReply) (object : Option (Slot V)) (s : Stage V C R S) (t : Turn V E)
        → expired ≡ is_reached deadline now
        → Does core (Step.Ask ticket expired) object reply core' → AfterServed deadline reply object s t
        → Goal (stage.Queued ticket deadline) core' s t
    from_queued expired DeskReply.Closed None s t x e a =
        rw (a.0, a.1, e.2) (
          cond-true _ _ _ (ap not e.0)
              ∙ left_refused Closed
              (nobody_waits-closed setup core gets out n (get_at own stage.Finished) without_ticket e.0),
          left_counted,
        )
    from_queued expired DeskReply.Expired None s t x e a =
        rw (a.0, a.1, e.4) (
          cond-false _ _ _ (ap not e.0) ∙ cond-false _ _ _ (tells_granted ∙ e.1) ∙ cond-true _ _ _ (sym x ∙ e.3)
              ∙ left_refused (Timeout phase.Wait)
              (nobody_waits-unqueued setup core gets out n
              (get_at own stage.Finished) k nobody waiter h ticket e.1 e.2 left_counted),
          left_counted,
        )
    from_queued expired (DeskReply.Waiting same) None s t x e a =
        rw (a.0, a.1, e.4, e.5, set-same gets n waiter h) (
          cond-false _ _ _ (ap not e.0) ∙ cond-false _ _ _ (tells_granted ∙ e.1) ∙ cond-false _ _ _ (sym x ∙ e.3)
              ∙ ap (λ ps. (reply.Pending, record pool { parties = ps }))
              (set-same (map party_of gets) n (party_of waiter)
              (slice_get-map party_of gets n ∙ ap (option_map party_of) h)),
          k,
        )
    from_queued expired DeskReply.Unknown None s t x e a =
        absurd (let differ : true ≡ false = sym is_ours.0 ∙ e.0 in cc)
    from_queued expired reply (Some slot) s t x e a = queued_served reply (Some slot) s t e.0 e.1 e.2 a
    from_queued expired reply None s t x e a = queued_served reply None s t e.0 e.1 e.2 a
