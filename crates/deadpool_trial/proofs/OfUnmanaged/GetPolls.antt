-- A poll of a get at a core is a poll of its party in the pool.
use Rattle.deadpool_trial.proofs.OfUnmanaged.Basics.{◌≡◌, ℕ, ◌+◌, ◌-◌, ◌<◌, List, [], Bool, true, false, not, length}
use Rattle.deadpool_trial.proofs.OfUnmanaged.Basics.{set, map, refl, sym, ap, ◌∙◌}
use Rattle.deadpool_trial.proofs.OfUnmanaged.Basics.{subst, arith, inl, inr, Option, Some}
use Rattle.deadpool_trial.proofs.OfUnmanaged.Basics.{None, eq-eqb, nat_lt, Result, slice_get, Duration, cases_Bool}
use Rattle.deadpool_trial.proofs.OfUnmanaged.Basics.{lt-ltb, le-ltb, not-true, Poll, deadline_after, is_reached}
use Rattle.deadpool_trial.proofs.OfUnmanaged.Basics.{cannot_wait, has_number, Moment, Runtime, owner, Queue, is_listed}
use Rattle.deadpool_trial.proofs.OfUnmanaged.Basics.{joined, set-same, renamed-set, granted-renamed, nat_le, le-leb}
use Rattle.deadpool_trial.proofs.OfUnmanaged.Basics.{lt-leb, length-map, ◌≤◌}
use Rattle.deadpool_trial.proofs.OfUnmanaged.Words.{Crowded}
use Rattle.deadpool_trial.proofs.OfUnmanaged.Words.{PollsGet, stage_after, turn_after, image}
use Rattle.deadpool_trial.proofs.OfUnmanaged.Words.{party_of, has_get, has_add}
use Rattle.deadpool_trial.proofs.OfUnmanaged.Words.{TrialInvariant, RunInvariant, NobodyWaits, unsettled}
use Rattle.deadpool_trial.proofs.OfUnmanaged.Words.{by_party, Pool, Party}
use Rattle.deadpool_trial.proofs.OfUnmanaged.Words.{new_get, queued_get, finished, free_objects, State, Does, GetEnter}
use Rattle.deadpool_trial.proofs.OfUnmanaged.Words.{GetAsk, without_get, with_get, handed, ended, hand_out, with_item}
use Rattle.deadpool_trial.proofs.OfUnmanaged.Words.{poll, enter_get, inquire_get, got, given, reply_to, PoolError}
use Rattle.deadpool_trial.proofs.OfUnmanaged.Words.{Timeout, Closed, NoRuntimeSpecified}
use Rattle.deadpool_trial.proofs.OfUnmanaged.Words.{OutOfMemory, GetStage, Unpolled}
use Rattle.deadpool_trial.proofs.OfUnmanaged.Words.{Queued, Finished, Item, Reply, Visitor, CoreReply, objects_left}
use Rattle.deadpool_trial.proofs.OfUnmanaged.Words.{Move}
use Rattle.deadpool_trial.proofs.OfUnmanaged.{Follows.Follows, Follows.by_settling, Follows.by_resting}
use Rattle.deadpool_trial.proofs.OfUnmanaged.{Visitors.objects-image, Visitors.hands_out, Visitors.counted-handed}
use Rattle.deadpool_trial.proofs.OfUnmanaged.{Visitors.party-here, Visitors.counted-set, Visitors.image-set}
use Rattle.deadpool_trial.proofs.OfUnmanaged.{Visitors.left-none, Visitors.nobody-set, Visitors.counted-without_get}
use Rattle.deadpool_trial.proofs.OfUnmanaged.{Visitors.image-without_get, Visitors.counted-joined_get}
use Rattle.deadpool_trial.proofs.OfUnmanaged.{Visitors.image-joined_get}

module _ {V : Type 0} (runtime : Option Runtime) (most next : ℕ) (d : State (Item V))
    (visitors : List (Option (Visitor V))) (out : List (Item V)) (k : TrialInvariant d visitors out)
    (well : RunInvariant (image runtime most next d visitors out)) (n : ℕ) (now : Moment) where
  abbrev pub pool : Pool V
  pool = image runtime most next d visitors out

  -- the party's poll is answered so, and its visitor and the core are these after it
  abbrev pub Polled : Reply V → State (Item V) → Option (Visitor V) → List (Item V) → Type 0
  Polled answer d' after out' =
      Follows (Move.Poll n now) pool answer d' (set visitors n after) out'
      (image runtime most next d' (set visitors n after) out')

  -- the party that is polled
  pub by_visitor : (old : Option (Visitor V)) (party : Party V) → slice_get visitors n ≡ Some old
      → party_of old ≡ Some party → (found : Bool)
      → unsettled found (Move.Poll n now) pool ≡ poll found n now party pool
  by_visitor old party here is found =
      ap (λ o. by_party o (poll found n now) pool)
      (party-here runtime most next d visitors out k n old old here ∙ ap Some is)

  -- a poll that changes nothing
  pub unchanged : (old : Option (Visitor V)) (party : Party V) (here : slice_get visitors n ≡ Some old)
      → party_of old ≡ Some party → poll true n now party pool ≡ (Reply.Pending, pool)
      → Polled Reply.Pending d old out
  unchanged old party here is rests =
      let same = set-same visitors n old here in
      let makes = by_visitor old party here is true ∙ rests in
      let all = by_resting (Move.Poll n now) pool well Reply.Pending runtime most next d visitors out k true makes d
      refl well.lawful.nobody_waits in
      rw same all

  abbrev over : Option (Visitor V)
  over = Some (Visitor.Get Finished)

  -- ---- a get that was not polled yet

  module _ (wait : Option Duration) (here : slice_get visitors n ≡ Some (Some (Visitor.Get (Unpolled wait)))) where
    abbrev new_visitor : Option (Visitor V)
    new_visitor = Some (Visitor.Get (Unpolled wait))

    -- the get ends at its first poll
    new_ended : image runtime most next d (set visitors n over) out ≡ ended n pool
    new_ended =
        let gone = left-none runtime most next d visitors out k n new_visitor over here (λ u. refl) (λ u. refl) in
        image-set runtime most next d visitors out k n new_visitor over here (λ u. refl) (λ u. refl) (λ u. refl)
        (λ u. refl)
        ∙ ap (λ (q : Pool V). record q { parties = set (map party_of visitors) n (Some finished) }) (sym gone)

    new_counted : TrialInvariant d (set visitors n over) out
    new_counted = counted-set runtime most next d visitors out k n new_visitor over here (λ u. refl) (λ u. refl)
        (λ u. refl) (λ u. refl)

    -- it ends without an object, and the core is as it was
    new_fails : (found : Bool) (cause : PoolError) (d' : State (Item V)) → d' ≡ d
        → enter_get found n wait now pool ≡ (Reply.Failed cause, ended n pool) → Polled (Reply.Failed cause) d' over out
    new_fails found cause d' same fails =
        let makes = by_visitor new_visitor (new_get wait) here refl found ∙ fails
        ∙ ap (λ (q : Pool V). (Reply.Failed cause, q)) (sym new_ended) in
        by_resting (Move.Poll n now) pool well (Reply.Failed cause) runtime most next d
        (set visitors n over) out new_counted found makes d' same
        (nobody-set runtime most next d visitors out k n new_visitor over here (λ u. refl) (λ u. refl) (λ u. refl)
        (λ u. refl) well.lawful.nobody_waits)

    none_free : objects_left d ≡ 0 → nat_lt 0 (free_objects pool) ≡ false
    none_free none = le-ltb 0 (free_objects pool) (omega (arith, none, objects-image runtime most next d visitors out))

    -- it is crowded if the core is
    crowded_as : d.max_waiting ≤ length d.gets.waiting
        → nat_le d.max_waiting (length pool.gets.waiting) ≡ true
    crowded_as most = le-leb d.max_waiting (length pool.gets.waiting)
        (omega (arith, length-map d.gets.waiting (owner has_get visitors), most))

    roomy_as : length d.gets.waiting < d.max_waiting
        → nat_le d.max_waiting (length pool.gets.waiting) ≡ false
    roomy_as fewer = lt-leb d.max_waiting (length pool.gets.waiting)
        (omega (arith, length-map d.gets.waiting (owner has_get visitors), fewer))

    entered_so : (answer : CoreReply) (hand : Option (Item V)) (d' : State (Item V)) → cannot_wait runtime wait ≡ false
        → Does d (GetEnter (not (is_reached (deadline_after now wait) now))) hand answer d'
        → Polled (reply_to (got (turn_after answer hand))) d'
        (Some (Visitor.Get (stage_after (deadline_after now wait) answer))) (given (got (turn_after answer hand)) out)
    entered_so CoreReply.Closed None d' has e = new_fails true Closed d' e.1 (rw (has, e.0) refl)
    entered_so CoreReply.Full None d' has e =
        let late : is_reached (deadline_after now wait) now ≡ true = not_false _ e.2 in
        new_fails true Timeout d' e.3 (rw (has, e.0, none_free e.1, late) refl)
      where
        not_false : (b : Bool) → not b ≡ false → b ≡ true
        not_false true is = refl
        not_false false is = cc
    entered_so CoreReply.OutOfMemory None d' has e =
        let early = not-true (is_reached (deadline_after now wait) now) e.2 in
        new_fails false OutOfMemory d' e.4 (rw (has, e.0, none_free e.1, early, roomy_as e.3) refl)
    entered_so CoreReply.Crowded None d' has e =
        let early = not-true (is_reached (deadline_after now wait) now) e.2 in
        new_fails true Crowded d' e.4 (rw (has, e.0, none_free e.1, early, crowded_as e.3) refl)
    entered_so CoreReply.Object (Some item) d' has e =
        let free : nat_lt 0 (free_objects pool) ≡ true =
        lt-ltb 0 (free_objects pool) (omega (arith, e.1, objects-image runtime most next d visitors out)) in
        let takes : enter_get true n wait now pool ≡ hand_out (ended n pool) = rw (has, e.0, free) refl in
        let makes = by_visitor new_visitor (new_get wait) here refl true ∙ takes
        ∙ hands_out runtime most next d (set visitors n over) out item (ended n pool) new_ended e.2 in
        by_settling (Move.Poll n now) pool well (Reply.Object item.number) runtime most next (handed d)
        (set visitors n over) (with_item item out)
        (counted-handed runtime most next d (set visitors n over) out item new_counted) true makes d' e.3
    entered_so (CoreReply.Waiting ticket) None d' has e =
        let waits : Option (Visitor V) = Some (Visitor.Get (Queued ticket (deadline_after now wait))) in
        let early = not-true (is_reached (deadline_after now wait) now) e.2 in
        let after = image-joined_get runtime most next d visitors out k n new_visitor waits here ticket e.4 (λ u. refl)
        (λ u. refl) (λ u. refl) (λ u. refl) in
        let joins : enter_get true n wait now pool
        ≡ (
          Reply.Pending,
          record pool {
            parties = set (map party_of visitors) n (Some (queued_get (deadline_after now wait)));
            gets = joined n pool.gets;
          },
        ) =
        rw (has, e.0, none_free e.1, early, roomy_as e.3) refl in
        let makes = by_visitor new_visitor (new_get wait) here refl true ∙ joins
        ∙ ap (λ (q : Pool V). (Reply.Pending, q)) (sym after) in
        let free = objects-image runtime most next d visitors out in
        let nobody = well.lawful.nobody_waits in
        by_resting (Move.Poll n now) pool well Reply.Pending runtime most next (with_get ticket d)
        (set visitors n waits) out
        (counted-joined_get runtime most next d visitors out k n new_visitor waits here ticket e.4 (λ u. refl)
        (λ u. refl) (λ u. refl) (λ u. refl)) true makes d' e.5
        (subst NobodyWaits (sym after)
        (record { objects = λ is some. absurd (omega (arith, some, free, e.1)); room = nobody.room }))
    entered_so _ None d' has e = absurd e
    entered_so _ (Some item) d' has e = absurd e

    new_polled : (turn : Poll (Result (Item V) PoolError)) (after : GetStage) (d' : State (Item V))
        → PollsGet runtime now (Unpolled wait) d turn after d'
        → Polled (reply_to (got turn)) d' (Some (Visitor.Get after)) (given (got turn) out)
    new_polled turn after d' (inl lacks) =
        rw (lacks.1, lacks.2) (new_fails true NoRuntimeSpecified d' lacks.3 (rw lacks.0 refl))
    new_polled turn after d' (inr has) =
        rw (has.1.1.1.1, has.1.1.1.2) (entered_so has.1.0 has.1.1.0 d' has.0 has.1.1.1.0)

  -- ---- a get in the queue

  module _ (t : ℕ) (deadline : Option Moment)
      (here : slice_get visitors n ≡ Some (Some (Visitor.Get (Queued t deadline)))) where
    abbrev queued_visitor : Option (Visitor V)
    queued_visitor = Some (Visitor.Get (Queued t deadline))

    mine : (is_listed t d.gets ≡ true) × (owner has_get visitors t ≡ n)
    mine = k.gets.listed n t queued_visitor here (eq-eqb t t refl)

    -- the get ends and leaves the queue
    queued_ended : image runtime most next (without_get t d) (set visitors n over) out ≡ ended n pool
    queued_ended = image-without_get runtime most next d visitors out k n queued_visitor over here t mine.1 (λ u. refl)
        (λ u. refl) (λ u. refl) (λ u. refl)

    queued_counted : TrialInvariant (without_get t d) (set visitors n over) out
    queued_counted = counted-without_get runtime most next d visitors out k n queued_visitor over here t mine.1
        (λ u. refl) (λ u. refl) (λ u. refl) (λ u. refl)

    -- it was granted an object exactly if its ticket was
    granted_here : has_number n pool.gets.granted ≡ has_number t d.gets.granted
    granted_here = granted-renamed has_get d.gets visitors k.gets n queued_visitor over here t mine.1 (λ u. refl)

    asked_so : (answer : CoreReply) (hand : Option (Item V)) (d' : State (Item V))
        → Does d (GetAsk t (is_reached deadline now)) hand answer d'
        → Polled (reply_to (got (turn_after answer hand))) d' (Some (Visitor.Get (stage_after deadline answer)))
        (given (got (turn_after answer hand)) out)
    asked_so CoreReply.Unknown None d' e = absurd (let differ : true ≡ false = sym mine.0 ∙ e.0 in cc)
    asked_so (CoreReply.Waiting same) None d' e =
        let waits : inquire_get n deadline now pool ≡ (Reply.Pending, pool) = rw (e.0, granted_here ∙ e.1, e.3) refl in
        rw e.4 (subst (λ (c : State (Item V)). Polled Reply.Pending c queued_visitor out) (sym e.5)
        (unchanged queued_visitor (queued_get deadline) here refl waits))
    asked_so CoreReply.Expired None d' e =
        let late : inquire_get n deadline now pool ≡ (Reply.Failed Timeout, ended n pool) =
        rw (e.0, granted_here ∙ e.1, e.3) refl in
        let makes = by_visitor queued_visitor (queued_get deadline) here refl true ∙ late
        ∙ ap (λ (q : Pool V). (Reply.Failed Timeout, q)) (sym queued_ended) in
        by_settling (Move.Poll n now) pool well (Reply.Failed Timeout) runtime most next (without_get t d)
        (set visitors n over) out queued_counted true makes d' e.4
    asked_so CoreReply.Object (Some item) d' e =
        let takes : inquire_get n deadline now pool ≡ hand_out (ended n pool) = rw (e.0, granted_here ∙ e.1) refl in
        let makes = by_visitor queued_visitor (queued_get deadline) here refl true ∙ takes ∙ hands_out runtime most next
        (without_get t d) (set visitors n over) out item (ended n pool) queued_ended e.2 in
        by_settling (Move.Poll n now) pool well (Reply.Object item.number) runtime most next (handed (without_get t d))
        (set visitors n over) (with_item item out)
        (counted-handed runtime most next (without_get t d) (set visitors n over) out item queued_counted) true makes d'
        e.3
    asked_so CoreReply.Closed None d' e =
        let refused : inquire_get n deadline now pool ≡ (Reply.Failed Closed, ended n pool) =
        elim (cases_Bool d.is_open) [
          | inl is ↦ let nothing = e.1 is in rw (is, granted_here ∙ nothing.0, nothing.1) refl
          | inr shut ↦ rw shut refl
        ] in
        let makes = by_visitor queued_visitor (queued_get deadline) here refl true ∙ refused
        ∙ ap (λ (q : Pool V). (Reply.Failed Closed, q)) (sym queued_ended) in
        let nobody = well.lawful.nobody_waits in
        let Waits : Queue → Type 0 =
        λ q. d.is_open ≡ true → 0 < d.limit - (length d.idle + length out) - length q.granted → q.waiting ≡ [] in
        by_resting (Move.Poll n now) pool well (Reply.Failed Closed) runtime most next (without_get t d)
        (set visitors n over) out queued_counted true makes d' e.2
        (record {
          objects = λ is some. let nothing = e.1 is in absurd (let less = rw nothing.1 at some in omega (arith, less));
          room =
              subst Waits
              (sym (renamed-set has_add d.adds visitors k.adds n queued_visitor over here (λ u. refl) (λ u. refl)))
              nobody.room;
        })
    asked_so _ None d' e = absurd e
    asked_so _ (Some item) d' e = absurd e

  -- the poll of a get at any stage
  pub get_polled : (stage : GetStage) → slice_get visitors n ≡ Some (Some (Visitor.Get stage))
      → (turn : Poll (Result (Item V) PoolError)) (after : GetStage) (d' : State (Item V))
      → PollsGet runtime now stage d turn after d'
      → Polled (reply_to (got turn)) d' (Some (Visitor.Get after)) (given (got turn) out)
  get_polled (Unpolled wait) here turn after d' polls = new_polled wait here turn after d' polls
  get_polled (Queued t deadline) here turn after d' polls =
      rw (polls.1.1.1, polls.1.1.2) (asked_so t deadline here polls.0 polls.1.0 d' polls.1.1.0)
  get_polled Finished here turn after d' polls =
      let rests = unchanged (Some (Visitor.Get Finished)) finished here refl refl in
      rw (polls.0, polls.1, polls.2) rests
