-- A poll of an add at a core is a poll of its party in the pool.
use Rattle.deadpool_trial.proofs.OfUnmanaged.Basics.{◌≡◌, ℕ, List, Bool, true, false, set, map, refl, sym, ap, ◌∙◌}
use Rattle.deadpool_trial.proofs.OfUnmanaged.Basics.{subst, arith, Option, Some, eq-eqb, nat_lt, Result, slice_get}
use Rattle.deadpool_trial.proofs.OfUnmanaged.Basics.{lt-ltb, le-ltb, Poll, has_number}
use Rattle.deadpool_trial.proofs.OfUnmanaged.Basics.{Moment, Runtime, owner, is_listed}
use Rattle.deadpool_trial.proofs.OfUnmanaged.Basics.{joined, granted-renamed, nat_le, le-leb, lt-leb, length-map, ◌≤◌}
use Rattle.deadpool_trial.proofs.OfUnmanaged.Basics.{◌<◌, length}
use Rattle.deadpool_trial.proofs.OfUnmanaged.Words.{Crowded}
use Rattle.deadpool_trial.proofs.OfUnmanaged.Words.{PollsAdd, held_by, image, party_of}
use Rattle.deadpool_trial.proofs.OfUnmanaged.Words.{has_add, TrialInvariant, RunInvariant}
use Rattle.deadpool_trial.proofs.OfUnmanaged.Words.{NobodyWaits, Pool, new_add, queued_add, finished, free_room, State}
use Rattle.deadpool_trial.proofs.OfUnmanaged.Words.{Does, AddEnter, AddAsk, LeavesHand, without_add, with_add, stored}
use Rattle.deadpool_trial.proofs.OfUnmanaged.Words.{ended, store, enter_add, inquire_add, added, given, reply_to}
use Rattle.deadpool_trial.proofs.OfUnmanaged.Words.{AddStage, PoolError, Closed, OutOfMemory, Item, Reply, Visitor}
use Rattle.deadpool_trial.proofs.OfUnmanaged.Words.{CoreReply, add_stage_after as stage_after}
use Rattle.deadpool_trial.proofs.OfUnmanaged.Words.{add_turn_after as turn_after, room_left, Move}
use Rattle.deadpool_trial.proofs.OfUnmanaged.{Follows.by_settling, Follows.by_resting, GetPolls.Polled, GetPolls.pool}
use Rattle.deadpool_trial.proofs.OfUnmanaged.{GetPolls.by_visitor, GetPolls.unchanged, Visitors.room-image}
use Rattle.deadpool_trial.proofs.OfUnmanaged.{Visitors.stores, Visitors.counted-set, Visitors.image-set}
use Rattle.deadpool_trial.proofs.OfUnmanaged.{Visitors.left-none, Visitors.nobody-set, Visitors.counted-without_add}
use Rattle.deadpool_trial.proofs.OfUnmanaged.{Visitors.image-without_add, Visitors.counted-joined_add}
use Rattle.deadpool_trial.proofs.OfUnmanaged.{Visitors.image-joined_add}

module _ {V : Type 0} (runtime : Option Runtime) (most next : ℕ) (d : State (Item V))
    (visitors : List (Option (Visitor V))) (out : List (Item V)) (k : TrialInvariant d visitors out)
    (well : RunInvariant (image runtime most next d visitors out)) (n : ℕ) (now : Moment) where
  abbrev before : Pool V
  before = pool runtime most next d visitors out k well n now

  abbrev over : Option (Visitor V)
  over = Some (Visitor.Add AddStage.Finished)

  -- the party's poll is answered so, and its visitor and the core are these after it
  abbrev AddPolled : Reply V → State (Item V) → Option (Visitor V) → List (Item V) → Type 0
  AddPolled = Polled runtime most next d visitors out k well n now

  -- ---- an add that was not polled yet

  module _ (item : Item V) (here : slice_get visitors n ≡ Some (Some (Visitor.Add (AddStage.Unpolled item)))) where
    abbrev new_visitor : Option (Visitor V)
    new_visitor = Some (Visitor.Add (AddStage.Unpolled item))

    -- the add ends at its first poll
    new_ended : image runtime most next d (set visitors n over) out ≡ ended n before
    new_ended =
        let gone = left-none runtime most next d visitors out k n new_visitor over here (λ u. refl) (λ u. refl) in
        image-set runtime most next d visitors out k n new_visitor over here (λ u. refl) (λ u. refl) (λ u. refl)
        (λ u. refl)
        ∙ ap (λ (q : Pool V). record q { parties = set (map party_of visitors) n (Some finished) }) (sym gone)

    new_counted : TrialInvariant d (set visitors n over) out
    new_counted = counted-set runtime most next d visitors out k n new_visitor over here (λ u. refl) (λ u. refl)
        (λ u. refl) (λ u. refl)

    -- the object comes back, and the core is as it was
    new_refused : (found : Bool) (cause : PoolError) (d' : State (Item V)) → d' ≡ d
        → enter_add found n item before ≡ (Reply.Refused cause item.value, ended n before)
        → AddPolled (Reply.Refused cause item.value) d' over out
    new_refused found cause d' same fails =
        let answer = Reply.Refused cause item.value in
        let makes = by_visitor runtime most next d visitors out k well n now new_visitor (new_add item) here refl found
        ∙ fails ∙ ap (λ (q : Pool V). (answer, q)) (sym new_ended) in
        by_resting (Move.Poll n now) before well answer runtime most next d
        (set visitors n over) out new_counted found makes d' same
        (nobody-set runtime most next d visitors out k n new_visitor over here (λ u. refl) (λ u. refl) (λ u. refl)
        (λ u. refl) well.lawful.nobody_waits)

    none_free : room_left d ≡ 0 → nat_lt 0 (free_room before) ≡ false
    none_free none = le-ltb 0 (free_room before) (omega (arith, none, room-image runtime most next d visitors out k))

    -- it is crowded if the core is
    crowded_as : d.max_waiting ≤ length d.adds.waiting
        → nat_le d.max_waiting (length before.adds.waiting) ≡ true
    crowded_as most = le-leb d.max_waiting (length before.adds.waiting)
        (omega (arith, length-map d.adds.waiting (owner has_add visitors), most))

    roomy_as : length d.adds.waiting < d.max_waiting
        → nat_le d.max_waiting (length before.adds.waiting) ≡ false
    roomy_as fewer = lt-leb d.max_waiting (length before.adds.waiting)
        (omega (arith, length-map d.adds.waiting (owner has_add visitors), fewer))

    entered_so : (answer : CoreReply) (hand : Option (Item V)) (d' : State (Item V))
        → Does d (AddEnter true) (Some item) answer d' → LeavesHand answer (Some item) hand
        → AddPolled (reply_to (added (Some item) (turn_after answer hand))) d'
        (Some (Visitor.Add (stage_after answer hand))) (given (added (Some item) (turn_after answer hand)) out)
    entered_so CoreReply.Closed hand d' e left = rw left (new_refused true Closed d' e.1 (rw e.0 refl))
    entered_so CoreReply.Full hand d' e left = absurd (let differ = e.2 in cc)
    entered_so CoreReply.OutOfMemory hand d' e left =
        rw left (new_refused false OutOfMemory d' e.4 (rw (e.0, none_free e.1, roomy_as e.3) refl))
    entered_so CoreReply.Crowded hand d' e left =
        rw left (new_refused true Crowded d' e.4 (rw (e.0, none_free e.1, crowded_as e.3) refl))
    entered_so CoreReply.Stored hand d' e left =
        let free : nat_lt 0 (free_room before) ≡ true =
        lt-ltb 0 (free_room before) (omega (arith, e.1, room-image runtime most next d visitors out k)) in
        let comes_in : enter_add true n item before ≡ store item (ended n before) = rw (e.0, free) refl in
        let makes = by_visitor runtime most next d visitors out k well n now new_visitor (new_add item) here refl true
        ∙ comes_in
        ∙ stores runtime most next d (set visitors n over) out item (ended n before) new_ended in
        rw left
        (by_settling (Move.Poll n now) before well (Reply.Added item.number) runtime most next (stored item d)
        (set visitors n over) out
        (record { gets = new_counted.gets; adds = new_counted.adds; outside = new_counted.outside }) true makes d' e.2)
    entered_so (CoreReply.Waiting ticket) hand d' e left =
        let waits : Option (Visitor V) = Some (Visitor.Add (AddStage.Queued ticket item)) in
        let after = image-joined_add runtime most next d visitors out k n new_visitor waits here ticket e.4 (λ u. refl)
        (λ u. refl) (λ u. refl) (λ u. refl) in
        let joins : enter_add true n item before
        ≡ (
          Reply.Pending,
          record before {
            parties = set (map party_of visitors) n (Some (queued_add item));
            adds = joined n before.adds;
          },
        ) =
        rw (e.0, none_free e.1, roomy_as e.3) refl in
        let makes = by_visitor runtime most next d visitors out k well n now new_visitor (new_add item) here refl true
        ∙ joins ∙ ap (λ (q : Pool V). (Reply.Pending, q)) (sym after) in
        let free = room-image runtime most next d visitors out k in
        let nobody = well.lawful.nobody_waits in
        rw left
        (by_resting (Move.Poll n now) before well Reply.Pending runtime most next (with_add ticket d)
        (set visitors n waits) out
        (counted-joined_add runtime most next d visitors out k n new_visitor waits here ticket e.4 (λ u. refl)
        (λ u. refl) (λ u. refl) (λ u. refl)) true makes d' e.5
        (subst NobodyWaits (sym after)
        (record { objects = nobody.objects; room = λ is some. absurd (omega (arith, some, free, e.1)) })))
    entered_so _ hand d' e left = absurd e

  -- ---- an add in the queue

  module _ (t : ℕ) (item : Item V) (here : slice_get visitors n ≡ Some (Some (Visitor.Add (AddStage.Queued t item))))
    where
      abbrev queued_visitor : Option (Visitor V)
      queued_visitor = Some (Visitor.Add (AddStage.Queued t item))

      mine : (is_listed t d.adds ≡ true) × (owner has_add visitors t ≡ n)
      mine = k.adds.listed n t queued_visitor here (eq-eqb t t refl)

      -- the add ends and leaves the queue
      queued_ended : image runtime most next (without_add t d) (set visitors n over) out ≡ ended n before
      queued_ended =
          image-without_add runtime most next d visitors out k n queued_visitor over here t mine.1 (λ u. refl)
          (λ u. refl) (λ u. refl) (λ u. refl)

      queued_counted : TrialInvariant (without_add t d) (set visitors n over) out
      queued_counted = counted-without_add runtime most next d visitors out k n queued_visitor over here t mine.1
          (λ u. refl) (λ u. refl) (λ u. refl) (λ u. refl)

      -- it was granted room exactly if its ticket was
      granted_here : has_number n before.adds.granted ≡ has_number t d.adds.granted
      granted_here = granted-renamed has_add d.adds visitors k.adds n queued_visitor over here t mine.1 (λ u. refl)

      asked_so : (answer : CoreReply) (hand : Option (Item V)) (d' : State (Item V))
          → Does d (AddAsk t) (Some item) answer d' → LeavesHand answer (Some item) hand
          → AddPolled (reply_to (added (Some item) (turn_after answer hand))) d'
          (Some (Visitor.Add (stage_after answer hand))) (given (added (Some item) (turn_after answer hand)) out)
      asked_so CoreReply.Unknown hand d' e left = absurd (let differ : true ≡ false = sym mine.0 ∙ e.0 in cc)
      asked_so (CoreReply.Waiting same) hand d' e left =
          let waits : inquire_add n item before ≡ (Reply.Pending, before) = rw (e.0, granted_here ∙ e.1) refl in
          rw (left, e.3)
          (subst (λ (c : State (Item V)). AddPolled Reply.Pending c queued_visitor out) (sym e.4)
          (unchanged runtime most next d visitors out k well n now queued_visitor (queued_add item) here refl waits))
      asked_so CoreReply.Closed hand d' e left =
          let refused : inquire_add n item before ≡ (Reply.Refused Closed item.value, ended n before) = rw e.0 refl in
          let makes = by_visitor runtime most next d visitors out k well n now queued_visitor
          (queued_add item) here refl true ∙ refused
          ∙ ap (λ (q : Pool V). (Reply.Refused Closed item.value, q)) (sym queued_ended) in
          rw left
          (by_resting (Move.Poll n now) before well (Reply.Refused Closed item.value) runtime most next
          (without_add t d)
          (set visitors n over) out queued_counted true makes d' e.2
          (record {
            objects = λ is some. absurd (let differ : true ≡ false = sym is ∙ e.0 in cc);
            room = λ is some. absurd (let differ : true ≡ false = sym is ∙ e.0 in cc);
          }))
      asked_so CoreReply.Stored hand d' e left =
          let comes_in : inquire_add n item before ≡ store item (ended n before) = rw (e.0, granted_here ∙ e.1) refl in
          let makes = by_visitor runtime most next d visitors out k well n now queued_visitor
          (queued_add item) here refl true ∙ comes_in
          ∙ stores runtime most next (without_add t d) (set visitors n over) out item (ended n before) queued_ended in
          rw left
          (by_settling (Move.Poll n now) before well (Reply.Added item.number) runtime most next
          (stored item (without_add t d)) (set visitors n over) out
          (record { gets = queued_counted.gets; adds = queued_counted.adds; outside = queued_counted.outside }) true
          makes
          d' e.2)
      asked_so _ hand d' e left = absurd e

  -- the poll of an add at any stage
  pub add_polled : (stage : AddStage (Item V)) → slice_get visitors n ≡ Some (Some (Visitor.Add stage))
      → (turn : Poll (Result (Unit {0}) (Item V × PoolError))) (after : AddStage (Item V)) (d' : State (Item V))
      → PollsAdd stage d turn after d'
      → AddPolled (reply_to (added (held_by stage) turn)) d' (Some (Visitor.Add after))
      (given (added (held_by stage) turn) out)
  add_polled (AddStage.Unpolled item) here turn after d' polls =
      rw (polls.1.1.2, polls.1.1.3) (entered_so item here polls.0 polls.1.0 d' polls.1.1.0 polls.1.1.1)
  add_polled (AddStage.Queued t item) here turn after d' polls =
      rw (polls.1.1.2, polls.1.1.3) (asked_so t item here polls.0 polls.1.0 d' polls.1.1.0 polls.1.1.1)
  add_polled AddStage.Finished here turn after d' polls =
      let rests = unchanged runtime most next d visitors out k well n now
      (Some (Visitor.Add AddStage.Finished)) finished here refl refl in
      rw (polls.0, polls.1, polls.2) rests
