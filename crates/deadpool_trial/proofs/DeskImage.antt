-- The pool that a desk, its gets and the objects out stand for: as it settles, as one get changes, ends or starts, and
-- its counts.
use Rattle.deadpool_trial.proofs.Basics.{cond_both, ◌≡◌, ℕ, List, ◌∷◌, [], ◌++◌, false, eqb, Option, TicketsMatch, ◌+◌}
use Rattle.deadpool_trial.proofs.Basics.{length, map, take, drop, refl, ◌∙◌, arith, take-map, drop-map, map-append}
use Rattle.deadpool_trial.proofs.Basics.{length-map, owner, owned-granting, ◌≤◌, cond, set, sym, ap, inl, inr, Some}
use Rattle.deadpool_trial.proofs.Basics.{append-nil, is_some, slice_get, cases_lt, map-set, length-set, slice_get-map}
use Rattle.deadpool_trial.proofs.Basics.{Queue, absent, renamed-set, renamed-leaves, renamed-joins, one_if, count-set}
use Rattle.deadpool_trial.proofs.Basics.{held-set, ◌<◌, true, subst, None, has_number, without_number, Program, Gives}
use Rattle.deadpool_trial.proofs.Basics.{without_number-same, length-append, owned-push, renamed-push, count-push}
use Rattle.deadpool_trial.proofs.Basics.{held-push}
use Rattle.deadpool_trial.proofs.Words.{may, Slot, DeskState, Getting, has_ticket, queue_of, desk_places as places}
use Rattle.deadpool_trial.proofs.Words.{desk_grants as grants, settled, Pool, Party, is_going, is_creating}
use Rattle.deadpool_trial.proofs.Words.{prepared_by, places as pool_places, grants as pool_grants, settle, party_of}
use Rattle.deadpool_trial.proofs.Words.{TrialInvariant, is_listed}
use Rattle.deadpool_trial.proofs.Words.{desk_unqueued as unqueued, unqueued as pool_unqueued}
use Rattle.deadpool_trial.proofs.Words.{NobodyWaits, is_under_way, Timeouts, unpolled, desk_size as size}
use Rattle.deadpool_trial.proofs.Words.{desk_pending as pending, desk_status_of as status_of, DeskReply, DeskGivesUp}
use Rattle.deadpool_trial.proofs.Words.{size as pool_size, pending as pool_pending, status_of as pool_status_of, Setup}
use Rattle.deadpool_trial.proofs.Words.{image}
use Rattle.deadpool_managed.specs.Stages as stage

module _ {V : Type 0} where
  -- the queue with one more ticket
  abbrev pub queueing : ℕ → DeskState (Slot V) → DeskState (Slot V)
  queueing t d = record d { waiting = d.waiting ++ t ∷ [] }

  -- what is counted is given up
  pub is_done : (d d' without : DeskState (Slot V)) (count : ℕ) (r : DeskReply) → 1 ≤ count
      → DeskGivesUp d count r without d' → (r ≡ DeskReply.Done) × (d' ≡ without)
  is_done d d' without count DeskReply.Done some e = (refl, e.1)
  is_done d d' without count DeskReply.Unknown some e = absurd (omega (arith, some, e.0))
  is_done d d' without count _ some e = absurd e

module _ {V C R S : Type 0} where
  -- the tickets of a desk's queue are those of the gets, one each
  abbrev pub Owns : DeskState (Slot V) → List (Option (Getting V C R S)) → Type 0
  Owns d gets = TicketsMatch has_ticket (queue_of d) gets

  -- the get has no ticket
  abbrev pub NoTicket : Option (Getting V C R S) → Type 0
  NoTicket x = (u : ℕ) → has_ticket u x ≡ false

  -- it has this ticket and no other
  abbrev pub OneTicket : ℕ → Option (Getting V C R S) → Type 0
  OneTicket t x = (u : ℕ) → has_ticket u x ≡ eqb t u

  -- a desk with the same queue
  pub owned-same : (d d' : DeskState (Slot V)) (gets : List (Option (Getting V C R S))) → Owns d gets
      → d'.granted ≡ d.granted → d'.waiting ≡ d.waiting → Owns d' gets
  owned-same d d' gets o granted waiting = rw (granted, waiting) o

module _ {V : Type 0} where
  -- the queue of a desk in which the first n that wait have a place
  abbrev pub granting : ℕ → DeskState (Slot V) → DeskState (Slot V)
  granting n d = record d { granted = d.granted ++ take n d.waiting; waiting = drop n d.waiting }

module _ {V C R S : Type 0} where
  -- a change of nothing that is counted
  pub same_counted : (d d' : DeskState (Slot V)) (gets : List (Option (Getting V C R S))) (out : List (Slot V))
      → TrialInvariant d gets out
      → d'.granted ≡ d.granted → d'.waiting ≡ d.waiting → d'.going ≡ d.going → d'.creations ≡ d.creations
      → d'.outside ≡ d.outside → TrialInvariant d' gets out
  same_counted d d' gets out k granted waiting going creations outside =
      record {
        tickets = owned-same d d' gets k.tickets granted waiting;
        going = going ∙ k.going;
        creations = creations ∙ k.creations;
        outside = outside ∙ k.outside;
        room = k.room;
      }

  -- what is counted is counted after a grant
  pub counted_settled : (d : DeskState (Slot V)) (gets : List (Option (Getting V C R S))) (out : List (Slot V))
      → TrialInvariant d gets out → TrialInvariant (settled d) gets out
  counted_settled d gets out k =
      record {
        tickets = owned-granting has_ticket (queue_of d) gets k.tickets (grants d);
        going = k.going;
        creations = k.creations;
        outside = k.outside;
        room = k.room;
      }

module _ {M V E C R S F A : Type 0} (setup : Setup M F A V E C R S) where
  -- the pool has as many places held as the desk
  pub places-image : (d : DeskState (Slot V)) (gets : List (Option (Getting V C R S))) (out : List (Slot V))
      → TrialInvariant d gets out → pool_places (image setup d gets out) ≡ places d
  places-image d gets out k =
      let l : length (map (owner has_ticket gets) d.granted) ≡ length d.granted =
      length-map d.granted (owner has_ticket gets) in
      omega (arith, l, k.creations, k.outside, k.going)

  -- if the counts agree, the image of a settled desk is the image, settled
  pub settles : (core : DeskState (Slot V)) (gets : List (Option (Getting V C R S))) (out : List (Slot V))
      → TrialInvariant core gets out
      → image setup (settled core) gets out ≡ settle (image setup core gets out)
  settles core gets out k =
      let l2 : length (map (owner has_ticket gets) core.waiting) ≡ length core.waiting =
      length-map core.waiting (owner has_ticket gets) in
      let p : Pool V C R S F A = image setup core gets out in
      let same_places : places core ≡ pool_places p = sym (places-image core gets out k) in
      let same : grants core ≡ pool_grants p = rw (l2, ← same_places) refl in
      rw (
        map-append (owner has_ticket gets) core.granted (take (grants core) core.waiting),
        ← take-map
            (owner has_ticket gets) (grants core) core.waiting,
        ← drop-map (owner has_ticket gets)
            (grants core) core.waiting,
        same,
      ) refl

module _ {V C R S F A : Type 0} where
  -- nobody who waits can be granted a place
  grants-none : (p : Pool V C R S F A) → NobodyWaits p → pool_grants p ≡ 0
  grants-none p nobody =
      cond_both p.is_open _ _ (λ n. n ≡ 0)
      (λ is_open. elim (cases_lt (pool_places p) p.limit) [
        | inl free ↦ let none : length p.waiting ≡ 0 = ap length (nobody is_open free) in omega (arith, none)
        | inr full ↦ omega (arith, full)
      ])
      (λ shut. refl)

  -- if nobody waits, settling changes nothing
  pub settle-none : (p : Pool V C R S F A) → NobodyWaits p → settle p ≡ p
  settle-none p nobody =
      ap (λ k. record p { granted = p.granted ++ take k p.waiting; waiting = drop k p.waiting }) (grants-none p nobody)
      ∙ ap (λ ns. record p { granted = ns }) (append-nil p.granted)

module _ {V C R S : Type 0} where
  -- what a get adds to the counts: a place that it holds with nothing else
  abbrev pub goes : Option (Getting V C R S) → ℕ
  goes x = cond (is_going (party_of x)) 1 0

  -- a creation under way
  abbrev pub creates : Option (Getting V C R S) → ℕ
  creates x = cond (is_creating (party_of x)) 1 0

  -- an object under preparation
  abbrev pub prepares : Option (Getting V C R S) → ℕ
  prepares x = one_if (is_some (prepared_by (party_of x)))

  -- 1 until it has ended
  abbrev pub lasts : Option (Getting V C R S) → ℕ
  lasts x = cond (is_under_way x) 1 0

  -- the desk's counts change as those of the gets do when one of them changes
  pub record Shifts (d d' : DeskState (Slot V)) (old new : Option (Getting V C R S)) (out out' : List (Slot V)) :
      Type 0 where
    pub going : d'.going + goes old ≡ d.going + goes new
    pub creations : d'.creations + creates old ≡ d.creations + creates new
    pub outside : d'.outside + prepares old + length out ≡ d.outside + prepares new + length out'
    pub room : length out' + lasts new ≤ length out + lasts old

  -- so the counts stay those of the gets
  pub TrialInvariant-set : (d d' : DeskState (Slot V)) (gets : List (Option (Getting V C R S))) (n : ℕ)
      (old new : Option (Getting V C R S)) (out out' : List (Slot V))
      → slice_get gets n ≡ Some old → TrialInvariant d gets out → Owns d' (set gets n new)
      → Shifts d d' old new out out'
      → TrialInvariant d' (set gets n new) out'
  TrialInvariant-set d d' gets n old new out out' h k o s =
      let e : map party_of (set gets n new) ≡ set (map party_of gets) n (party_of new) = map-set party_of gets n new in
      let here : slice_get (map party_of gets) n ≡ Some (party_of old) = slice_get-map party_of gets n ∙ (rw h refl) in
      record {
        tickets = o;
        going =
            rw e (omega (
              arith,
              count-set is_going (map party_of gets) n (party_of old) (party_of new) here,
              k.going,
              s.going,
            ));
        creations =
            rw e (omega (
              arith,
              count-set is_creating (map party_of gets) n (party_of old) (party_of new) here,
              k.creations,
              s.creations,
            ));
        outside =
            rw e (omega (
              arith,
              held-set prepared_by (map party_of gets) n (party_of old) (party_of new) here,
              k.outside,
              s.outside,
            ));
        room = rw (length-set gets n new) (omega (arith, count-set is_under_way gets n old new h, k.room, s.room));
      }

-- another party stands at n
abbrev pub put : {V C R S F A : Type 0} → ℕ → Option (Party V C R S) → Pool V C R S F A → Pool V C R S F A
put n party p = record p { parties = set p.parties n party }

-- and is queued no more
abbrev pub put_off : {V C R S F A : Type 0} → ℕ → Option (Party V C R S) → Pool V C R S F A → Pool V C R S F A
put_off n party p = put n party (pool_unqueued n p)

module _ {M V E C R S F A : Type 0} (setup : Setup M F A V E C R S)
    (d : DeskState (Slot V)) (gets : List (Option (Getting V C R S))) (out : List (Slot V)) (o : Owns d gets) (n : ℕ)
    (old new : Option (Getting V C R S)) (h : slice_get gets n ≡ Some old) where
  abbrev in_pool : DeskState (Slot V) → List (Option (Getting V C R S)) → Pool V C R S F A
  in_pool d' gets' = image setup d' gets' out

  -- the pool with another queue and other parties
  abbrev with : Queue → List (Option (Party V C R S)) → Pool V C R S F A
  with q parties = record (in_pool d gets) { granted = q.granted; waiting = q.waiting; parties = parties }

  -- two such pools with the same parts
  with_same : (q q' : Queue) → q ≡ q'
      → with q (set (map party_of gets) n (party_of new)) ≡ with q' (map party_of (set gets n new))
  with_same q q' e = ap (λ x. with x (set (map party_of gets) n (party_of new))) e
      ∙ ap (with q') (sym (map-set party_of gets n new))

  -- a get without a ticket is in no queue
  pub unqueued-none : NoTicket old → pool_unqueued n (in_pool d gets) ≡ in_pool d gets
  unqueued-none none = ap (λ q. with q (map party_of gets)) (absent has_ticket (queue_of d) gets o n old new h none)

  -- a get without a ticket changes, and gets none
  pub put-image : NoTicket old → NoTicket new → put n (party_of new) (in_pool d gets) ≡ in_pool d (set gets n new)
  put-image none no_new = with_same _ _ (sym (renamed-set has_ticket (queue_of d) gets o n old new h none no_new))

  -- and it is in no queue
  pub put_off-image : NoTicket old → NoTicket new
      → put_off n (party_of new) (in_pool d gets) ≡ in_pool d (set gets n new)
  put_off-image none no_new = ap (put n (party_of new)) (unqueued-none none) ∙ put-image none no_new

  -- a queued get leaves the queue
  pub put_off-unqueued : (t : ℕ) → owner has_ticket gets t ≡ n → OneTicket t old → NoTicket new
      → put_off n (party_of new) (in_pool d gets) ≡ in_pool (unqueued t d) (set gets n new)
  put_off-unqueued t mine one no_new =
      with_same _ _ (sym (renamed-leaves has_ticket (queue_of d) gets o n old new h t mine one no_new))

  -- a get joins the queue
  pub put-queueing : (t : ℕ) → is_listed t d ≡ false → NoTicket old → OneTicket t new
      → put n (party_of new) (record (in_pool d gets) { waiting = (in_pool d gets).waiting ++ n ∷ [] })
      ≡ in_pool (queueing t d) (set gets n new)
  put-queueing t fresh none one =
      with_same _ _ (sym (renamed-joins has_ticket (queue_of d) gets o n old new h t fresh none one))

-- a computation gives what one that is equal to it gives
pub Gives-same : {Q : Type 0} {Answer : Q → Type 0} {A : Type 0} (may : (q : Q) → Answer q → Type 0)
    (p q : Program Q Answer A) (a : A)
    → p ≡ q → Gives may q a → Gives may p a
Gives-same may p q a e g = subst (λ r. Gives may r a) (sym e) g

module _ {V C R S : Type 0} (d : DeskState (Slot V)) (gets : List (Option (Getting V C R S))) (out : List (Slot V))
    (k : TrialInvariant d gets out)
    (n : ℕ) (old : Option (Getting V C R S)) (h : slice_get gets n ≡ Some old) where
  here : slice_get (map party_of gets) n ≡ Some (party_of old)
  here = slice_get-map party_of gets n ∙ (rw h refl)

  -- the desk counts what a get holds
  pub holds_place : goes old ≤ d.going
  holds_place = let c = count-set is_going (map party_of gets) n (party_of old) None here in omega (arith, c, k.going)

  -- a creation under way
  pub holds_creation : creates old ≤ d.creations
  holds_creation = let c = count-set is_creating (map party_of gets) n (party_of old) None here in
      omega (arith, c, k.creations)

  -- an object under preparation
  pub holds_object : prepares old ≤ d.outside
  holds_object = let c = held-set prepared_by (map party_of gets) n (party_of old) None here in
      omega (arith, c, k.outside)

module _ {M V E C R S F A : Type 0} (setup : Setup M F A V E C R S)
    (core : DeskState (Slot V)) (gets : List (Option (Getting V C R S))) (out : List (Slot V)) (n : ℕ)
    (new : Option (Getting V C R S)) where
  abbrev pool : Pool V C R S F A
  pool = image setup core gets out

  abbrev after : DeskState (Slot V) → Pool V C R S F A
  after d = image setup d (set gets n new) out

  -- what a get held is free
  pub ends_free : (d : DeskState (Slot V)) → put_off n (party_of new) pool ≡ after d
      → TrialInvariant d (set gets n new) out
      → (settle (put_off n (party_of new) pool) ≡ after (settled d)) × TrialInvariant (settled d) (set gets n new) out
  ends_free d e k = (
    ap settle e ∙ sym (settles setup d (set gets n new) out k),
    counted_settled d (set gets n new) out k,
  )

  -- it held no place, or none can be granted
  pub ends_quietly : (d : DeskState (Slot V)) → put_off n (party_of new) pool ≡ after d → NobodyWaits (after d)
      → settle (put_off n (party_of new) pool) ≡ after d
  ends_quietly d e nobody = ap settle e ∙ settle-none (after d) nobody

  -- a closed pool grants no place
  pub nobody_waits-closed : (d : DeskState (Slot V)) → d.is_open ≡ false → NobodyWaits (after d)
  nobody_waits-closed d shut is_open free = let differ : true ≡ false = sym is_open ∙ shut in cc

  module _ (k : TrialInvariant core gets out) (nobody : NobodyWaits pool) (old : Option (Getting V C R S))
      (h : slice_get gets n ≡ Some old) where
    -- a get that held nothing ends
    pub ends_empty : NoTicket old → NoTicket new → TrialInvariant core (set gets n new) out
        → settle (put_off n (party_of new) pool) ≡ after core
    ends_empty none no_new k' =
        let same : pool_places (after core) ≡ pool_places pool =
        places-image setup core (set gets n new) out k' ∙ sym (places-image setup core gets out k) in
        ends_quietly core (put_off-image setup core gets out k.tickets n old new h none no_new)
        (λ is_open free. ap (λ q. q.waiting)
        (renamed-set has_ticket (queue_of core) gets k.tickets n old new h none no_new)
        ∙ nobody is_open (subst (λ m. m < core.limit) same free))

    -- a get that waits leaves the queue: since it waited, no place was free
    pub nobody_waits-unqueued : (t : ℕ) → has_number t core.granted ≡ false → has_number t core.waiting ≡ true
        → TrialInvariant (unqueued t core) (set gets n new) out
        → NobodyWaits (after (unqueued t core))
    nobody_waits-unqueued t absent waits k' is_open free =
        let granted : without_number t core.granted ≡ core.granted = without_number-same t core.granted absent in
        let as_many : places (unqueued t core) ≡ places core =
        ap (λ ns. places (record core { granted = ns })) granted in
        let same : pool_places (after (unqueued t core)) ≡ pool_places pool =
        places-image setup (unqueued t core) (set gets n new) out k' ∙ as_many
        ∙ sym (places-image setup core gets out k) in
        let none : map (owner has_ticket gets) core.waiting ≡ [] =
        nobody is_open (subst (λ m. m < core.limit) same free) in
        absurd (waits_not core.waiting none waits)
      where
        waits_not : (xs : List ℕ) → map (owner has_ticket gets) xs ≡ [] → has_number t xs ≡ true → ⊥
        waits_not [] e w = cc
        waits_not (x ∷ xs) e w = cc

module _ {V C R S : Type 0} where
  -- a get that is not yet polled
  abbrev pub newcomer : Timeouts → Getting V C R S
  newcomer t = record { timeouts = t; stage = stage.Unpolled }

  -- a get that is not yet polled is in no count
  start_counted : (core : DeskState (Slot V)) (gets : List (Option (Getting V C R S))) (out : List (Slot V))
      → TrialInvariant core gets out → (t : Timeouts) → TrialInvariant core (gets ++ Some (newcomer t) ∷ []) out
  start_counted core gets out k t =
      let ps = map party_of gets in
      let new : Option (Party V C R S) = Some record { timeouts = t; standing = unpolled } in
      let e : map party_of (gets ++ Some (newcomer t) ∷ []) ≡ ps ++ new ∷ [] =
      map-append party_of gets (Some (newcomer t) ∷ []) in
      let longer = length-append gets (Some (newcomer t) ∷ []) in
      record {
        tickets = owned-push has_ticket (queue_of core) gets k.tickets (Some (newcomer t)) (λ u. refl);
        going = rw e (omega (arith, count-push is_going ps new, k.going));
        creations = rw e (omega (arith, count-push is_creating ps new, k.creations));
        outside = rw e (omega (arith, held-push prepared_by ps new, k.outside));
        room = omega (arith, count-push is_under_way gets (Some (newcomer t)), k.room, longer);
      }

module _ {M V E C R S F A : Type 0} (setup : Setup M F A V E C R S) where
  -- a new get is a new party in the image, and is counted
  pub starts : (core : DeskState (Slot V)) (gets : List (Option (Getting V C R S))) (out : List (Slot V))
      → TrialInvariant core gets out → (t : Timeouts)
      → (image setup core (gets ++ Some (newcomer t) ∷ []) out
      ≡ record (image setup core gets out)
      { parties = map party_of gets ++ Some (record { timeouts = t; standing = unpolled }) ∷ [] })
      × TrialInvariant core (gets ++ Some (newcomer t) ∷ []) out
  starts core gets out k t =
      let named = renamed-push has_ticket (queue_of core) gets k.tickets (Some (newcomer t)) in (
        rw (
          ap (λ q. q.granted) named,
          ap (λ q. q.waiting) named,
          map-append party_of gets (Some (newcomer t) ∷ []),
        ) refl,
        start_counted core gets out k t,
      )

  -- a desk says of itself what its pool does
  pub pool_status : (core : DeskState (Slot V)) (gets : List (Option (Getting V C R S))) (out : List (Slot V))
      → TrialInvariant core gets out
      → pool_status_of (image setup core gets out) ≡ status_of core
  pool_status core gets out k =
      let l1 : length (map (owner has_ticket gets) core.granted) ≡ length core.granted =
      length-map core.granted (owner has_ticket gets) in
      let l2 : length (map (owner has_ticket gets) core.waiting) ≡ length core.waiting =
      length-map core.waiting (owner has_ticket gets) in
      let p : Pool V C R S F A = image setup core gets out in
      let sizes : pool_size p ≡ size core = omega (arith, k.outside) in
      let pendings : pool_pending p ≡ pending core = omega (arith, l1, l2, k.going, k.creations) in
      rw (sizes, pendings) refl
