-- What an advance of a party has, and its cancelling: a lawful pool within the reach, the numbers of the objects, and
-- the object that the reply gives.
use Rattle.deadpool_trial.proofs.Basics.{one_if, length-with_numbered, count-with, count-cons_option, is_at}
use Rattle.deadpool_trial.proofs.Basics.{IsOnce-push, order_same, Always-bind, has_number, without_number}
use Rattle.deadpool_trial.proofs.Basics.{largest_usize, KeepsOrder, Return, Always, ◌≡◌, ℕ, ◌+◌, ◌-◌, ◌≤◌, List, true}
use Rattle.deadpool_trial.proofs.Basics.{false, set, refl, ap, ◌∙◌, arith, inl, inr, Option, Some, None, Result, Ok}
use Rattle.deadpool_trial.proofs.Basics.{Err, [], ◌∷◌, ◌++◌, ◌==◌, sym, eq-eqb, ◌<◌, Bool, not, length, nat_lt, ◌&&◌}
use Rattle.deadpool_trial.proofs.Basics.{is_none, unwrap_or, max, append_assoc, ◌⊎◌, cond_both, ltb-true, ltb-false}
use Rattle.deadpool_trial.proofs.Basics.{slice_get-get_or, slice_get, nat_le, leb-false, length-append}
use Rattle.deadpool_trial.proofs.Words.{PoolInvariant, queue, waits_at, is_queued}
use Rattle.deadpool_trial.proofs.Words.{created, reviewed, checked, hand_out}
use Rattle.deadpool_trial.proofs.Words.{advance_at, enter, inquire, joined, go_on_creating, cancel_with, Pool, Party}
use Rattle.deadpool_trial.proofs.Words.{prepared_at, is_going, is_creating, prepared_by, places, settle, unpolled}
use Rattle.deadpool_trial.proofs.Words.{queued, going, Standing, creating, recycling, checking, finished}
use Rattle.deadpool_trial.proofs.Words.{creating_count, goes, creates, reach, IsOutIfGiven, prepared_in, fail}
use Rattle.deadpool_trial.proofs.Words.{with_slot, slot_number, removed, serve_from, to, Move, Reply}
use Rattle.deadpool_trial.proofs.Words.{other_idle-shorter, start, next_idle, other_idle, new_metrics, Asking, create}
use Rattle.deadpool_trial.proofs.Words.{prepare, post_create, with_value, object_of, Position, Preparation, PreRecycle}
use Rattle.deadpool_trial.proofs.Words.{Prepared, Verdict, Slot, deadline_after, is_reached, lacks_runtime}
use Rattle.deadpool_trial.proofs.Words.{is_positive, QueueMode, Fifo, Lifo, Timeouts, PoolError, Timeout, Backend}
use Rattle.deadpool_trial.proofs.Words.{NoRuntimeSpecified, PostCreateHook, Closed, OutOfMemory, NumbersExhausted}
use Rattle.deadpool_trial.proofs.Words.{Crowded, Moment, Poll}
use Rattle.deadpool_trial.specs.declared.moves.Reply.TheVariants as reply
use Rattle.futures.specs.declared.task.Poll.TheVariants as poll
use Rattle.deadpool_parts.specs.declared.errors.TimeoutType.TheVariants as phase
use Rattle.deadpool_managed.specs.declared.calls.Verdict.TheVariants as verdict
use Rattle.deadpool_managed.specs.Stages as prepared
use Rattle.deadpool_trial.proofs.NumberLists.{has_number-push, has_number-last, without_number-once, IsOnce-left}
use Rattle.deadpool_trial.proofs.NumberCounts.{held, held-served, has_number-held}
use Rattle.deadpool_trial.proofs.PreparedNumbers.{IsNumber, prepare_number}
use Rattle.deadpool_trial.proofs.Computations.{Always-then}
use Rattle.deadpool_trial.proofs.QueuesAndPlaces.{MarksOthers, IsOrderly, Follows, Follows-self, unqueued_gone}
use Rattle.deadpool_trial.proofs.QueuesAndPlaces.{unqueued_orderly, unqueued_marks, not_queued, set_marks, counts}
use Rattle.deadpool_trial.proofs.QueuesAndPlaces.{standing_at, holds, makes, left_follows, same_places_follow}
use Rattle.deadpool_trial.proofs.NumbersAndOrder.{Passes, prepares, passes_self, settle_passes, party_passes}
use Rattle.deadpool_trial.proofs.NumbersAndOrder.{order_left, order_pushed}

-- if no object is served, none is idle
next_idle-none : {V : Type 0} (mode : QueueMode) (idle : List (Slot V)) → next_idle mode idle ≡ None → length idle ≡ 0
next_idle-none mode [] h = refl
next_idle-none Fifo (x ∷ xs) h = cc
next_idle-none Lifo (x ∷ xs) h = let there = slice_get-get_or (x ∷ xs) (length (x ∷ xs) - 1) x (omega arith) in cc

module _ {V C R S : Type 0} where
  -- the object that the party prepares, or none
  abbrev pub its_object : Party V C R S → List (Slot V)
  its_object party = prepared_in (Some (Some party))

  held-its_object : (j : ℕ) (party : Party V C R S) → held j (its_object party) ≡ one_if (prepares j (Some party))
  held-its_object j party = omega (arith, count-cons_option slot_number j (prepared_at party.standing) [])

module _ {V C R S F A : Type 0} (E : Type 0) (m : Move V) (n : ℕ) (timeouts : Timeouts) (p : Pool V C R S F A) where
  abbrev pub Stands : Standing V C R S → Type 0
  Stands old = slice_get p.parties n ≡ Some (Some (standing_at timeouts old))

  -- what a step of one that stood so has, with its reply
  abbrev pub Advanced : Standing V C R S → Reply V E × Pool V C R S F A → Type 0
  Advanced old x =
      Follows (reach p) x.1 × Passes false (Some n) (its_object (standing_at timeouts old)) p x.1
      × IsOutIfGiven m x.0 x.1

  module _ (l : PoolInvariant p) where
    -- The party stands elsewhere, with as many places and no more objects.
    goes_on : (old new : Standing V C R S) (answer : Reply V E) (grows : Bool) (next : ℕ) (out : List (Slot V))
        → Stands old → next ≡ p.next + one_if grows
        → waits_at old ≡ waits_at new → holds new + length out ≡ holds old + length p.out
        → makes new + length out ≤ makes old + length p.out
        → ((j : ℕ) → one_if (prepares j (Some (standing_at timeouts new))) + held j out
        ≤ one_if (prepares j (Some (standing_at timeouts old))) + held j p.out + one_if (grows && (p.next == j)))
        → ((j : ℕ) → held j p.out ≤ held j out)
        → IsOutIfGiven m answer (to n (standing_at timeouts old) new (record p { next = next; out = out }))
        → Advanced old (answer, to n (standing_at timeouts old) new (record p { next = next; out = out }))
    goes_on old new answer grows next out h e waits same few fewer more gives =
        let before : Party V C R S = standing_at timeouts old in (
          same_places_follow (reach p) n timeouts old new next p.idle out p (Follows-self p l) h waits same
              (omega (arith, few)),
          party_passes n (Some before) (Some (standing_at timeouts new)) grows next p.idle out p.granted p.waiting
              (its_object before) p h e (omega arith) (order_same (queue p))
              (λ j. omega (arith, fewer j)) (λ j. omega (arith, held-its_object j before, more j)),
          gives,
        )

    -- It leaves what it held and the queue, which is so.
    leaves : (old : Standing V C R S) (new : Option (Party V C R S)) (granted waiting : List ℕ) → Stands old
        → KeepsOrder (queue p) (granted ++ waiting)
        → IsOrderly (reach p) (record p { granted = granted; waiting = waiting })
        → MarksOthers n (record p { granted = granted; waiting = waiting })
        → is_queued (Some new) ≡ false → is_going new ≡ false → is_creating new ≡ false → prepared_by new ≡ None
        → Follows (reach p)
        (settle (record p {
          parties = set p.parties n new;
          granted = without_number n granted;
          waiting = without_number n waiting;
        }))
        × Passes false (Some n) (its_object (standing_at timeouts old)) p
        (settle (record p {
          parties = set p.parties n new;
          granted = without_number n granted;
          waiting = without_number n waiting;
        }))
    leaves old new granted waiting h order k marks f0 f1 f2 f3 =
        let before : Party V C R S = standing_at timeouts old in (
          left_follows (reach p) n before new (record p { granted = granted; waiting = waiting }) k marks h f0 f1 f2 f3,
          settle_passes false (Some n) (its_object before) p _
              (party_passes n (Some before) new false p.next p.idle p.out (without_number n granted)
              (without_number n waiting) (its_object before) p h (omega arith) (omega arith)
              (order_left n (queue p) granted waiting order)
              (λ j. let none : one_if (prepares j new) ≡ 0 = ap (λ o. one_if (is_at slot_number j o)) f3 in
              omega (arith, none)) (λ j. omega (arith, held-its_object j before))),
        )

    -- it ends without an object, from a queue that is so
    fails_from : (old : Standing V C R S) (cause : PoolError E) (granted waiting : List ℕ) → Stands old
        → KeepsOrder (queue p) (granted ++ waiting)
        → IsOrderly (reach p) (record p { granted = granted; waiting = waiting })
        → MarksOthers n (record p { granted = granted; waiting = waiting })
        → Advanced old (fail n (standing_at timeouts old) cause (record p { granted = granted; waiting = waiting }))
    fails_from old cause granted waiting h order k marks =
        let all = leaves old (Some (standing_at timeouts finished)) granted waiting h order k marks refl refl refl
        refl in (all.0, all.1, tt)

    -- and from the queue that there was
    fails : (old : Standing V C R S) (cause : PoolError E) → Stands old
        → Advanced old (fail n (standing_at timeouts old) cause p)
    fails old cause h = fails_from old cause p.granted p.waiting h (order_same (queue p)) (Follows-self p l).orderly
        (λ j other. l.marks j)

    gone : (old : Standing V C R S) → Stands old → Advanced old (reply.Cancelled, removed n p)
    gone old h =
        let all = leaves old None p.granted p.waiting h (order_same (queue p)) (Follows-self p l).orderly
        (λ j other. l.marks j) refl refl refl refl in (all.0, all.1, tt)

    -- A party that holds a place, or may take a free one, is served, from a queue that is so.
    module _ (old : Standing V C R S) (h : Stands old) (granted waiting : List ℕ)
        (order : KeepsOrder (queue p) (granted ++ waiting))
        (k : IsOrderly (reach p) (record p { granted = granted; waiting = waiting }))
        (marks : MarksOthers n (record p { granted = granted; waiting = waiting }))
        (out_of_it : has_number n (granted ++ waiting) ≡ false) (f1 : creates old ≡ false) (f2 : prepared_at old ≡ None)
        (room : places (record p { granted = granted; waiting = waiting }) + 1
        ≤ max p.limit (reach p) + one_if (goes old))
        (waits : p.is_open ≡ true → places (record p { granted = granted; waiting = waiting }) + 1
        < p.limit + one_if (goes old) → waiting ≡ []) where
      -- it stands elsewhere with one place, and so many are idle
      placed : (new : Standing V C R S) (answer : Reply V E) (idle : List (Slot V)) → waits_at new ≡ false
          → holds new ≡ 1
          → length idle ≤ length p.idle → (length idle + makes new ≤ length p.idle) ⊎ (length idle ≡ 0)
          → ((j : ℕ) → held j idle + one_if (prepares j (Some (standing_at timeouts new))) ≡ held j p.idle)
          → IsOutIfGiven m answer
          (to n (standing_at timeouts old) new (record p { idle = idle; granted = granted; waiting = waiting }))
          → Advanced old (
            answer,
            to n (standing_at timeouts old) new (record p { idle = idle; granted = granted; waiting = waiting }),
          )
      placed new answer idle served one shorter few same gives =
          let before : Party V C R S = standing_at timeouts old in
          let after : Party V C R S = standing_at timeouts new in
          let c = rw (f1, f2) at (counts p.parties n (Some before) (Some after) h) in (
            record {
              orderly = record {
                once = k.once;
                few_places = omega (arith, c, one, room);
                few_objects = elim few [
                  | inl fewer ↦ omega (arith, c, fewer, k.few_objects)
                  | inr none ↦ omega (arith, c, one, room, none)
                ];
                few_waiting = k.few_waiting;
              };
              marks = set_marks n (Some before) (Some after)
                  (record p { idle = idle; granted = granted; waiting = waiting }) h marks (out_of_it ∙ sym served);
              nobody_waits = λ opens free. waits opens (omega (arith, c, one, free));
            },
            party_passes n (Some before) (Some after) false p.next idle p.out granted waiting (its_object before) p h
                (omega arith) shorter order
                (λ j. omega (arith, same j)) (λ j. omega (arith, same j, held-its_object j before)),
            gives,
          )

      -- by the object that is served, or none
      served_has : (found : Option (Slot V)) (allowed : ℕ) → next_idle p.mode p.idle ≡ found
          → Advanced old
          (serve_from found allowed n (standing_at timeouts old) (record p { granted = granted; waiting = waiting }))
      served_has (Some slot) allowed e =
          let less = other_idle-shorter p.mode p.idle slot e in
          cond_both (nat_lt 0 allowed) _ _ (Advanced old)
          (λ some. placed (recycling (PreRecycle slot start) (Some (allowed - 1))) reply.More
          (other_idle p.mode p.idle) refl refl (omega (arith, less)) (inl (omega (arith, less)))
          (λ j. held-served j p.mode p.idle slot e) tt)
          (λ none. placed (going None) reply.Pending p.idle refl refl (omega arith) (inl (omega arith))
          (λ j. omega arith) tt)
      served_has None allowed e =
          cond_both (nat_lt (p.next + creating_count p) largest_usize) _ _ (Advanced old)
          (λ few. placed (creating None None) reply.More p.idle refl refl (omega arith)
          (inr (next_idle-none p.mode p.idle e)) (λ j. omega arith) tt)
          (λ full. fails_from old NumbersExhausted granted waiting h order k marks)

    -- who joins the queue if no place is free
    joined_has : (deadline : Option Moment) (found : Bool) → Stands unpolled → p.limit ≤ places p
        → length p.waiting < p.max_waiting
        → Advanced unpolled (joined n (standing_at timeouts unpolled) deadline p found)
    joined_has deadline true h full roomy =
        let k = (Follows-self p l).orderly in
        let before : Party V C R S = standing_at timeouts unpolled in
        let after : Party V C R S = standing_at timeouts (queued deadline) in
        let out_of_it = not_queued n before p l.marks h refl in
        let c = counts p.parties n (Some before) (Some after) h in (
          record {
            orderly = record {
              once = rw (← append_assoc) (IsOnce-push (queue p) n k.once out_of_it);
              few_places = omega (arith, c, k.few_places);
              few_objects = omega (arith, c, k.few_objects);
              few_waiting = omega (arith, length-append p.waiting (n ∷ []), roomy);
            };
            marks = set_marks n (Some before) (Some after) (record p { waiting = p.waiting ++ n ∷ [] }) h
                (λ j other. ap (has_number j) (sym (append_assoc p.granted p.waiting (n ∷ [])))
                ∙ has_number-push j n (queue p) other ∙ l.marks j)
                (ap (has_number n) (sym (append_assoc p.granted p.waiting (n ∷ []))) ∙ has_number-last n (queue p));
            nobody_waits = λ opens free. absurd (omega (arith, c, full, free));
          },
          party_passes n (Some before) (Some after) false p.next p.idle p.out p.granted (p.waiting ++ n ∷ []) [] p h
              (omega arith) (omega arith)
              (order_pushed n p.granted p.waiting out_of_it) (λ j. omega arith) (λ j. omega arith),
          tt,
        )
    joined_has deadline false h full roomy = fails unpolled OutOfMemory h

    -- a party that holds a place and nothing else goes on
    going_has : (allowance : Option ℕ) → Stands (going allowance)
        → Advanced (going allowance)
        (serve_from (next_idle p.mode p.idle) (unwrap_or allowance (length p.idle)) n
        (standing_at timeouts (going allowance)) p)
    going_has allowance h =
        let k = (Follows-self p l).orderly in
        served_has (going allowance) h p.granted p.waiting (order_same (queue p)) k (λ j other. l.marks j)
        (not_queued n (standing_at timeouts (going allowance)) p l.marks h refl) refl refl
        (omega (arith, k.few_places)) (λ is_open free. l.nobody_waits is_open (omega (arith, free)))
        (next_idle p.mode p.idle) (unwrap_or allowance (length p.idle)) refl

    -- the object that was under preparation is handed out
    handed_has : (old : Standing V C R S) (its slot : Slot V) → Stands old → waits_at old ≡ false → holds old ≡ 1
        → makes old ≡ 1 → prepared_at old ≡ Some its → slot.number ≡ its.number
        → Advanced old (hand_out n (standing_at timeouts old) slot p)
    handed_has old its slot h other one made e same =
        let longer = length-with_numbered slot_number slot p.out in
        let here : one_if (slot.number == slot.number) ≡ 1 = ap one_if (eq-eqb slot.number slot.number refl) in
        goes_on old finished (reply.Object slot.number) false p.next (with_slot slot p.out) h (omega arith) other
        (omega (arith, one, longer)) (omega (arith, made, longer))
        (λ j.
        let equal : one_if (prepares j (Some (standing_at timeouts old))) ≡ one_if (slot.number == j) =
        ap (λ o. one_if (is_at slot_number j o)) e ∙ ap (λ i. one_if (i == j)) (sym same) in
        omega (arith, count-with slot_number j slot p.out, equal))
        (λ j. omega (arith, count-with slot_number j slot p.out))
        (has_number-held slot.number (with_slot slot p.out)
        (omega (arith, count-with slot_number slot.number slot p.out, here)))

    -- by what came of a preparation
    reviewed_has : (preparation : Preparation V R S) (allowance : Option ℕ) (x : Prepared V R S)
        → Stands (recycling preparation allowance) → IsNumber (object_of preparation).number x
        → Always (Advanced (recycling preparation allowance))
        (reviewed n (standing_at timeouts (recycling preparation allowance)) allowance p x)
    reviewed_has preparation allowance (prepared.Accepted slot) h same =
        handed_has (recycling preparation allowance) (object_of preparation) slot h refl refl refl refl same
    reviewed_has preparation allowance (prepared.Pending next) h same =
        goes_on (recycling preparation allowance) (recycling next None) reply.Pending false p.next p.out h
        (omega arith) refl refl (omega arith)
        (λ j. let equal : one_if ((object_of next).number == j) ≡ one_if ((object_of preparation).number == j) =
        ap (λ i. one_if (i == j)) same in omega (arith, equal)) (λ j. omega arith) tt
    reviewed_has preparation allowance (prepared.GivenUp slot) h same =
        λ left. goes_on (recycling preparation allowance) (going allowance) reply.More false p.next p.out h
        (omega arith) refl refl (omega arith) (λ j. omega arith) (λ j. omega arith) tt

    -- by what came of the hooks that see a new object
    checked_has : (slot : Slot V) (at : Position S) (x : Verdict S E × V) → Stands (checking slot at)
        → Always (Advanced (checking slot at)) (checked n (standing_at timeouts (checking slot at)) slot p x)
    checked_has slot at (verdict.Accepted, v) h =
        handed_has (checking slot at) slot (with_value v slot) h refl refl refl refl refl
    checked_has slot at (verdict.Pending next, v) h =
        goes_on (checking slot at) (checking (with_value v slot) next) reply.Pending false p.next p.out h
        (omega arith) refl refl (omega arith) (λ j. omega arith) (λ j. omega arith) tt
    checked_has slot at (verdict.Refused cause, v) h = λ left. fails (checking slot at) (PostCreateHook cause) h

    -- it is cancelled, by the object that it prepared, or none
    pub cancelled : (object : Option (Slot V)) (old : Standing V C R S) → Stands old
        → Always (Advanced old) (cancel_with object n p)
    cancelled (Some slot) old h = λ left. gone old h
    cancelled None old h = gone old h

    module _ (now : Moment) where
      entered_has : Stands unpolled → Always (Advanced unpolled) (enter n (standing_at timeouts unpolled) now p)
      entered_has h =
          let k = (Follows-self p l).orderly in
          let P : Asking V E C R S F A (Reply V E × Pool V C R S F A) → Type 0 = Always (Advanced unpolled) in
          cond_both (is_positive timeouts.wait && is_none p.runtime) _ _ P
          (λ lacks. fails unpolled NoRuntimeSpecified h) (λ serves.
          cond_both (not p.is_open) _ _ P (λ closed. fails unpolled Closed h) (λ opens.
          cond_both (nat_lt (places p) p.limit) _ _ P
          (λ few.
          let free = ltb-true (places p) p.limit few in
          served_has unpolled h p.granted p.waiting (order_same (queue p)) k (λ j other. l.marks j)
          (not_queued n (standing_at timeouts unpolled) p l.marks h refl) refl refl (omega (arith, free))
          (λ is_open more. l.nobody_waits is_open free) (next_idle p.mode p.idle) (length p.idle) refl)
          (λ full.
          cond_both (is_reached (deadline_after now timeouts.wait) now) _ _ P
          (λ late. fails unpolled (Timeout phase.Wait) h) (λ early.
          cond_both (nat_le p.max_waiting (length p.waiting)) _ _ P (λ crowded. fails unpolled Crowded h)
          (λ roomy found. joined_has (deadline_after now timeouts.wait) found h (ltb-false (places p) p.limit full)
          (leb-false p.max_waiting (length p.waiting) roomy))))))

      -- a later poll of one that is queued
      inquired_has : (deadline : Option Moment) → Stands (queued deadline)
          → Advanced (queued deadline) (inquire n (standing_at timeouts (queued deadline)) now deadline p)
      inquired_has deadline h =
          let k = (Follows-self p l).orderly in
          let P : Reply V E × Pool V C R S F A → Type 0 = Advanced (queued deadline) in
          cond_both (not p.is_open) _ _ P (λ closed. fails (queued deadline) Closed h) (λ opens.
          cond_both (has_number n p.granted) _ _ P
          (λ granted.
          let fewer = without_number-once n p.granted (IsOnce-left p.granted p.waiting k.once) granted in
          served_has (queued deadline) h (without_number n p.granted) (without_number n p.waiting)
          (order_left n (queue p) p.granted p.waiting (order_same (queue p)))
          (unqueued_orderly (reach p) n p k) (unqueued_marks n p (λ j other. l.marks j)) (unqueued_gone n p) refl refl
          (omega (arith, fewer, k.few_places))
          (λ is_open free. ap (without_number n) (l.nobody_waits is_open (omega (arith, fewer, free))))
          (next_idle p.mode p.idle) (length p.idle) refl)
          (λ waits.
          cond_both (is_reached deadline now) _ _ P (λ late. fails (queued deadline) (Timeout phase.Wait) h)
          (λ early. goes_on (queued deadline) (queued deadline) reply.Pending false p.next p.out h
          (omega arith) refl refl (omega arith) (λ j. omega arith) (λ j. omega arith) tt)))

      -- by a creation's answer: the new object has the next number
      created_has : (begun : Option C) (before deadline : Option Moment) (x : Poll (Result V E) × C)
          → Stands (creating begun before)
          → Advanced (creating begun before) (created n (standing_at timeouts (creating begun before)) now deadline p x)
      created_has begun before deadline (poll.Ready (Ok value), c) h =
          goes_on (creating begun before)
          (checking record { number = p.next; value = record { value = value; metrics = new_metrics now } } start)
          reply.More true (p.next + 1) p.out h refl refl refl (omega arith)
          (λ j. omega arith) (λ j. omega arith) tt
      created_has begun before deadline (poll.Ready (Err cause), c) h = fails (creating begun before) (Backend cause) h
      created_has begun before deadline (poll.Pending, c) h =
          cond_both (is_reached deadline now) _ _ (Advanced (creating begun before))
          (λ late. fails (creating begun before) (Timeout phase.Create) h)
          (λ early. goes_on (creating begun before) (creating (Some c) deadline) reply.Pending false p.next p.out h
          (omega arith) refl refl (omega arith) (λ j. omega arith) (λ j. omega arith) tt)

      creating_has : (begun : Option C) (deadline : Option Moment) → Stands (creating begun deadline)
          → Always (Advanced (creating begun deadline))
          (go_on_creating n (standing_at timeouts (creating begun deadline)) now begun deadline p)
      creating_has (Some c) deadline h =
          Always-bind (Advanced (creating (Some c) deadline)) (create {R = R} {S = S} {F = F} {A = A} (Some c))
          (λ x. Return (created n (standing_at timeouts (creating (Some c) deadline)) now deadline p x))
          (λ x. created_has (Some c) deadline deadline x h)
      creating_has None deadline h =
          let after = deadline_after now timeouts.create in
          let P : Asking V E C R S F A (Reply V E × Pool V C R S F A) → Type 0 =
          Always (Advanced (creating None deadline)) in
          cond_both (lacks_runtime p.runtime timeouts.create) _ _ P
          (λ lacks. fails (creating None deadline) NoRuntimeSpecified h)
          (λ serves. Always-bind (Advanced (creating None deadline)) (create {R = R} {S = S} {F = F} {A = A} None)
          (λ x. Return (created n (standing_at timeouts (creating None deadline)) now after p x))
          (λ x. created_has None deadline after x h))

      -- an advance, by the standing of the party
      pub advanced : (old : Standing V C R S) → Stands old
          → Always (Advanced old) (advance_at old n (standing_at timeouts old) now p)
      advanced unpolled h = entered_has h
      advanced (queued deadline) h = inquired_has deadline h
      advanced (going allowance) h = going_has allowance h
      advanced (creating begun deadline) h = creating_has begun deadline h
      advanced (recycling preparation allowance) h =
          Always-then (IsNumber (object_of preparation).number) (Advanced (recycling preparation allowance))
          (prepare now p.runtime timeouts.recycle p.hooks preparation)
          (λ x. reviewed n (standing_at timeouts (recycling preparation allowance)) allowance p x)
          (prepare_number E C R S now p.hooks p.runtime timeouts.recycle preparation)
          (λ x same. reviewed_has preparation allowance x h same)
      advanced (checking slot at) h =
          Always-bind (Advanced (checking slot at)) (post_create p.hooks slot at)
          (λ x. checked n (standing_at timeouts (checking slot at)) slot p x) (λ x. checked_has slot at x h)
      advanced finished h = (Follows-self p l, passes_self false (Some n) [] p, tt)
