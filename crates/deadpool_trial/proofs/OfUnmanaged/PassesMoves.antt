-- What each move keeps of numbers, promises and queues, before anybody is granted anything.
use Rattle.deadpool_trial.proofs.OfUnmanaged.Basics.{◌≡◌, ℕ, ◌+◌, ◌-◌, ◌<◌, ◌≤◌}
use Rattle.deadpool_trial.proofs.OfUnmanaged.Basics.{eqb, nat_lt, if◌then◌else◌, ◌==◌, List}
use Rattle.deadpool_trial.proofs.OfUnmanaged.Basics.{[], ◌∷◌, ◌++◌, Bool, true, false, not, length, refl, arith, inl}
use Rattle.deadpool_trial.proofs.OfUnmanaged.Basics.{inr, Option, Some, None}
use Rattle.deadpool_trial.proofs.OfUnmanaged.Basics.{length-append, slice_get, filter, Duration}
use Rattle.deadpool_trial.proofs.OfUnmanaged.Basics.{cases_Bool, cond_both, ltb-true, nat_tests, largest_usize}
use Rattle.deadpool_trial.proofs.OfUnmanaged.Basics.{most_handles, get-append, count-push, count-without, count-found}
use Rattle.deadpool_trial.proofs.OfUnmanaged.Basics.{count-push_held}
use Rattle.deadpool_trial.proofs.OfUnmanaged.Words.{Pool, Party, new_get, new_add, free_objects, free_room, status_of}
use Rattle.deadpool_trial.proofs.OfUnmanaged.Words.{RunInvariant, CountsOn, brings}
use Rattle.deadpool_trial.proofs.OfUnmanaged.Words.{asks_for_object, asks_for_room, copies}
use Rattle.deadpool_trial.proofs.OfUnmanaged.Words.{brought_in, named, may_leave, find_item, without_item, store, poll}
use Rattle.deadpool_trial.proofs.OfUnmanaged.Words.{cancelled, try_get, try_store, back, take_out, closed, cloned}
use Rattle.deadpool_trial.proofs.OfUnmanaged.Words.{handle_dropped, item_number, Item, Reply, unsettled, by_newcomer}
use Rattle.deadpool_trial.proofs.OfUnmanaged.Words.{by_number, by_party, started, Move}
use Rattle.deadpool_trial.proofs.OfUnmanaged.{Copies.one, Lined.push_quiet, Passes.Passes, Passes.none_drawn}
use Rattle.deadpool_trial.proofs.OfUnmanaged.{Passes.same_passes, Passes.cancelled_passes, Passes.hand_out_passes}
use Rattle.deadpool_trial.proofs.OfUnmanaged.{Passes.poll_passes}

-- one is left, if it is not none
some_left : (n : ℕ) → eqb n 0 ≡ false → 0 < n
some_left n h = grind (arith, nat_tests)

none_left : (n : ℕ) → eqb n 0 ≡ true → n ≡ 0
none_left n h = grind (arith, nat_tests)

differs : (n m : ℕ) → eqb n m ≡ false → eqb m n ≡ false
differs n m h = grind (arith, nat_tests)

-- a handle that is dropped was the last one if none is left
one_left : (n : ℕ) → eqb n 0 ≡ false → eqb (if n == most_handles then most_handles else n - 1) 0 ≡ true → eqb n 1 ≡ true
one_left n some none =
    elim (cases_Bool (n == most_handles)) [
      | inl most ↦ absurd (let differ : eqb most_handles 0 ≡ true = rw most at none in cc)
      | inr fewer ↦ let less : eqb (n - 1) 0 ≡ true = rw fewer at none in grind (arith, nat_tests)
    ]

module _ {V : Type 0} where
  -- an object that is handed in has the next number, and no other object has it
  one_drawn : (p q : Pool V) (item : Item V) → item.number ≡ p.next → q.next ≡ p.next + 1
      → ((n : ℕ) → copies n q ≤ copies n p + one n item) → CountsOn p q
  one_drawn p q item named drawn more = record {
    rising = omega (arith, drawn);
    next =
        let here = more p.next in
        let most : one p.next item ≤ 1 =
        cond_both (item.number == p.next) 1 0 (λ k. k ≤ 1) (λ y. omega arith) (λ y. omega arith) in
        omega (arith, here, most, drawn);
    step = omega (arith, drawn);
    others = λ n other.
        let apart : (item.number == n) ≡ false = rw named (differs n p.next other) in
        let here = more n in
        let none : one n item ≡ 0 = rw apart refl in
        omega (arith, here, none);
  }

  module _ (p : Pool V) (well : RunInvariant p) where
    -- a move that names nobody, and may let these objects leave
    P : List (Item V) → Reply V × Pool V → Type 0
    P leaving = λ x. Passes None leaving p x.1

    -- a step of one who needs a handle, of a new party, or of an object that is handed in
    by_handle_passes : (leaving : List (Item V)) (x : Reply V × Pool V)
        → ((p.handles == 0) ≡ false → Passes None leaving p x.1)
        → Passes None leaving p (if p.handles == 0 then (Reply.NoHandle, p) else x).1
    unfolding P
    by_handle_passes leaving x step =
        cond_both (p.handles == 0) (Reply.NoHandle, p) x (P leaving) (λ _. same_passes None leaving p well) step

    by_newcomer_passes : (x : Reply V × Pool V) → Passes None [] p x.1
        → Passes None [] p (if nat_lt (length p.parties) p.most_parties then x else (Reply.NoRoom, p)).1
    unfolding P
    by_newcomer_passes x step =
        cond_both (nat_lt (length p.parties) p.most_parties) x (
          Reply.NoRoom,
          p,
        ) (P []) (λ _. step) (λ _. same_passes None [] p well)

    by_number_passes : (v : V) (x : Reply V × Pool V) → Passes None [] p x.1
        → Passes None [] p (if p.next == largest_usize then (Reply.Exhausted v, p) else x).1
    unfolding P
    by_number_passes v x step =
        cond_both (p.next == largest_usize) (
          Reply.Exhausted v,
          p,
        ) x (P []) (λ _. same_passes None [] p well) (λ _. step)

    get_started_passes : (wait : Option Duration) → Passes None [] p (started (new_get wait) p).1
    get_started_passes wait = record {
      counts = none_drawn p (started (new_get wait) p).1 refl
          (λ n. let more = count-push_held item_number n brings p.parties (Some (new_get wait)) in omega (arith, more));
      stays = λ n. let more = count-push_held item_number n brings p.parties (Some (new_get wait)) in
          omega (arith, more);
      parties = λ m x other there. get-append p.parties (Some (new_get wait) ∷ []) m x there;
      promises = well.promises;
      closed = well.closed;
      gets = inl (refl, push_quiet asks_for_object p.parties (Some (new_get wait)) refl refl);
      adds = inl (refl, push_quiet asks_for_room p.parties (Some (new_get wait)) refl refl);
    }

    -- the object that is handed in
    abbrev drawn : V → Item V
    drawn v = record { number = p.next; value = v }

    abbrev numbered : Pool V
    numbered = record p { next = p.next + 1 }

    add_started_passes : (v : V) → Passes None [] p (started (new_add (drawn v)) numbered).1
    add_started_passes v = record {
      counts = one_drawn p (started (new_add (drawn v)) numbered).1 (drawn v) refl refl
          (λ n. let more = count-push_held item_number n brings p.parties (Some (new_add (drawn v))) in
          omega (arith, more));
      stays = λ n. let more = count-push_held item_number n brings p.parties (Some (new_add (drawn v))) in
          omega (arith, more);
      parties = λ m x other there. get-append p.parties (Some (new_add (drawn v)) ∷ []) m x there;
      promises = well.promises;
      closed = well.closed;
      gets = inl (refl, push_quiet asks_for_object p.parties (Some (new_add (drawn v))) refl refl);
      adds = inl (refl, push_quiet asks_for_room p.parties (Some (new_add (drawn v))) refl refl);
    }

    numbered_passes : (v : V) → Passes None [] p numbered
    numbered_passes v = record {
      counts = one_drawn p numbered (drawn v) refl refl (λ n. omega arith);
      stays = λ n. omega arith;
      parties = λ m x other there. there;
      promises = well.promises;
      closed = well.closed;
      gets = inl (refl, λ m. refl);
      adds = inl (refl, λ m. refl);
    }

    try_store_passes : (v : V) → Passes None [] p (try_store (drawn v) numbered).1
    unfolding P
    try_store_passes v =
        let drops = numbered_passes v in
        let longer = length-append p.idle (drawn v ∷ []) in
        cond_both (not p.is_open) _ _ (P []) (λ _. drops)
        (λ open_. cond_both (nat_lt 0 (free_room numbered)) _ _ (P [])
        (λ _. record {
          counts = one_drawn p (store (drawn v) numbered).1 (drawn v) refl refl
              (λ n. let more = count-push item_number n p.idle (drawn v) in omega (arith, more));
          stays = λ n. let more = count-push item_number n p.idle (drawn v) in omega (arith, more);
          parties = drops.parties;
          promises = λ is some. omega (arith, well.promises is some, longer);
          closed = λ shut. absurd (let differ : true ≡ false = rw shut at open_ in cc);
          gets = drops.gets;
          adds = drops.adds;
        })
        (λ _. drops))

    try_get_passes : Passes None [] p (try_get p).1
    unfolding P
    try_get_passes =
        let same = same_passes None [] p well in
        cond_both (not p.is_open) _ _ (P []) (λ _. same)
        (λ _. cond_both (nat_lt 0 (free_objects p)) _ _ (P [])
        (λ free. hand_out_passes None [] p p same (λ is some. omega (arith, ltb-true 0 (free_objects p) free)))
        (λ _. same))

    -- the objects that are out with the number
    abbrev numbered_so : ℕ → List (Item V)
    numbered_so n = filter (λ item. item.number == n) p.out

    back_passes : (o : Option (Item V)) (n : ℕ) → find_item n p.out ≡ o → Passes None (numbered_so n) p (back o n p).1
    unfolding P
    back_passes None n none = same_passes None (numbered_so n) p well
    back_passes (Some item) n is =
        let same = same_passes None (numbered_so n) p well in
        let out = record p { out = without_item n p.out } in
        let gone : Passes None (numbered_so n) p out = record {
          counts =
              none_drawn p out refl
              (λ m. let less = count-without item_number m n item p.out is in omega (arith, less));
          stays = λ m. let less = count-without item_number m n item p.out is in let found =
              count-found item_number m n item p.out is in omega (arith, less, found);
          parties = same.parties;
          promises = well.promises;
          closed = well.closed;
          gets = same.gets;
          adds = same.adds;
        } in
        let longer = length-append p.idle (item ∷ []) in
        cond_both (not p.is_open) _ _ (P (numbered_so n)) (λ _. gone)
        (λ open_. cond_both (p.handles == 0) _ _ (P (numbered_so n)) (λ _. gone)
        (λ _. record {
          counts = none_drawn p (record out { idle = p.idle ++ item ∷ [] }) refl (λ m.
              let less = count-without item_number m n item p.out is in
              let more = count-push item_number m p.idle item in
              omega (arith, less, more));
          stays = λ m.
              let less = count-without item_number m n item p.out is in
              let more = count-push item_number m p.idle item in
              omega (arith, less, more);
          parties = same.parties;
          promises = λ is_open some. omega (arith, well.promises is_open some, longer);
          closed = λ shut. absurd (let differ : true ≡ false = rw shut at open_ in cc);
          gets = same.gets;
          adds = same.adds;
        }))

    take_passes : (o : Option (Item V)) (n : ℕ) → find_item n p.out ≡ o
        → Passes None (numbered_so n) p (take_out o n p).1
    take_passes None n none = same_passes None (numbered_so n) p well
    take_passes (Some item) n is =
        let same = same_passes None (numbered_so n) p well in
        record {
          counts = none_drawn p (record p { out = without_item n p.out }) refl
              (λ m. let less = count-without item_number m n item p.out is in omega (arith, less));
          stays = λ m. let less = count-without item_number m n item p.out is in let found =
              count-found item_number m n item p.out is in omega (arith, less, found);
          parties = same.parties;
          promises = well.promises;
          closed = well.closed;
          gets = same.gets;
          adds = same.adds;
        }

    closed_passes : Passes None p.idle p (closed p)
    closed_passes =
        let same = same_passes None p.idle p well in
        record {
          counts = none_drawn p (closed p) refl (λ n. omega arith);
          stays = λ n. omega arith;
          parties = same.parties;
          promises = λ is some. absurd (let differ = is in cc);
          closed = λ shut. refl;
          gets = same.gets;
          adds = same.adds;
        }

    cloned_passes : (p.handles == 0) ≡ false → Passes None [] p (cloned p)
    cloned_passes some =
        let same = same_passes None [] p well in
        record {
          counts = none_drawn p (cloned p) refl (λ n. omega arith);
          stays = λ n. omega arith;
          parties = same.parties;
          promises = λ is left. well.promises is (some_left p.handles some);
          closed = well.closed;
          gets = same.gets;
          adds = same.adds;
        }

    -- the idle objects, when the last handle goes
    abbrev taken_by_last : List (Item V)
    taken_by_last = if p.handles == 1 then p.idle else []

    dropped_passes : (p.handles == 0) ≡ false → Passes None taken_by_last p (handle_dropped p)
    dropped_passes some =
        let same = same_passes None taken_by_last p well in
        let left = if p.handles == most_handles then most_handles else p.handles - 1 in
        let Q : List (Item V) → Type 0 =
        λ idle. Passes None taken_by_last p (record p { handles = left; idle = idle }) in
        cond_both (left == 0) [] p.idle Q
        (λ last. record {
          counts = none_drawn p (record p { handles = left; idle = [] }) refl (λ n. omega arith);
          stays = λ n. let one = one_left p.handles some last in rw one (omega arith);
          parties = same.parties;
          promises = λ is more. absurd (let none = none_left left last in omega (arith, none, more));
          closed = λ shut. refl;
          gets = same.gets;
          adds = same.adds;
        })
        (λ others. record {
          counts = none_drawn p (record p { handles = left }) refl (λ n. omega arith);
          stays = λ n. omega arith;
          parties = same.parties;
          promises = λ is more. well.promises is (some_left p.handles some);
          closed = well.closed;
          gets = same.gets;
          adds = same.adds;
        })

    by_party_passes : (n : ℕ) (o : Option (Option (Party V))) (step : Party V → Pool V → Reply V × Pool V)
        → ((party : Party V) → o ≡ Some (Some party)
        → Passes (Some n) (brought_in (Some (Some party))) p (step party p).1)
        → Passes (Some n) (brought_in o) p (by_party o step p).1
    by_party_passes n None step passes = same_passes (Some n) [] p well
    by_party_passes n (Some None) step passes = same_passes (Some n) [] p well
    by_party_passes n (Some (Some party)) step passes = passes party refl

    pub unsettled_passes : (found : Bool) (m : Move V) → Passes (named m) (may_leave m p) p (unsettled found m p).1
    unfolding P
    unsettled_passes found (Move.Get wait) =
        by_handle_passes [] (by_newcomer (started (new_get wait)) p)
        (λ _. by_newcomer_passes (started (new_get wait) p) (get_started_passes wait))
    unsettled_passes found (Move.Add v) =
        let start : Item V → Pool V → Reply V × Pool V = λ item. started (new_add item) in
        by_handle_passes [] (by_newcomer (by_number start v) p)
        (λ _. by_newcomer_passes (by_number start v p)
        (by_number_passes v (start (drawn v) numbered) (add_started_passes v)))
    unsettled_passes found (Move.Poll n now) =
        by_party_passes n (slice_get p.parties n) (poll found n now)
        (λ party here. poll_passes found n now p well party here)
    unsettled_passes found Move.TryGet = by_handle_passes [] (try_get p) (λ _. try_get_passes)
    unsettled_passes found (Move.TryAdd v) =
        by_handle_passes [] (by_number try_store v p)
        (λ _. by_number_passes v (try_store (drawn v) numbered) (try_store_passes v))
    unsettled_passes found (Move.Cancel n) =
        by_party_passes n (slice_get p.parties n) (λ party q. (Reply.Cancelled, cancelled n q))
        (λ party here. cancelled_passes n party p well here)
    unsettled_passes found (Move.Back n) = back_passes (find_item n p.out) n refl
    unsettled_passes found (Move.Take n) = take_passes (find_item n p.out) n refl
    unsettled_passes found Move.Close = by_handle_passes p.idle (Reply.Done, closed p) (λ _. closed_passes)
    unsettled_passes found Move.Status =
        by_handle_passes [] (Reply.Stands (status_of p), p) (λ _. same_passes None [] p well)
    unsettled_passes found Move.Clone = by_handle_passes [] (Reply.Done, cloned p) (λ some. cloned_passes some)
    unsettled_passes found Move.DropHandle =
        by_handle_passes taken_by_last (Reply.Done, handle_dropped p) (λ some. dropped_passes some)
    unsettled_passes found Move.Upgrade =
        cond_both (p.handles == 0) (Reply.Upgraded false, p) (
          Reply.Upgraded true,
          cloned p,
        ) (P []) (λ _. same_passes None [] p well) (λ some. cloned_passes some)
