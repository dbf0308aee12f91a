-- What steps of gets and adds keep of numbers, promises and queues.
use Rattle.deadpool_trial.proofs.OfUnmanaged.Basics.{◌≡◌, ◌≢◌, ℕ, ◌+◌, ◌-◌, ◌<◌, ◌≤◌}
use Rattle.deadpool_trial.proofs.OfUnmanaged.Basics.{nat_lt, List, [], ◌∷◌, Bool, true}
use Rattle.deadpool_trial.proofs.OfUnmanaged.Basics.{false, not, length, set, refl, sym, ap, arith, ◌∙◌, inl, inr}
use Rattle.deadpool_trial.proofs.OfUnmanaged.Basics.{nat_le, Option, Some, None, length-append, length-take, slice_get}
use Rattle.deadpool_trial.proofs.OfUnmanaged.Basics.{Duration}
use Rattle.deadpool_trial.proofs.OfUnmanaged.Basics.{cond_both, ltb-true, deadline_after, is_reached, cannot_wait}
use Rattle.deadpool_trial.proofs.OfUnmanaged.Basics.{has_number, Moment, without_number-shorter, without_number-fewer}
use Rattle.deadpool_trial.proofs.OfUnmanaged.Basics.{get-set_same, get-set_other, count-cons_option, count-push}
use Rattle.deadpool_trial.proofs.OfUnmanaged.Basics.{count-with, count-set_held}
use Rattle.deadpool_trial.proofs.OfUnmanaged.Words.{Pool, Party, new_get, queued_get, new_add, queued_add, finished}
use Rattle.deadpool_trial.proofs.OfUnmanaged.Words.{free_objects, free_room, RunInvariant, CountsOn, KeepsPromises}
use Rattle.deadpool_trial.proofs.OfUnmanaged.Words.{IsEmptyIfClosed, brings, brought_by}
use Rattle.deadpool_trial.proofs.OfUnmanaged.Words.{asks_for_object, asks_for_room}
use Rattle.deadpool_trial.proofs.OfUnmanaged.Words.{copies, so_many, brought_in, last_idle, other_idle, left, hand_out}
use Rattle.deadpool_trial.proofs.OfUnmanaged.Words.{store, ended, enter_get, inquire_get, enter_add, inquire_add, poll}
use Rattle.deadpool_trial.proofs.OfUnmanaged.Words.{cancelled, item_number, Item, Reply, pool_handed as handed}
use Rattle.deadpool_trial.proofs.OfUnmanaged.{Copies.so_many-last, Lined.QueueMoves, Lined.set_others, Lined.set_quiet}

module _ {V : Type 0} where
  -- but for the party that is named, each is as it was
  abbrev pub Stands : Option ℕ → List (Option (Party V)) → List (Option (Party V)) → Type 0
  Stands named xs ys = (m : ℕ) (x : Option (Party V)) → named ≢ Some m → slice_get xs m ≡ Some x
      → slice_get ys m ≡ Some x

  -- From a pool that is well a step leads to this one, before anybody is granted anything. It names a party or none,
  -- and these objects may leave.
  pub record Passes (named : Option ℕ) (leaving : List (Item V)) (p q : Pool V) : Type 0 where
    pub counts : CountsOn p q
    pub stays : (n : ℕ) → copies n p ≤ copies n q + so_many n leaving
    pub parties : Stands named p.parties q.parties
    pub promises : KeepsPromises q
    pub closed : IsEmptyIfClosed q
    pub gets : QueueMoves asks_for_object named p.gets p.parties q.gets q.parties
    pub adds : QueueMoves asks_for_room named p.adds p.parties q.adds q.parties

  -- no number is drawn, and none has more objects than before
  pub none_drawn : (p q : Pool V) → q.next ≡ p.next → ((n : ℕ) → copies n q ≤ copies n p) → CountsOn p q
  none_drawn p q same fewer = record {
    rising = omega (arith, same);
    next = omega (arith, fewer p.next);
    step = omega (arith, same);
    others = λ n other. fewer n;
  }

  -- one that is not idle with nothing idle
  fewer_idle : (xs ys : List (Item V)) → length ys ≤ length xs → length xs ≡ 0 → length ys ≡ 0
  fewer_idle xs ys fewer none = omega (arith, fewer, none)

  pub set_stands : (xs : List (Option (Party V))) (n : ℕ) (x : Option (Party V)) → Stands (Some n) xs (set xs n x)
  set_stands xs n x m y other there = get-set_other xs n m x (λ e. other (ap Some (sym e))) ∙ there

  pub same_passes : (named : Option ℕ) (leaving : List (Item V)) (p : Pool V) → RunInvariant p
      → Passes named leaving p p
  same_passes named leaving p well = record {
    counts = none_drawn p p refl (λ n. omega arith);
    stays = λ n. omega arith;
    parties = λ m x other there. there;
    promises = well.promises;
    closed = well.closed;
    gets = inl (refl, λ m. refl);
    adds = inl (refl, λ m. refl);
  }

  module _ (n : ℕ) (party : Party V) (p : Pool V) (well : RunInvariant p)
      (here : slice_get p.parties n ≡ Some (Some party)) where
    -- the object that the add brought, if any
    abbrev its : List (Item V)
    its = brought_in (Some (Some party))

    -- the party leaves, and what it brought with it
    abbrev gone : Option (Party V) → Pool V
    gone x = let q = left n p in record q { parties = set p.parties n x }

    pub gone_passes : (x : Option (Party V)) → brings x ≡ None → asks_for_object (Some x) ≡ false
        → asks_for_room (Some x) ≡ false → Passes (Some n) its p (gone x)
    gone_passes x nothing no_object no_room =
        let there = get-set_same p.parties n (Some party) x here in
        let shorter = without_number-shorter n p.gets.granted in
        record {
          counts = none_drawn p (gone x) refl (λ m.
              let less = count-set_held item_number m brings p.parties n (Some party) x here in
              let fewer = rw nothing at less in
              omega (arith, fewer));
          stays = λ m.
              let less = count-set_held item_number m brings p.parties n (Some party) x here in
              let fewer = rw nothing at less in
              let all = count-cons_option item_number m (brought_by party) [] in
              omega (arith, fewer, all);
          parties = set_stands p.parties n x;
          promises = λ is some. omega (arith, shorter, well.promises is some);
          closed = well.closed;
          gets =
              inr
              (inl (n, (refl, refl, ap asks_for_object there ∙ no_object, set_others asks_for_object p.parties n x)));
          adds = inr (inl (n, (refl, refl, ap asks_for_room there ∙ no_room, set_others asks_for_room p.parties n x)));
        }

    pub ended_passes : Passes (Some n) its p (ended n p)
    ended_passes = gone_passes (Some finished) refl refl refl

    pub cancelled_passes : Passes (Some n) its p (cancelled n p)
    cancelled_passes = gone_passes None refl refl refl

    -- it brings in what it has
    pub store_passes : (item : Item V) → brought_by party ≡ Some item → not p.is_open ≡ false
        → Passes (Some n) its p (store item (ended n p)).1
    store_passes item brought open_ =
        let all = ended_passes in
        let more = length-append p.idle (item ∷ []) in
        record {
          counts = none_drawn p (store item (ended n p)).1 refl (λ m.
              let less = count-set_held item_number m brings p.parties n (Some party) (Some finished) here in
              let fewer = rw brought at less in
              let longer = count-push item_number m p.idle item in
              omega (arith, fewer, longer));
          stays = λ m.
              let less = count-set_held item_number m brings p.parties n (Some party) (Some finished) here in
              let fewer = rw brought at less in
              let longer = count-push item_number m p.idle item in
              omega (arith, fewer, longer);
          parties = all.parties;
          promises = λ is some. omega (arith, all.promises is some, more);
          closed = λ shut. absurd (let differ : true ≡ false = rw shut at open_ in cc);
          gets = all.gets;
          adds = all.adds;
        }

  -- an object goes out, which leaves enough for those that were promised one
  pub hand_out_passes : (named : Option ℕ) (leaving : List (Item V)) (p q : Pool V) → Passes named leaving p q
      → (q.is_open ≡ true → 0 < q.handles → length q.gets.granted + 1 ≤ length q.idle)
      → Passes named leaving p (hand_out q).1
  hand_out_passes named leaving p q pass enough = by_cases (last_idle q.idle) refl
    where
      by_cases : (o : Option (Item V)) → last_idle q.idle ≡ o → Passes named leaving p (handed o q).1
      by_cases None none = pass
      by_cases (Some item) is =
          let fewer = length-take (length q.idle - 1) q.idle in
          let k = pass.counts in
          let same : (n : ℕ) → copies n (handed (Some item) q).1 ≡ copies n q = λ n.
          let less = so_many-last n q.idle item is in
          let more = count-with item_number n item q.out in
          omega (arith, less, more) in
          record {
            counts = record {
              rising = k.rising;
              next = let e = same p.next in omega (arith, e, k.next);
              step = k.step;
              others = λ n other. let e = same n in omega (arith, e, k.others n other);
            };
            stays = λ n. let e = same n in let before = pass.stays n in omega (arith, e, before);
            parties = pass.parties;
            promises = λ is_open some. omega (arith, enough is_open some, fewer);
            closed = λ shut. fewer_idle q.idle (other_idle q.idle) (omega (arith, fewer)) (pass.closed shut);
            gets = pass.gets;
            adds = pass.adds;
          }

  module _ (found : Bool) (n : ℕ) (now : Moment) (p : Pool V) (well : RunInvariant p) where
    P : Party V → Reply V × Pool V → Type 0
    P party = λ x. Passes (Some n) (brought_in (Some (Some party))) p x.1

    enter_get_passes : (wait : Option Duration) → slice_get p.parties n ≡ Some (Some (new_get wait))
        → Passes (Some n) [] p (enter_get found n wait now p).1
    unfolding P
    enter_get_passes wait here =
        let ends = ended_passes n (new_get wait) p well here in
        let shorter = without_number-shorter n p.gets.granted in
        cond_both (cannot_wait p.runtime wait) _ _ (P (new_get wait)) (λ _. ends)
        (λ _. cond_both (not p.is_open) _ _ (P (new_get wait)) (λ _. ends)
        (λ _. cond_both (nat_lt 0 (free_objects p)) _ _ (P (new_get wait))
        (λ free. hand_out_passes (Some n) [] p (ended n p) ends
        (λ is some. omega (arith, shorter, ltb-true 0 (free_objects p) free)))
        (λ _. cond_both (is_reached (deadline_after now wait) now) _ _ (P (new_get wait)) (λ _. ends)
        (λ _. cond_both (nat_le p.max_waiting (length p.gets.waiting)) _ _ (P (new_get wait)) (λ _. ends)
        (λ _. cond_both found _ _ (P (new_get wait))
        (λ _.
        let after : Option (Party V) = Some (queued_get (deadline_after now wait)) in
        record {
          counts =
              none_drawn p _ refl
              (λ m. let same = count-set_held item_number m brings p.parties n (Some (new_get wait)) after here in
              omega (arith, same));
          stays = λ m. let same = count-set_held item_number m brings p.parties n (Some (new_get wait)) after here in
              omega (arith, same);
          parties = set_stands p.parties n after;
          promises = well.promises;
          closed = well.closed;
          gets =
              inr
              (inr (
                n,
                (
                  refl,
                  ap asks_for_object here,
                  ap asks_for_object (get-set_same p.parties n (Some (new_get wait)) after here),
                  set_others asks_for_object p.parties n after,
                ),
              ));
          adds = inl (refl, set_quiet asks_for_room p.parties n (Some (new_get wait)) after here refl);
        })
        (λ _. ends))))))

    inquire_get_passes : (deadline : Option Moment) → slice_get p.parties n ≡ Some (Some (queued_get deadline))
        → Passes (Some n) [] p (inquire_get n deadline now p).1
    unfolding P
    inquire_get_passes deadline here =
        let ends = ended_passes n (queued_get deadline) p well here in
        cond_both (not p.is_open) _ _ (P (queued_get deadline)) (λ _. ends)
        (λ _. cond_both (has_number n p.gets.granted) _ _ (P (queued_get deadline))
        (λ has. let fewer = without_number-fewer n p.gets.granted has in
        hand_out_passes (Some n) [] p (ended n p) ends (λ is some. omega (arith, fewer, well.promises is some)))
        (λ _. cond_both (is_reached deadline now) _ _ (P (queued_get deadline)) (λ _. ends)
        (λ _. same_passes (Some n) [] p well)))

    enter_add_passes : (item : Item V) → slice_get p.parties n ≡ Some (Some (new_add item))
        → Passes (Some n) (item ∷ []) p (enter_add found n item p).1
    unfolding P
    enter_add_passes item here =
        let ends = ended_passes n (new_add item) p well here in
        cond_both (not p.is_open) _ _ (P (new_add item)) (λ _. ends)
        (λ open_. cond_both (nat_lt 0 (free_room p)) _ _ (P (new_add item))
        (λ _. store_passes n (new_add item) p well here item refl open_)
        (λ _. cond_both (nat_le p.max_waiting (length p.adds.waiting)) _ _ (P (new_add item)) (λ _. ends)
        (λ _. cond_both found _ _ (P (new_add item))
        (λ _.
        let after : Option (Party V) = Some (queued_add item) in
        record {
          counts =
              none_drawn p _ refl
              (λ m. let same = count-set_held item_number m brings p.parties n (Some (new_add item)) after here in
              omega (arith, same));
          stays = λ m. let same = count-set_held item_number m brings p.parties n (Some (new_add item)) after here in
              omega (arith, same);
          parties = set_stands p.parties n after;
          promises = well.promises;
          closed = well.closed;
          gets = inl (refl, set_quiet asks_for_object p.parties n (Some (new_add item)) after here refl);
          adds =
              inr
              (inr (
                n,
                (
                  refl,
                  ap asks_for_room here,
                  ap asks_for_room (get-set_same p.parties n (Some (new_add item)) after here),
                  set_others asks_for_room p.parties n after,
                ),
              ));
        })
        (λ _. ends))))

    inquire_add_passes : (item : Item V) → slice_get p.parties n ≡ Some (Some (queued_add item))
        → Passes (Some n) (item ∷ []) p (inquire_add n item p).1
    unfolding P
    inquire_add_passes item here =
        cond_both (not p.is_open) _ _ (P (queued_add item)) (λ _. ended_passes n (queued_add item) p well here)
        (λ open_. cond_both (has_number n p.adds.granted) _ _ (P (queued_add item))
        (λ _. store_passes n (queued_add item) p well here item refl open_)
        (λ _. same_passes (Some n) (item ∷ []) p well))

    pub poll_passes : (party : Party V) → slice_get p.parties n ≡ Some (Some party)
        → Passes (Some n) (brought_in (Some (Some party))) p (poll found n now party p).1
    poll_passes (new_get wait) here = enter_get_passes wait here
    poll_passes (queued_get deadline) here = inquire_get_passes deadline here
    poll_passes (new_add item) here = enter_add_passes item here
    poll_passes (queued_add item) here = inquire_add_passes item here
    poll_passes finished here = same_passes (Some n) [] p well
