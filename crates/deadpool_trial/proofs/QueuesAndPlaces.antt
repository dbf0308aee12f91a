-- What each state of a run has from the one before it: a queue in order of those that stand as queued, nobody who waits
-- while a place is free, and no more places and objects than its limit or so many.
use Rattle.deadpool_trial.proofs.Basics.{◌≡◌, ◌≢◌, ℕ, ◌+◌, ◌-◌, ◌≤◌, max, min, List, ◌++◌, true, false, length, set}
use Rattle.deadpool_trial.proofs.Basics.{take, drop, sym, ap, ◌∙◌, subst, arith, inl, inr, Option, Some, None}
use Rattle.deadpool_trial.proofs.Basics.{length-append, length-drop, length-take, append_assoc, slice_get, is_some}
use Rattle.deadpool_trial.proofs.Basics.{filter}
use Rattle.deadpool_trial.proofs.Basics.{filter_map, cond_both, cond-true, eqb_tells, take-append-drop, drop_all}
use Rattle.deadpool_trial.proofs.Basics.{has_number, IsOnce, get-set_same, get-set_other, without_number-append}
use Rattle.deadpool_trial.proofs.Basics.{without_number-shorter, IsOnce-without, one_if, count-set, held-set}
use Rattle.deadpool_trial.proofs.Words.{Timeouts, Pool, Party, Standing, goes, creates, prepared_at, is_going}
use Rattle.deadpool_trial.proofs.Words.{is_creating, prepared_by, creating_count, places, size, reach, grants, settle}
use Rattle.deadpool_trial.proofs.Words.{to, unqueued, NobodyWaits, MarksQueued}
use Rattle.deadpool_trial.proofs.Words.{PoolInvariant, queue, waits_at, is_queued}
use Rattle.deadpool_trial.proofs.Words.{Slot, WaitsWithin}
use Rattle.deadpool_trial.proofs.NumberLists.{has_number-other, without_number-gone}

module _ {V C R S F A : Type 0} where
  -- of all but one, those in the queue stand as queued, and nobody else
  abbrev pub MarksOthers : ℕ → Pool V C R S F A → Type 0
  MarksOthers n p = (m : ℕ) → m ≢ n → has_number m (queue p) ≡ is_queued (slice_get p.parties m)

  -- nobody is in the queue twice, no more places and objects than the limit or so many, and no more wait than may
  pub record IsOrderly (most : ℕ) (p : Pool V C R S F A) : Type 0 where
    pub once : IsOnce (queue p)
    pub few_places : places p ≤ max p.limit most
    pub few_objects : size p + creating_count p ≤ max p.limit most
    pub few_waiting : WaitsWithin p

  -- and those in the queue are marked, and nobody waits while a place is free
  pub record Follows (most : ℕ) (p : Pool V C R S F A) : Type 0 where
    pub orderly : IsOrderly most p
    pub marks : MarksQueued p
    pub nobody_waits : NobodyWaits p

  -- a lawful pool is within its own reach
  pub Follows-self : (p : Pool V C R S F A) → PoolInvariant p → Follows (reach p) p
  Follows-self p l = record {
    orderly = record {
      once = l.once;
      few_places = omega arith;
      few_objects = omega arith;
      few_waiting = l.few_waiting;
    };
    marks = l.marks;
    nobody_waits = l.nobody_waits;
  }

  -- what follows is lawful
  pub Follows-lawful : (most : ℕ) (p : Pool V C R S F A) → Follows most p → PoolInvariant p
  Follows-lawful most p f = record {
    once = f.orderly.once;
    marks = f.marks;
    nobody_waits = f.nobody_waits;
    few_waiting = f.orderly.few_waiting;
  }

  -- what follows is within so much or the limit
  pub Follows-reach : (most : ℕ) (p : Pool V C R S F A) → Follows most p → reach p ≤ max p.limit most
  Follows-reach most p f = let places_few = f.orderly.few_places in let objects_few = f.orderly.few_objects in
      omega (arith, places_few, objects_few)

  -- so many of those that wait are granted a place
  abbrev granting : ℕ → Pool V C R S F A → Pool V C R S F A
  granting n p = record p { granted = p.granted ++ take n p.waiting; waiting = drop n p.waiting }

  -- as many as are free, if the pool is open
  granting_follows : (most n : ℕ) (p : Pool V C R S F A) → IsOrderly most p → MarksQueued p → n ≤ p.limit - places p
      → (p.is_open ≡ true → n ≡ min (length p.waiting) (p.limit - places p))
      → Follows most (granting n p)
  granting_follows most n p k marks few all =
      let same : queue (granting n p) ≡ queue p =
      rw append_assoc (ap (λ ys. p.granted ++ ys) (take-append-drop n p.waiting)) in
      let longer = length-append p.granted (take n p.waiting) in
      record {
        orderly = record {
          once = rw same k.once;
          few_places = omega (arith, few, longer, length-take n p.waiting, k.few_places);
          few_objects = k.few_objects;
          few_waiting = omega (arith, length-drop n p.waiting, k.few_waiting);
        };
        marks = λ m. ap (has_number m) same ∙ marks m;
        nobody_waits = λ opens free. let is = all opens in
            drop_all n p.waiting (omega (arith, is, free, longer, length-take n p.waiting));
      }

  -- the free places are given to those that wait
  pub settle_follows : (most : ℕ) (p : Pool V C R S F A) → IsOrderly most p → MarksQueued p → Follows most (settle p)
  settle_follows most p k marks =
      granting_follows most (grants p) p k marks
      (cond_both p.is_open _ _ (λ n. n ≤ p.limit - places p) (λ opens. omega arith) (λ closed. omega arith))
      (λ opens. cond-true p.is_open _ _ opens)

  -- who is taken out of the queue is not in it, and the others are
  pub unqueued_gone : (n : ℕ) (p : Pool V C R S F A) → has_number n (queue (unqueued n p)) ≡ false
  unqueued_gone n p = ap (has_number n) (sym (without_number-append n p.granted p.waiting))
      ∙ without_number-gone n (queue p)

  -- the queue without one of its numbers
  pub unqueued_orderly : (most n : ℕ) (p : Pool V C R S F A) → IsOrderly most p → IsOrderly most (unqueued n p)
  unqueued_orderly most n p k =
      let left = without_number-append n p.granted p.waiting in
      record {
        once = rw (← left) (IsOnce-without n (queue p) k.once);
        few_places = omega (arith, without_number-shorter n p.granted, k.few_places);
        few_objects = k.few_objects;
        few_waiting = omega (arith, without_number-shorter n p.waiting, k.few_waiting);
      }

  -- the others are in it as before
  pub unqueued_marks : (n : ℕ) (p : Pool V C R S F A) → MarksOthers n p → MarksOthers n (unqueued n p)
  unqueued_marks n p marks m other =
      ap (has_number m) (sym (without_number-append n p.granted p.waiting)) ∙ has_number-other m n (queue p) other
      ∙ marks m other

  -- whoever does not stand as queued is not in the queue
  pub not_queued : (n : ℕ) (party : Party V C R S) (p : Pool V C R S F A) → MarksQueued p
      → slice_get p.parties n ≡ Some (Some party) → waits_at party.standing ≡ false
      → has_number n (queue p) ≡ false
  not_queued n party p marks h other = marks n ∙ ap is_queued h ∙ other

  -- when one party stands elsewhere, the marks of the others stay
  pub set_marks : (n : ℕ) (old new : Option (Party V C R S)) (p : Pool V C R S F A) → slice_get p.parties n ≡ Some old
      → MarksOthers n p → has_number n (queue p) ≡ is_queued (Some new)
      → MarksQueued (record p { parties = set p.parties n new })
  set_marks n old new p h marks here m =
      elim (eqb_tells m n) [
        | inl same ↦
            subst (λ (i : ℕ). has_number i (queue p) ≡ is_queued (slice_get (set p.parties n new) i)) (sym same.1)
            (here ∙ ap is_queued (sym (get-set_same p.parties n old new h)))
        | inr other ↦ marks m other.1 ∙ ap is_queued (sym (get-set_other p.parties n m new other.1))
      ]

module _ {V C R S : Type 0} where
  -- the counts change by the one party that changes
  pub counts : (parties : List (Option (Party V C R S))) (n : ℕ) (old new : Option (Party V C R S))
      → slice_get parties n ≡ Some old
      → (length (filter is_going (set parties n new)) + one_if (is_going old)
      ≡ length (filter is_going parties) + one_if (is_going new))
      × (length (filter is_creating (set parties n new)) + one_if (is_creating old)
      ≡ length (filter is_creating parties) + one_if (is_creating new))
      × (length (filter_map prepared_by (set parties n new)) + one_if (is_some (prepared_by old))
      ≡ length (filter_map prepared_by parties) + one_if (is_some (prepared_by new)))
  counts parties n old new h = (
    count-set is_going parties n old new h,
    count-set is_creating parties n old new h,
    held-set prepared_by parties n old new h,
  )

  -- the party with these timeouts and this standing
  abbrev pub standing_at : Timeouts → Standing V C R S → Party V C R S
  standing_at timeouts standing = record { timeouts = timeouts; standing = standing }

  -- how many places one that stands so holds
  abbrev pub holds : Standing V C R S → ℕ
  holds standing = one_if (goes standing) + one_if (creates standing) + one_if (is_some (prepared_at standing))

  -- and how many of them are of an object, there or under way
  abbrev pub makes : Standing V C R S → ℕ
  makes standing = one_if (creates standing) + one_if (is_some (prepared_at standing))

module _ {V C R S F A : Type 0} where
  -- A party that is in the queue no more leaves what it held, and it is settled.
  pub left_follows : (most n : ℕ) (party : Party V C R S) (new : Option (Party V C R S)) (p : Pool V C R S F A)
      → IsOrderly most p → MarksOthers n p → slice_get p.parties n ≡ Some (Some party)
      → is_queued (Some new) ≡ false → is_going new ≡ false → is_creating new ≡ false → prepared_by new ≡ None
      → Follows most (settle (record (unqueued n p) { parties = set p.parties n new }))
  left_follows most n party new p k marks h w f0 f1 f2 =
      let u = unqueued_orderly most n p k in
      let c = rw (f0, f1, f2) at (counts p.parties n (Some party) new h) in
      settle_follows most (record (unqueued n p) { parties = set p.parties n new }) record {
        once = u.once;
        few_places = omega (arith, c, u.few_places);
        few_objects = omega (arith, c, u.few_objects);
        few_waiting = u.few_waiting;
      }
      (set_marks n (Some party) new (unqueued n p) h (unqueued_marks n p marks) (unqueued_gone n p ∙ sym w))

  -- A party stands elsewhere with the same places and no more objects.
  pub same_places_follow : (most n : ℕ) (timeouts : Timeouts) (old new : Standing V C R S) (next : ℕ)
      (idle out : List (Slot V)) (p : Pool V C R S F A)
      → Follows most p → slice_get p.parties n ≡ Some (Some (standing_at timeouts old)) → waits_at old ≡ waits_at new
      → holds new + length out ≡ holds old + length p.out
      → makes new + (length idle + length out) ≤ makes old + (length p.idle + length p.out)
      → Follows most (to n (standing_at timeouts old) new (record p { next = next; idle = idle; out = out }))
  same_places_follow most n timeouts old new next idle out p f h waits same few =
      let k = f.orderly in
      let c = counts p.parties n (Some (standing_at timeouts old)) (Some (standing_at timeouts new)) h in
      record {
        orderly = record {
          once = k.once;
          few_places = omega (arith, c, same, k.few_places);
          few_objects = omega (arith, c, few, k.few_objects);
          few_waiting = k.few_waiting;
        };
        marks = set_marks n (Some (standing_at timeouts old)) (Some (standing_at timeouts new)) p h
            (λ m other. f.marks m) (f.marks n ∙ ap is_queued h ∙ waits);
        nobody_waits = λ opens free. f.nobody_waits opens (omega (arith, c, same, free));
      }
