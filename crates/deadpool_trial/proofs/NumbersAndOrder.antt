-- What each step of a pool has: the limits, the numbers of its objects, the order of its queue, and what stays.
use Rattle.deadpool_trial.proofs.Basics.{◌≡◌, ◌≢◌, ℕ, ◌+◌, ◌≤◌, List, [], ◌∷◌, ◌++◌, Bool, false, not, ◌&&◌, length}
use Rattle.deadpool_trial.proofs.Basics.{set, take, drop, refl, sym, ap, ◌∙◌, arith, Option, Some, append_assoc, cond}
use Rattle.deadpool_trial.proofs.Basics.{inl, inr, slice_get, filter, ◌==◌, cases_Bool, and_parts, take-append-drop}
use Rattle.deadpool_trial.proofs.Basics.{has_number, without_number, KeepsOrder, get-set_other, without_number-append}
use Rattle.deadpool_trial.proofs.Basics.{without_number-shorter, has_number-without, order_same, order_joined, one_if}
use Rattle.deadpool_trial.proofs.Basics.{count-set, count-append, is_at}
use Rattle.deadpool_trial.proofs.Words.{Pool, Party, prepared_by, preparing, grants, settle, queue, HasFewIdle}
use Rattle.deadpool_trial.proofs.Words.{numbers, Slot, slot_number}
use Rattle.deadpool_trial.proofs.NumberCounts.{times, held, times-map, held-filter_map}

-- two tests, one after the other
filter-both : (f g : ℕ → Bool) (xs : List ℕ) → filter f (filter g xs) ≡ filter (λ n. g n && f n) xs
filter-both f g [] = refl
filter-both f g (x ∷ xs) =
    elim (cases_Bool (g x)) [
      | inl stays ↦ rw stays (ap (λ ys. cond (f x) (x ∷ ys) ys) (filter-both f g xs))
      | inr goes ↦ rw goes (filter-both f g xs)
    ]

-- in a queue that keeps its order, one party goes
pub order_left : (n : ℕ) (xs ys zs : List ℕ) → KeepsOrder xs (ys ++ zs)
    → KeepsOrder xs (without_number n ys ++ without_number n zs)
order_left n xs ys zs k =
    let few = k.few in
    record {
      stays = λ m. k.stays m && not (m == n);
      joins = without_number n k.joins;
      is = sym (without_number-append n ys zs) ∙ ap (without_number n) k.is
          ∙ without_number-append n (filter k.stays xs) k.joins
          ∙ ap (λ left. left ++ without_number n k.joins) (filter-both (λ m. not (m == n)) k.stays xs);
      few = omega (arith, without_number-shorter n k.joins, few);
      fresh =
          λ m h.
          k.fresh m (and_parts (has_number m k.joins) (not (m == n)) (sym (has_number-without m n k.joins) ∙ h)).0;
    }

-- one that was not there joins at the end of its second part
pub order_pushed : (n : ℕ) (xs ys : List ℕ) → has_number n (xs ++ ys) ≡ false
    → KeepsOrder (xs ++ ys) (xs ++ (ys ++ n ∷ []))
order_pushed n xs ys gone = rw (← append_assoc xs ys (n ∷ [])) (order_joined n (xs ++ ys) gone)

module _ {V C R S : Type 0} where
  -- the party prepares the object with the number
  abbrev pub prepares : ℕ → Option (Party V C R S) → Bool
  prepares n party = is_at slot_number n (prepared_by party)

module _ {V C R S F A : Type 0} where
  -- how often the number stands among the objects that are idle, under preparation or out
  abbrev pub count : ℕ → Pool V C R S F A → ℕ
  count n p = held n p.idle + (length (filter (prepares n) p.parties) + held n p.out)

  -- the same by the list of all of them
  pub times-numbers : (n : ℕ) (p : Pool V C R S F A) → times n (numbers p) ≡ count n p
  times-numbers n p =
      let more = count-append slot_number n p.idle (preparing p) in
      omega (
        arith,
        times-map n (p.idle ++ preparing p ++ p.out),
        count-append slot_number n (p.idle ++ preparing p) p.out,
        more,
        held-filter_map n prepared_by p.parties,
      )

-- From p a step may lead to q. It sets another limit only if it may, changes no party but the one that it names, and
-- no objects leave but some of these.
pub record Passes {V C R S F A : Type 0} (sets : Bool) (name : Option ℕ) (leaving : List (Slot V))
    (p q : Pool V C R S F A) : Type 0 where
  pub limit : sets ≡ false → q.limit ≡ p.limit
  pub few_idle : HasFewIdle p → HasFewIdle q
  pub closed : (p.is_open ≡ false → p.limit ≡ 0) → q.is_open ≡ false → q.limit ≡ 0
  pub min_idle : q.min_idle ≡ p.min_idle
  pub first : q.first ≡ p.first
  -- the step makes a new object
  pub grows : Bool
  pub next : q.next ≡ p.next + one_if grows
  pub few : (n : ℕ) → count n q ≤ count n p + one_if (grows && (p.next == n))
  pub stay : (n : ℕ) → count n p ≤ count n q + held n leaving
  pub order : KeepsOrder (queue p) (queue q)
  pub others : (m : ℕ) (party : Option (Party V C R S)) → name ≢ Some m → slice_get p.parties m ≡ Some party
      → slice_get q.parties m ≡ Some party

module _ {V C R S F A : Type 0} where
  -- another limit, other handles and other objects
  pub objects_pass : (sets : Bool) (name : Option ℕ) (limit reserve handles : ℕ) (is_open : Bool)
      (idle out leaving : List (Slot V)) (p : Pool V C R S F A)
      → (sets ≡ false → limit ≡ p.limit) → ((p.is_open ≡ false → p.limit ≡ 0) → is_open ≡ false → limit ≡ 0)
      → (HasFewIdle p → length idle ≤ limit)
      → ((m : ℕ) → held m idle + held m out ≤ held m p.idle + held m p.out)
      → ((m : ℕ) → held m p.idle + held m p.out ≤ held m idle + held m out + held m leaving)
      → Passes sets name leaving p
      (record p { limit = limit; reserve = reserve; handles = handles; is_open = is_open; idle = idle; out = out })
  objects_pass sets name limit reserve handles is_open idle out leaving p kept closed few same enough = record {
    limit = kept;
    few_idle = few;
    closed = closed;
    min_idle = refl;
    first = refl;
    grows = false;
    next = omega arith;
    few = λ m. omega (arith, same m);
    stay = λ m. omega (arith, enough m);
    order = order_same (queue p);
    others = λ m party other k. k;
  }

  pub passes_self : (sets : Bool) (name : Option ℕ) (leaving : List (Slot V)) (p : Pool V C R S F A)
      → Passes sets name leaving p p
  passes_self sets name leaving p =
      objects_pass sets name p.limit p.reserve p.handles p.is_open p.idle p.out leaving p (λ same. refl) (λ c. c)
      (λ few. few) (λ m. omega arith) (λ m. omega arith)

  -- so many of those that wait are granted a place
  pub granting_passes : (sets : Bool) (name : Option ℕ) (leaving : List (Slot V)) (n : ℕ) (p q : Pool V C R S F A)
      → Passes sets name leaving p q
      → Passes sets name leaving p (record q { granted = q.granted ++ take n q.waiting; waiting = drop n q.waiting })
  granting_passes sets name leaving n p q s =
      let same : queue (record q { granted = q.granted ++ take n q.waiting; waiting = drop n q.waiting }) ≡ queue q =
      append_assoc q.granted (take n q.waiting) (drop n q.waiting)
      ∙ ap (λ ys. q.granted ++ ys) (take-append-drop n q.waiting) in
      let k = s.order in
      record {
        limit = s.limit;
        few_idle = s.few_idle;
        closed = s.closed;
        min_idle = s.min_idle;
        first = s.first;
        grows = s.grows;
        next = s.next;
        few = s.few;
        stay = s.stay;
        order = record { stays = k.stays; joins = k.joins; is = same ∙ k.is; few = k.few; fresh = k.fresh };
        others = s.others;
      }

  -- those that wait are granted what is free
  pub settle_passes : (sets : Bool) (name : Option ℕ) (leaving : List (Slot V)) (p q : Pool V C R S F A)
      → Passes sets name leaving p q → Passes sets name leaving p (settle q)
  settle_passes sets name leaving p q s = granting_passes sets name leaving (grants q) p q s

  -- A party stands elsewhere, or is no more. Idle and out are so, and so is the queue.
  pub party_passes : (n : ℕ) (old new : Option (Party V C R S)) (grows : Bool) (next : ℕ) (idle out : List (Slot V))
      (granted waiting : List ℕ) (leaving : List (Slot V)) (p : Pool V C R S F A)
      → slice_get p.parties n ≡ Some old → next ≡ p.next + one_if grows → length idle ≤ length p.idle
      → KeepsOrder (queue p) (granted ++ waiting)
      → ((m : ℕ) → held m idle + (one_if (prepares m new) + held m out)
      ≤ held m p.idle + (one_if (prepares m old) + held m p.out) + one_if (grows && (p.next == m)))
      → ((m : ℕ) → held m p.idle + (one_if (prepares m old) + held m p.out)
      ≤ held m idle + (one_if (prepares m new) + held m out) + held m leaving)
      → Passes false (Some n) leaving p
      (record p {
        next = next;
        parties = set p.parties n new;
        idle = idle;
        out = out;
        granted = granted;
        waiting = waiting;
      })
  party_passes n old new grows next idle out granted waiting leaving p h e fewer order same enough = record {
    limit = λ kept. refl;
    few_idle = λ few. omega (arith, fewer, few);
    closed = λ c. c;
    min_idle = refl;
    first = refl;
    grows = grows;
    next = e;
    few = λ m. let one = count-set (prepares m) p.parties n old new h in let all = same m in omega (arith, one, all);
    stay = λ m. let one = count-set (prepares m) p.parties n old new h in let all = enough m in omega (arith, one, all);
    order = order;
    others = λ m party other k. get-set_other p.parties n m new (λ e. other (ap Some (sym e))) ∙ k;
  }
