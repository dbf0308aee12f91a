-- What is true between steps: the states that steps leave keep it, and where it is kept one line settled is both.
use Rattle.deadpool_unmanaged.proofs.Words.{◌≡◌, ℕ, ◌+◌, ◌-◌, ◌<◌, ◌≤◌, List, [], ◌∷◌, true, false, length, arith}
use Rattle.deadpool_unmanaged.proofs.Words.{Some, length-append, length-take, IsOnce, members, is_listed, ap, refl}
use Rattle.deadpool_unmanaged.proofs.Words.{without_number-shorter, without_number-fewer, without_number-one}
use Rattle.deadpool_unmanaged.proofs.Words.{without_number-same, has_number, IsOnce-front, NobodyWaits, once-without}
use Rattle.deadpool_unmanaged.proofs.Words.{served-settled, served_served, served_within, still_served, left_served}
use Rattle.deadpool_unmanaged.proofs.Words.{joined_served, free_objects, free_room, served, IsKept, State, size}
use Rattle.deadpool_unmanaged.proofs.Words.{settled, last_idle, handed, stored, without_get, without_add, with_get}
use Rattle.deadpool_unmanaged.proofs.Words.{with_add, served_fewer, Bool, Queue, cond, cond_both, min, take, ◌++◌}

-- no more than all that there is are granted it
granted_within : (is_open : Bool) (total most : ℕ) (q : Queue) → length q.granted ≤ most → total ≤ most
    → length (served is_open (total - length q.granted) q).granted ≤ most
granted_within is_open total most q few within =
    let k = cond is_open (min (length q.waiting) (total - length q.granted)) 0 in
    let all : length (q.granted ++ take k q.waiting) ≡ length q.granted + length (take k q.waiting) =
    length-append q.granted (take k q.waiting) in
    let given : length (take k q.waiting) ≡ min k (length q.waiting) = length-take k q.waiting in
    let free : k ≤ total - length q.granted =
    cond_both is_open (min (length q.waiting) (total - length q.granted)) 0 (λ n. n ≤ total - length q.granted)
    (λ y. omega arith) (λ y. omega arith) in
    omega (arith, all, given, free, few, within)

module _ {T : Type 0} where
  -- what a step owes before the settling
  record Owed (d : State T) : Type 0 where
    within : size d + length d.adds.granted ≤ d.limit
    objects : length d.gets.granted ≤ d.limit
    gets : IsOnce (members d.gets)
    adds : IsOnce (members d.adds)
    few_gets : length d.gets.waiting ≤ d.max_waiting
    few_adds : length d.adds.waiting ≤ d.max_waiting

  -- who settles keeps it all
  kept-settled : (d : State T) → Owed d → IsKept (settled d)
  kept-settled d owed =
      let fits = served_within d.is_open (d.limit - size d) d.adds (omega (arith, owed.within)) in
      record {
        gets = served_served d.is_open (length d.idle) d.gets _ refl owed.gets;
        adds = served_served d.is_open (d.limit - size d) d.adds _ refl owed.adds;
        few_gets = omega (arith, served_fewer d.is_open (free_objects d) d.gets, owed.few_gets);
        few_adds = omega (arith, served_fewer d.is_open (free_room d) d.adds, owed.few_adds);
        within = omega (arith, fits, owed.within);
        objects = granted_within d.is_open (length d.idle) d.limit d.gets owed.objects (omega (arith, owed.within));
      }

  -- a state in which it is kept is settled
  pub settled-kept : (d : State T) → IsKept d → d ≡ settled d
  settled-kept d k = rw (
    ← served-settled d.is_open (free_objects d) d.gets k.gets.nobody_waits,
    ← served-settled d.is_open (free_room d) d.adds k.adds.nobody_waits,
  ) refl

  -- where no add waits for room that is free, it settles both lines that the gets are settled; and the same of the adds
  pub settled-gets : (d : State T) → NobodyWaits d.is_open (free_room d) d.adds
      → record d { gets = served d.is_open (free_objects d) d.gets } ≡ settled d
  settled-gets d room = rw (← served-settled d.is_open (free_room d) d.adds room) refl

  pub settled-adds : (d : State T) → NobodyWaits d.is_open (free_objects d) d.gets
      → record d { adds = served d.is_open (free_room d) d.adds } ≡ settled d
  settled-adds d objects = rw (← served-settled d.is_open (free_objects d) d.gets objects) refl

  -- no more wait once one has left
  fewer_gets : (d : State T) (ticket : ℕ) → IsKept d → length (without_get ticket d).gets.waiting ≤ d.max_waiting
  fewer_gets d ticket k = omega (arith, without_number-shorter ticket d.gets.waiting, k.few_gets)

  fewer_adds : (d : State T) (ticket : ℕ) → IsKept d → length (without_add ticket d).adds.waiting ≤ d.max_waiting
  fewer_adds d ticket k = omega (arith, without_number-shorter ticket d.adds.waiting, k.few_adds)

  some_idle : (idle : List T) (v : T) → last_idle idle ≡ Some v → 0 < length idle
  some_idle [] v e = cc
  some_idle (x ∷ xs) v e = omega arith

  -- one of what is idle goes out, and no more room is free
  module _ (d : State T) (value : T) (is : last_idle d.idle ≡ Some value) where
    same_size : size (handed d) ≡ size d
    same_size = let some = some_idle d.idle value is in
        let rest = length-take (length d.idle - 1) d.idle in omega (arith, rest, some)

    one_less : length (handed d).idle + 1 ≡ length d.idle
    one_less = let some = some_idle d.idle value is in
        let rest = length-take (length d.idle - 1) d.idle in omega (arith, rest, some)

  -- a get that takes the object that it was granted leaves a settled state
  pub kept-taken : (d : State T) (ticket : ℕ) (value : T) → last_idle d.idle ≡ Some value → IsKept d
      → IsKept (handed (without_get ticket d))
  kept-taken d ticket value is k =
      let same = same_size d value is in
      let less = one_less d value is in
      let one = without_number-one ticket d.gets.granted (IsOnce-front d.gets.granted d.gets.waiting k.gets.once) in
      record {
        gets = left_served _ _ _ k.gets ticket _ (λ is_open some. omega (arith, one, less, some));
        adds = still_served _ _ _ k.adds _ (λ is_open some. omega (arith, same, some));
        few_gets = fewer_gets d ticket k;
        few_adds = k.few_adds;
        objects = omega (arith, without_number-shorter ticket d.gets.granted, k.objects);
        within = omega (arith, same, k.within);
      }

  -- so does one that takes an object at once, for whom one is free
  pub kept-handed : (d : State T) (value : T) → 0 < free_objects d → last_idle d.idle ≡ Some value → IsKept d
      → IsKept (handed d)
  kept-handed d value free is k =
      let same = same_size d value is in
      record {
        gets = still_served _ _ _ k.gets _ (λ is_open some. free);
        adds = still_served _ _ _ k.adds _ (λ is_open some. omega (arith, same, some));
        few_gets = k.few_gets;
        few_adds = k.few_adds;
        objects = k.objects;
        within = omega (arith, same, k.within);
      }

  -- and one that leaves without having been granted any
  pub kept-left : (d : State T) (ticket : ℕ) → has_number ticket d.gets.granted ≡ false → IsKept d
      → IsKept (without_get ticket d)
  kept-left d ticket has k =
      let same = ap length (without_number-same ticket d.gets.granted has) in
      record {
        gets = left_served _ _ _ k.gets ticket _ (λ is_open some. omega (arith, same, some));
        adds = k.adds;
        few_gets = fewer_gets d ticket k;
        few_adds = k.few_adds;
        objects = omega (arith, without_number-shorter ticket d.gets.granted, k.objects);
        within = k.within;
      }

  -- or is refused, as an object that was granted went, or the pool is closed
  pub kept-refused_get : (d : State T) (ticket : ℕ) → (d.is_open ≡ true → d.idle ≡ []) → IsKept d
      → IsKept (without_get ticket d)
  kept-refused_get d ticket gone k = record {
    gets = left_served _ _ _ k.gets ticket _
        (λ is_open some. absurd (let none : length d.idle ≡ 0 = ap length (gone is_open) in omega (arith, none, some)));
    adds = k.adds;
    few_gets = fewer_gets d ticket k;
    few_adds = k.few_adds;
    objects = omega (arith, without_number-shorter ticket d.gets.granted, k.objects);
    within = k.within;
  }

  -- a get that joins the queue finds nothing free
  pub kept-joined_get : (d : State T) (ticket : ℕ) → free_objects d ≡ 0 → length d.gets.waiting < d.max_waiting
      → is_listed ticket d.gets ≡ false → IsKept d → IsKept (with_get ticket d)
  kept-joined_get d ticket none roomy fresh k = record {
    gets = joined_served _ _ _ k.gets ticket none fresh;
    adds = k.adds;
    few_gets = omega (arith, length-append d.gets.waiting (ticket ∷ []), roomy);
    few_adds = k.few_adds;
    objects = k.objects;
    within = k.within;
  }

  -- what a get gives back is granted to the next
  pub kept-freed_get : (d : State T) (ticket : ℕ) → IsKept d → IsKept (settled (without_get ticket d))
  kept-freed_get d ticket k = kept-settled (without_get ticket d)
      (record {
        within = k.within;
        gets = once-without ticket d.gets k.gets.once;
        adds = k.adds.once;
        few_gets = fewer_gets d ticket k;
        few_adds = k.few_adds;
        objects = omega (arith, without_number-shorter ticket d.gets.granted, k.objects);
      })

  -- no add waits for room that is free where an add has put its object in, or one has come back
  pub room-added : (d : State T) (ticket : ℕ) (value : T) → IsKept d
      → NobodyWaits d.is_open (free_room (stored value (without_add ticket d))) (without_add ticket d).adds
  room-added d ticket value k =
      let one = without_number-one ticket d.adds.granted (IsOnce-front d.adds.granted d.adds.waiting k.adds.once) in
      let more = length-append d.idle (value ∷ []) in
      (left_served _ _ _ k.adds ticket _ (λ is_open some. omega (arith, one, more, some))).nobody_waits

  pub room-returned : (d : State T) (value : T) → IsKept d → 0 < d.outside
      → NobodyWaits d.is_open (free_room (stored value (record d { outside = d.outside - 1 }))) d.adds
  room-returned d value k out = let more = length-append d.idle (value ∷ []) in
      (still_served _ _ _ k.adds _ (λ is_open some. omega (arith, more, some, out))).nobody_waits

  -- the same where one comes in for which there is room
  pub room-stored : (d : State T) (value : T) → IsKept d → NobodyWaits d.is_open (free_room (stored value d)) d.adds
  room-stored d value k = let more = length-append d.idle (value ∷ []) in
      (still_served _ _ _ k.adds _ (λ is_open some. omega (arith, more, some))).nobody_waits

  pub kept-stored : (d : State T) (value : T) → 0 < free_room d → IsKept d → IsKept (settled (stored value d))
  kept-stored d value free k = let more = length-append d.idle (value ∷ []) in
      kept-settled (stored value d)
      (record {
        within = omega (arith, more, free);
        gets = k.gets.once;
        adds = k.adds.once;
        few_gets = k.few_gets;
        few_adds = k.few_adds;
        objects = k.objects;
      })

  -- the same of the adds
  pub kept-joined_add : (d : State T) (ticket : ℕ) → free_room d ≡ 0 → length d.adds.waiting < d.max_waiting
      → is_listed ticket d.adds ≡ false → IsKept d → IsKept (with_add ticket d)
  kept-joined_add d ticket none roomy fresh k = record {
    gets = k.gets;
    adds = joined_served _ _ _ k.adds ticket none fresh;
    few_gets = k.few_gets;
    few_adds = omega (arith, length-append d.adds.waiting (ticket ∷ []), roomy);
    objects = k.objects;
    within = k.within;
  }

  pub kept-refused_add : (d : State T) (ticket : ℕ) → d.is_open ≡ false → IsKept d → IsKept (without_add ticket d)
  kept-refused_add d ticket shut k = let fewer = without_number-shorter ticket d.adds.granted in
      record {
        gets = k.gets;
        adds = left_served _ _ _ k.adds ticket _ (λ is_open some. cc);
        few_gets = k.few_gets;
        few_adds = fewer_adds d ticket k;
        objects = k.objects;
        within = omega (arith, fewer, k.within);
      }

  pub kept-freed_add : (d : State T) (ticket : ℕ) → IsKept d → IsKept (settled (without_add ticket d))
  kept-freed_add d ticket k = let fewer = without_number-shorter ticket d.adds.granted in
      kept-settled (without_add ticket d)
      (record {
        within = omega (arith, fewer, k.within);
        gets = k.gets.once;
        adds = once-without ticket d.adds k.adds.once;
        few_gets = k.few_gets;
        few_adds = fewer_adds d ticket k;
        objects = k.objects;
      })

  -- and an add that puts its object in
  pub kept-added : (d : State T) (ticket : ℕ) (value : T) → has_number ticket d.adds.granted ≡ true → IsKept d
      → IsKept (settled (stored value (without_add ticket d)))
  kept-added d ticket value has k =
      let fewer = without_number-fewer ticket d.adds.granted has in
      let more = length-append d.idle (value ∷ []) in
      kept-settled (stored value (without_add ticket d))
      (record {
        within = omega (arith, fewer, more, k.within);
        gets = k.gets.once;
        adds = once-without ticket d.adds k.adds.once;
        few_gets = k.few_gets;
        few_adds = fewer_adds d ticket k;
        objects = k.objects;
      })
