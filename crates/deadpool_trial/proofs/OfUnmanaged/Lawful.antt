-- Each move keeps what is true of every state, and the limit.
use Rattle.deadpool_trial.proofs.OfUnmanaged.Basics.{◌≡◌, ℕ, ◌+◌, ◌-◌, ◌≤◌, nat_lt, if◌then◌else◌, ◌==◌, List, [], ◌∷◌}
use Rattle.deadpool_trial.proofs.OfUnmanaged.Basics.{Bool, true, false, not, length, refl}
use Rattle.deadpool_trial.proofs.OfUnmanaged.Basics.{◌∙◌, arith, inl, inr, Option}
use Rattle.deadpool_trial.proofs.OfUnmanaged.Basics.{nat_le, Some, None, length-append, length-take, cases_Bool}
use Rattle.deadpool_trial.proofs.OfUnmanaged.Basics.{cond_both}
use Rattle.deadpool_trial.proofs.OfUnmanaged.Basics.{ltb-true, slice_get_within, Duration, slice_get, deadline_after}
use Rattle.deadpool_trial.proofs.OfUnmanaged.Basics.{is_reached, cannot_wait, Runtime, has_number, largest_usize}
use Rattle.deadpool_trial.proofs.OfUnmanaged.Basics.{most_handles, Moment}
use Rattle.deadpool_trial.proofs.OfUnmanaged.Basics.{without_number-shorter, without_number-fewer}
use Rattle.deadpool_trial.proofs.OfUnmanaged.Words.{HasRoom, PoolInvariant, IsWithinLimit, unsettled, moved, by_party}
use Rattle.deadpool_trial.proofs.OfUnmanaged.Words.{by_newcomer, by_number, started, Pool, Party, new_get, queued_get}
use Rattle.deadpool_trial.proofs.OfUnmanaged.Words.{new_add, queued_add, finished, opened}
use Rattle.deadpool_trial.proofs.OfUnmanaged.Words.{size, free_objects, free_room}
use Rattle.deadpool_trial.proofs.OfUnmanaged.Words.{settle, status_of, last_idle, find_item, without_item, with_item}
use Rattle.deadpool_trial.proofs.OfUnmanaged.Words.{hand_out, store, ended, enter_get, inquire_get, enter_add}
use Rattle.deadpool_trial.proofs.OfUnmanaged.Words.{inquire_add, poll, cancelled, try_get, try_store, back, take_out}
use Rattle.deadpool_trial.proofs.OfUnmanaged.Words.{closed, cloned, handle_dropped, Item, Move, Reply}
use Rattle.deadpool_trial.proofs.OfUnmanaged.Words.{nobody_waits-served, served_within, pool_handed as handed}

module _ {V : Type 0} where
  -- one more object in a list by number
  pub length-with_item : (s : Item V) (xs : List (Item V)) → length (with_item s xs) ≡ length xs + 1
  length-with_item s [] = refl
  length-with_item s (x ∷ xs) =
      elim (cases_Bool (nat_lt s.number x.number)) [
        | inl is_less ↦ rw is_less (omega arith)
        | inr is_not_less ↦ rw is_not_less (omega (arith, length-with_item s xs))
      ]

  -- without one that is found there is one less
  pub length-without_item : (n : ℕ) (xs : List (Item V)) (item : Item V) → find_item n xs ≡ Some item
      → length (without_item n xs) + 1 ≡ length xs
  length-without_item n [] item h = cc
  length-without_item n (x ∷ xs) item h =
      elim (cases_Bool (x.number == n)) [
        | inl same ↦ rw same (omega arith)
        | inr differs ↦
            let there : find_item n xs ≡ Some item = rw differs at h in
            rw differs (omega (arith, length-without_item n xs item there))
      ]

  -- the room stays enough, and the limit as it is
  pub record Keeps (p q : Pool V) : Type 0 where
    pub room : HasRoom q
    pub limit : q.limit ≡ p.limit

  same_keeps : (p : Pool V) → HasRoom p → Keeps p p
  same_keeps p room = record { room = room; limit = refl }

  ended_keeps : (n : ℕ) (p : Pool V) → HasRoom p → Keeps p (ended n p)
  ended_keeps n p room = let fewer = without_number-shorter n p.adds.granted in
      record { room = omega (arith, room, fewer); limit = refl }

  -- an object goes out
  handed_keeps : (o : Option (Item V)) (p : Pool V) → last_idle p.idle ≡ o → HasRoom p → Keeps p (handed o p).1
  handed_keeps None p none room = same_keeps p room
  handed_keeps (Some item) p is room =
      let within = slice_get_within p.idle (length p.idle - 1) item is in
      let less = length-take (length p.idle - 1) p.idle in
      let more = length-with_item item p.out in
      record { room = omega (arith, within, less, more, room); limit = refl }

  hand_out_keeps : (p q : Pool V) → Keeps p q → Keeps p (hand_out q).1
  hand_out_keeps p q kept = let out = handed_keeps (last_idle q.idle) q refl kept.room in
      record { room = out.room; limit = out.limit ∙ kept.limit }

  -- an object comes in, if there is room
  store_keeps : (item : Item V) (p q : Pool V) → q.limit ≡ p.limit → size q + length q.adds.granted + 1 ≤ q.limit
      → Keeps p (store item q).1
  store_keeps item p q limit room = let more = length-append q.idle (item ∷ []) in
      record { room = omega (arith, more, room); limit = limit }

  enter_get_keeps : (found : Bool) (n : ℕ) (wait : Option Duration) (now : Moment) (p : Pool V) → HasRoom p
      → Keeps p (enter_get found n wait now p).1
  enter_get_keeps found n wait now p room =
      let ends = ended_keeps n p room in
      let P : Reply V × Pool V → Type 0 = λ x. Keeps p x.1 in
      cond_both (cannot_wait p.runtime wait) _ _ P (λ _. ends)
      (λ _. cond_both (not p.is_open) _ _ P (λ _. ends)
      (λ _. cond_both (nat_lt 0 (free_objects p)) _ _ P (λ _. hand_out_keeps p (ended n p) ends)
      (λ _. cond_both (is_reached (deadline_after now wait) now) _ _ P (λ _. ends)
      (λ _. cond_both (nat_le p.max_waiting (length p.gets.waiting)) _ _ P (λ _. ends)
      (λ _. cond_both found _ _ P (λ _. record { room = room; limit = refl }) (λ _. ends))))))

  inquire_get_keeps : (n : ℕ) (deadline : Option Moment) (now : Moment) (p : Pool V) → HasRoom p
      → Keeps p (inquire_get n deadline now p).1
  inquire_get_keeps n deadline now p room =
      let ends = ended_keeps n p room in
      let P : Reply V × Pool V → Type 0 = λ x. Keeps p x.1 in
      cond_both (not p.is_open) _ _ P (λ _. ends)
      (λ _. cond_both (has_number n p.gets.granted) _ _ P (λ _. hand_out_keeps p (ended n p) ends)
      (λ _. cond_both (is_reached deadline now) _ _ P (λ _. ends) (λ _. same_keeps p room)))

  enter_add_keeps : (found : Bool) (n : ℕ) (item : Item V) (p : Pool V) → HasRoom p
      → Keeps p (enter_add found n item p).1
  enter_add_keeps found n item p room =
      let ends = ended_keeps n p room in
      let fewer = without_number-shorter n p.adds.granted in
      let P : Reply V × Pool V → Type 0 = λ x. Keeps p x.1 in
      cond_both (not p.is_open) _ _ P (λ _. ends)
      (λ _. cond_both (nat_lt 0 (free_room p)) _ _ P
      (λ free. store_keeps item p (ended n p) refl (omega (arith, fewer, ltb-true 0 (free_room p) free)))
      (λ _. cond_both (nat_le p.max_waiting (length p.adds.waiting)) _ _ P (λ _. ends)
      (λ _. cond_both found _ _ P (λ _. record { room = room; limit = refl }) (λ _. ends))))

  inquire_add_keeps : (n : ℕ) (item : Item V) (p : Pool V) → HasRoom p → Keeps p (inquire_add n item p).1
  inquire_add_keeps n item p room =
      let P : Reply V × Pool V → Type 0 = λ x. Keeps p x.1 in
      cond_both (not p.is_open) _ _ P (λ _. ended_keeps n p room)
      (λ _. cond_both (has_number n p.adds.granted) _ _ P
      (λ has. let fewer = without_number-fewer n p.adds.granted has in
      store_keeps item p (ended n p) refl (omega (arith, fewer, room)))
      (λ _. same_keeps p room))

  poll_keeps : (found : Bool) (n : ℕ) (now : Moment) (party : Party V) (p : Pool V) → HasRoom p
      → Keeps p (poll found n now party p).1
  poll_keeps found n now (new_get wait) p room = enter_get_keeps found n wait now p room
  poll_keeps found n now (queued_get deadline) p room = inquire_get_keeps n deadline now p room
  poll_keeps found n now (new_add item) p room = enter_add_keeps found n item p room
  poll_keeps found n now (queued_add item) p room = inquire_add_keeps n item p room
  poll_keeps found n now finished p room = same_keeps p room

  try_get_keeps : (p : Pool V) → HasRoom p → Keeps p (try_get p).1
  try_get_keeps p room =
      let same = same_keeps p room in
      let P : Reply V × Pool V → Type 0 = λ x. Keeps p x.1 in
      cond_both (not p.is_open) _ _ P (λ _. same)
      (λ _. cond_both (nat_lt 0 (free_objects p)) _ _ P (λ _. hand_out_keeps p p same) (λ _. same))

  try_store_keeps : (item : Item V) (p : Pool V) → HasRoom p → Keeps p (try_store item p).1
  try_store_keeps item p room =
      let same = same_keeps p room in
      let P : Reply V × Pool V → Type 0 = λ x. Keeps p x.1 in
      cond_both (not p.is_open) _ _ P (λ _. same)
      (λ _. cond_both (nat_lt 0 (free_room p)) _ _ P
      (λ free. store_keeps item p p refl (omega (arith, room, ltb-true 0 (free_room p) free))) (λ _. same))

  back_keeps : (o : Option (Item V)) (n : ℕ) (p : Pool V) → find_item n p.out ≡ o → HasRoom p → Keeps p (back o n p).1
  back_keeps None n p none room = same_keeps p room
  back_keeps (Some item) n p is room =
      let less = length-without_item n p.out item is in
      let more = length-append p.idle (item ∷ []) in
      let gone : Keeps p (record p { out = without_item n p.out }) =
      record { room = omega (arith, less, room); limit = refl } in
      let P : Reply V × Pool V → Type 0 = λ x. Keeps p x.1 in
      cond_both (not p.is_open) _ _ P (λ _. gone)
      (λ _. cond_both (p.handles == 0) _ _ P (λ _. gone)
      (λ _. record { room = omega (arith, less, more, room); limit = refl }))

  take_out_keeps : (o : Option (Item V)) (n : ℕ) (p : Pool V) → find_item n p.out ≡ o → HasRoom p
      → Keeps p (take_out o n p).1
  take_out_keeps None n p none room = same_keeps p room
  take_out_keeps (Some item) n p is room = let less = length-without_item n p.out item is in
      record { room = omega (arith, less, room); limit = refl }

  handle_dropped_keeps : (p : Pool V) → HasRoom p → Keeps p (handle_dropped p)
  handle_dropped_keeps p room =
      let left = if p.handles == most_handles then most_handles else p.handles - 1 in
      let fewer : length (if left == 0 then [] else p.idle) ≤ length p.idle =
      cond_both (left == 0) [] p.idle (λ xs. length xs ≤ length p.idle) (λ _. omega arith) (λ _. omega arith) in
      record { room = omega (arith, fewer, room); limit = refl }

  closed_keeps : (p : Pool V) → HasRoom p → Keeps p (closed p)
  closed_keeps p room = record { room = omega (arith, room); limit = refl }

  -- a step of one who needs a handle, of a new party, of an object that is handed in, or of a party that is there
  by_handle_keeps : (p : Pool V) (x : Reply V × Pool V) → HasRoom p → Keeps p x.1
      → Keeps p (if p.handles == 0 then (Reply.NoHandle, p) else x).1
  by_handle_keeps p x room kept = let P : Reply V × Pool V → Type 0 =
      λ y. Keeps p y.1 in cond_both (p.handles == 0) (Reply.NoHandle, p) x P (λ _. same_keeps p room) (λ _. kept)

  by_newcomer_keeps : (p : Pool V) (x : Reply V × Pool V) → HasRoom p → Keeps p x.1
      → Keeps p (if nat_lt (length p.parties) p.most_parties then x else (Reply.NoRoom, p)).1
  by_newcomer_keeps p x room kept =
      let P : Reply V × Pool V → Type 0 = λ y. Keeps p y.1 in
      cond_both (nat_lt (length p.parties) p.most_parties) x (Reply.NoRoom, p) P (λ _. kept) (λ _. same_keeps p room)

  by_number_keeps : (v : V) (p : Pool V) (x : Reply V × Pool V) → HasRoom p → Keeps p x.1
      → Keeps p (if p.next == largest_usize then (Reply.Exhausted v, p) else x).1
  by_number_keeps v p x room kept =
      let P : Reply V × Pool V → Type 0 = λ y. Keeps p y.1 in
      cond_both (p.next == largest_usize) (Reply.Exhausted v, p) x P (λ _. same_keeps p room) (λ _. kept)

  by_party_keeps : (o : Option (Option (Party V))) (step : Party V → Pool V → Reply V × Pool V) (p : Pool V) → HasRoom p
      → ((party : Party V) → Keeps p (step party p).1) → Keeps p (by_party o step p).1
  by_party_keeps None step p room kept = same_keeps p room
  by_party_keeps (Some None) step p room kept = same_keeps p room
  by_party_keeps (Some (Some party)) step p room kept = kept party

  unsettled_keeps : (found : Bool) (m : Move V) (p : Pool V) → HasRoom p → Keeps p (unsettled found m p).1
  unsettled_keeps found (Move.Get wait) p room =
      let starts = started (new_get wait) p in
      by_handle_keeps p (by_newcomer (started (new_get wait)) p) room
      (by_newcomer_keeps p starts room (record { room = room; limit = refl }))
  unsettled_keeps found (Move.Add v) p room =
      let start : Item V → Pool V → Reply V × Pool V = λ item. started (new_add item) in
      let numbered = record p { next = p.next + 1 } in
      by_handle_keeps p (by_newcomer (by_number start v) p) room
      (by_newcomer_keeps p (by_number start v p) room
      (by_number_keeps v p (start (record { number = p.next; value = v }) numbered) room
      (record { room = room; limit = refl })))
  unsettled_keeps found (Move.Poll n now) p room =
      by_party_keeps (slice_get p.parties n) (poll found n now) p room (λ party. poll_keeps found n now party p room)
  unsettled_keeps found Move.TryGet p room = by_handle_keeps p (try_get p) room (try_get_keeps p room)
  unsettled_keeps found (Move.TryAdd v) p room =
      let numbered = record p { next = p.next + 1 } in
      let item : Item V = record { number = p.next; value = v } in
      let kept = try_store_keeps item numbered room in
      by_handle_keeps p (by_number try_store v p) room
      (by_number_keeps v p (try_store item numbered) room (record { room = kept.room; limit = kept.limit }))
  unsettled_keeps found (Move.Cancel n) p room =
      let ends = ended_keeps n p room in
      by_party_keeps (slice_get p.parties n) (λ party q. (Reply.Cancelled, cancelled n q)) p room
      (λ party. record { room = ends.room; limit = refl })
  unsettled_keeps found (Move.Back n) p room = back_keeps (find_item n p.out) n p refl room
  unsettled_keeps found (Move.Take n) p room = take_out_keeps (find_item n p.out) n p refl room
  unsettled_keeps found Move.Close p room = by_handle_keeps p (Reply.Done, closed p) room (closed_keeps p room)
  unsettled_keeps found Move.Status p room = by_handle_keeps p (Reply.Stands (status_of p), p) room (same_keeps p room)
  unsettled_keeps found Move.Clone p room =
      by_handle_keeps p (Reply.Done, cloned p) room (record { room = room; limit = refl })
  unsettled_keeps found Move.DropHandle p room =
      by_handle_keeps p (Reply.Done, handle_dropped p) room (handle_dropped_keeps p room)
  unsettled_keeps found Move.Upgrade p room =
      let P : Reply V × Pool V → Type 0 = λ x. Keeps p x.1 in
      cond_both (p.handles == 0) (Reply.Upgraded false, p) (
        Reply.Upgraded true,
        cloned p,
      ) P (λ _. same_keeps p room) (λ _. record { room = room; limit = refl })

  -- the settling grants what is free, and nobody waits then
  settle_lawful : (p : Pool V) → HasRoom p → PoolInvariant (settle p)
  settle_lawful p room =
      let within = served_within p.is_open (p.limit - size p) p.adds (omega (arith, room)) in
      record {
        nobody_waits = record {
          objects = nobody_waits-served p.is_open (length p.idle) p.gets _ refl;
          room = nobody_waits-served p.is_open (p.limit - size p) p.adds _ refl;
        };
        room = omega (arith, within, room);
      }

  -- so each move leads from what is lawful to what is, and keeps the limit
  pub moved_lawful : (found : Bool) (m : Move V) (p : Pool V) → PoolInvariant p
      → PoolInvariant (moved found m p).1 × ((moved found m p).1.limit ≡ p.limit)
  moved_lawful found m p lawful =
      let kept = unsettled_keeps found m p lawful.room in
      (settle_lawful (unsettled found m p).1 kept.room, kept.limit)

  pub opened_lawful : (limit : ℕ) (runtime : Option Runtime) (most : ℕ)
      → PoolInvariant (opened {V = V} limit runtime most)
  opened_lawful limit runtime most =
      record { nobody_waits = record { objects = λ is some. refl; room = λ is some. refl }; room = omega arith }

  pub within_limit : (p : Pool V) → PoolInvariant p → IsWithinLimit p
  within_limit p lawful = omega (arith, lawful.room)
