-- What every move has, whatever the outside answers: a lawful pool within the reach, the numbers of the objects, the
-- object that the reply gives or keeps, and how many stay idle.
use Rattle.deadpool_trial.proofs.Basics.{one_if, count-push, held-push, get-append, length-without_numbered}
use Rattle.deadpool_trial.proofs.Basics.{count-cons, count-append, count-without, count-found, order_same, Always-bind}
use Rattle.deadpool_trial.proofs.Basics.{has_number, most_handles, Return, Always, ◌≡◌, ℕ, ◌+◌, ◌-◌, ◌≤◌, List, true}
use Rattle.deadpool_trial.proofs.Basics.{false, refl, ap, ◌∙◌, arith, inl, inr, Option, Some, None, [], ◌∷◌, ◌++◌}
use Rattle.deadpool_trial.proofs.Basics.{◌==◌, nat_le, sym, Bool, not, min, length, length-drop, nat_lt, unwrap_or}
use Rattle.deadpool_trial.proofs.Basics.{max, take, drop, length-append, zero, suc, if◌then◌else◌, cond_both}
use Rattle.deadpool_trial.proofs.Basics.{cases_Bool, leb-true, nat_tests, slice_get, filter}
use Rattle.deadpool_trial.proofs.Words.{PoolInvariant, queue, is_queued, one_step, by_party, resize, staying, give_up}
use Rattle.deadpool_trial.proofs.Words.{retain_with, retain, by_handle, started, put_at, back_at, take_at, cancel}
use Rattle.deadpool_trial.proofs.Words.{advance, Pool, Party, size, prepared_at, is_going, is_creating, prepared_by}
use Rattle.deadpool_trial.proofs.Words.{settle, least_idle, unpolled, reach, status_of, LeavesEnough, IsOutIfGiven}
use Rattle.deadpool_trial.proofs.Words.{IsIdleIfKept, HasFewIdle, prepared_in, sets_limit, named, may_leave}
use Rattle.deadpool_trial.proofs.Words.{slot_number, find_slot, without_slot, given_up, resized, with_put, closed}
use Rattle.deadpool_trial.proofs.Words.{cloned, handle_dropped, Move, Reply, Asking, Slot, Timeouts, grants}
use Rattle.deadpool_trial.specs.declared.moves.Move.TheVariants as move
use Rattle.deadpool_trial.specs.declared.moves.Reply.TheVariants as reply
use Rattle.deadpool_trial.proofs.NumberCounts.{held, held-with_put, held-drop, held-split, has_number-held}
use Rattle.deadpool_trial.proofs.NumberCounts.{find_slot-number}
use Rattle.deadpool_trial.proofs.OutObjects.{length-with_put}
use Rattle.deadpool_trial.proofs.Staying.{staying-shorter, staying-least, held-staying, held-going}
use Rattle.deadpool_trial.proofs.Computations.{Always-more}
use Rattle.deadpool_trial.proofs.QueuesAndPlaces.{Follows, Follows-self, standing_at, settle_follows}
use Rattle.deadpool_trial.proofs.NumbersAndOrder.{Passes, prepares, passes_self, granting_passes, settle_passes}
use Rattle.deadpool_trial.proofs.NumbersAndOrder.{objects_pass}
use Rattle.deadpool_trial.proofs.PartyMoves.{Advanced, advanced, cancelled}

module _ {V : Type 0} where
  -- the objects with the number
  abbrev numbered : ℕ → List (Slot V) → List (Slot V)
  numbered n xs = filter (λ s. s.number == n) xs

  -- the objects whose numbers are not among these
  abbrev not_kept : List ℕ → List (Slot V) → List (Slot V)
  not_kept kept xs = filter (λ s. not (has_number s.number kept)) xs

-- when one of several handles goes, some are left
some_left : (handles : ℕ) → (handles == 0) ≡ false → (handles == 1) ≡ false
    → ((if handles == most_handles then most_handles else handles - 1) == 0) ≡ false
some_left handles some more =
    cond_both (handles == most_handles) _ _ (λ left. (left == 0) ≡ false) (λ top. refl)
    (λ other. grind (arith, nat_tests, some, more))

module _ {V C R S : Type 0} where
  -- if a party starts that is not queued, the same are queued
  started_marked : (parties : List (Option (Party V C R S))) (new : Option (Party V C R S)) (n : ℕ)
      → is_queued (Some new) ≡ false
      → is_queued (slice_get parties n) ≡ is_queued (slice_get (parties ++ new ∷ []) n)
  started_marked [] new zero h = sym h
  started_marked [] new (suc n) h = refl
  started_marked (x ∷ xs) new zero h = refl
  started_marked (x ∷ xs) new (suc n) h = started_marked xs new n h

module _ {V C R S F A : Type 0} (p : Pool V C R S F A) (l : PoolInvariant p) where
  -- a step that names no party and takes no objects but these
  abbrev Steps : Bool → List (Slot V) → Pool V C R S F A → Type 0
  Steps sets leaving q = Follows (reach p) q × Passes sets None leaving p q

  -- other objects, no more of them, and the same places
  objects_step : (handles : ℕ) (idle out leaving : List (Slot V)) → length idle ≤ length p.idle
      → length out ≡ length p.out
      → ((j : ℕ) → held j idle + held j out ≤ held j p.idle + held j p.out)
      → ((j : ℕ) → held j p.idle + held j p.out ≤ held j idle + held j out + held j leaving)
      → Steps false leaving (record p { handles = handles; idle = idle; out = out })
  objects_step handles idle out leaving fewer same few enough = (
    record {
      orderly = record {
        once = l.once;
        few_places = omega (arith, same);
        few_objects = omega (arith, same, fewer);
        few_waiting = l.few_waiting;
      };
      marks = l.marks;
      nobody_waits = λ opens free. l.nobody_waits opens (omega (arith, same, free));
    },
    objects_pass false None p.limit p.reserve handles p.is_open idle out leaving p (λ same. refl) (λ c. c)
        (λ few_idle. omega (arith, few_idle, fewer)) few enough,
  )

  -- an object leaves those that are out, and so many are idle
  out_step : (n : ℕ) (slot : Slot V) (idle : List (Slot V)) → find_slot n p.out ≡ Some slot
      → length idle ≤ length p.idle + 1 → (HasFewIdle p → length idle ≤ p.limit)
      → ((j : ℕ) → held j idle ≤ held j p.idle + one_if (slot.number == j)) → ((j : ℕ) → held j p.idle ≤ held j idle)
      → Steps false (numbered n p.out) (settle (record p { idle = idle; out = without_slot n p.out }))
  out_step n slot idle h longer few_idle few enough =
      let fewer = length-without_numbered slot_number n p.out slot h in (
        settle_follows (reach p) (record p { idle = idle; out = without_slot n p.out })
            record {
              once = l.once;
              few_places = omega (arith, fewer);
              few_objects = omega (arith, fewer, longer);
              few_waiting = l.few_waiting;
            } l.marks,
        settle_passes false None (numbered n p.out) p _
            (objects_pass false None p.limit p.reserve p.handles p.is_open idle (without_slot n p.out)
            (numbered n p.out) p (λ same. refl) (λ c. c) few_idle
            (λ j. omega (arith, count-without slot_number j n slot p.out h, few j))
            (λ j. omega (
              arith,
              count-without slot_number j n slot p.out h,
              count-found slot_number j n slot p.out h,
              enough j,
            ))),
      )

  -- another limit, which a closed pool takes only if it is 0
  resized_step : (n : ℕ) → (p.is_open ≡ false → n ≡ 0) → Steps true (take (given_up n p) p.idle) (resized n p)
  resized_step n none =
      let gone = given_up n p in
      let q : Pool V C R S F A = record p { limit = n; reserve = max p.reserve n; idle = drop gone p.idle } in (
        settle_follows (reach p) q record {
          once = l.once;
          few_places = omega arith;
          few_objects = omega (arith, length-drop gone p.idle);
          few_waiting = l.few_waiting;
        } l.marks,
        settle_passes true None (take gone p.idle) p q
            (objects_pass true None n (max p.reserve n) p.handles p.is_open (drop gone p.idle) p.out
            (take gone p.idle) p (λ clash. cc) (λ c. none)
            (λ few. omega (arith, length-drop gone p.idle)) (λ j. omega (arith, held-drop j gone p.idle))
            (λ j. omega (arith, held-split j gone p.idle))),
      )

  closed_step : Steps true p.idle (closed p)
  closed_step =
      let gone = given_up 0 p in
      let f = (resized_step 0 (λ shut. refl)).0 in (
        record {
          orderly = record {
            once = f.orderly.once;
            few_places = f.orderly.few_places;
            few_objects = f.orderly.few_objects;
            few_waiting = f.orderly.few_waiting;
          };
          marks = f.marks;
          nobody_waits = λ opens free. cc;
        },
        granting_passes true None p.idle
            (grants (record p { limit = 0; reserve = max p.reserve 0; idle = drop gone p.idle })) p _
            (objects_pass true None 0 (max p.reserve 0) p.handles false (drop gone p.idle) p.out p.idle p (λ clash. cc)
            (λ c shut. refl)
            (λ few. omega (arith, length-drop gone p.idle)) (λ j. omega (arith, held-drop j gone p.idle))
            (λ j. omega arith)),
      )

  cloned_step : Steps false [] (cloned p)
  cloned_step = objects_step (min (p.handles + 1) most_handles) p.idle p.out [] (omega arith) refl (λ j. omega arith)
      (λ j. omega arith)

  -- one handle fewer, and with the last no idle objects
  handle_dropped_step : (p.handles == 0) ≡ false
      → Steps false (if p.handles == 1 then p.idle else []) (handle_dropped p)
  handle_dropped_step some =
      let left = if p.handles == most_handles then most_handles else p.handles - 1 in
      objects_step left (if left == 0 then [] else p.idle) p.out (if p.handles == 1 then p.idle else [])
      (cond_both (left == 0) _ _ (λ idle. length idle ≤ length p.idle) (λ last. omega arith) (λ more. omega arith)) refl
      (λ j. cond_both (left == 0) _ _ (λ idle. held j idle + held j p.out ≤ held j p.idle + held j p.out)
      (λ last. omega arith) (λ more. omega arith))
      (λ j. elim (cases_Bool (p.handles == 1)) [
        | inl last ↦ rw last (omega arith)
        | inr more ↦ rw (more, some_left p.handles some more) (omega arith)
      ])

module _ {V E C R S F A : Type 0} where
  -- what a move has, with its reply
  abbrev pub Moved : Pool V C R S F A → Move V → Reply V E × Pool V C R S F A → Type 0
  Moved p m x =
      Follows (reach p) x.1 × Passes (sets_limit m) (named m) (may_leave m p) p x.1 × IsOutIfGiven m x.0 x.1
      × IsIdleIfKept m x.0 x.1 × LeavesEnough m p x.1

module _ {V C R S F A : Type 0} (E : Type 0) (p : Pool V C R S F A) (l : PoolInvariant p) where
  -- a move that changes nothing
  unchanged : (m : Move V) (answer : Reply V E) → IsOutIfGiven m answer p → IsIdleIfKept m answer p → LeavesEnough m p p
      → Moved {E = E} p m (answer, p)
  unchanged m answer gives keeps enough =
      (Follows-self p l, passes_self (sets_limit m) (named m) (may_leave m p) p, gives, keeps, enough)

  -- a step that needs a handle: with none left nothing changes
  by_handle_moved : (m : Move V) (step : Pool V C R S F A → Reply V E × Pool V C R S F A)
      → IsIdleIfKept {E = E} m reply.NoHandle p → LeavesEnough m p p
      → ((p.handles == 0) ≡ false → Moved {E = E} p m (step p)) → Moved {E = E} p m (by_handle step p)
  by_handle_moved m step keeps enough has =
      cond_both (p.handles == 0) _ _ (Moved {E = E} p m) (λ none. unchanged m reply.NoHandle tt keeps enough) has

  started_moved : (timeouts : Option Timeouts) → Moved {E = E} p (move.Start timeouts) (started timeouts p)
  started_moved timeouts =
      let new : Option (Party V C R S) = Some (standing_at (unwrap_or timeouts p.timeouts) unpolled) in
      let c0 = count-push is_going p.parties new in
      let c1 = count-push is_creating p.parties new in
      let c2 = held-push prepared_by p.parties new in
      cond_both (nat_lt (length p.parties) p.most_parties) _ _ (Moved {E = E} p (move.Start timeouts))
      (λ few. (
        record {
          orderly = record {
            once = l.once;
            few_places = omega (arith, c0, c1, c2);
            few_objects = omega (arith, c1, c2);
            few_waiting = l.few_waiting;
          };
          marks = λ n. l.marks n ∙ started_marked p.parties new n refl;
          nobody_waits = λ opens free. l.nobody_waits opens (omega (arith, c0, c1, c2, free));
        },
        record {
          limit = λ same. refl;
          few_idle = λ idle. idle;
          closed = λ c. c;
          min_idle = refl;
          first = refl;
          grows = false;
          next = omega arith;
          few = λ j. omega (arith, count-push (prepares j) p.parties new);
          stay = λ j. omega (arith, count-push (prepares j) p.parties new);
          order = order_same (queue p);
          others = λ j party other k. get-append p.parties (new ∷ []) j party k;
        },
        tt,
        tt,
        tt,
      ))
      (λ full. unchanged (move.Start timeouts) reply.NoRoom tt tt tt)

  -- an object that is out gets another value
  put_moved : (n : ℕ) (v : V) (found : Option (Slot V)) → Moved {E = E} p (move.Put n v) (put_at found n v p)
  put_moved n v None = unchanged (move.Put n v) reply.NoSuch tt tt tt
  put_moved n v (Some slot) =
      let all = objects_step p l p.handles p.idle (with_put n v p.out) [] (omega arith) (length-with_put n v p.out)
      (λ j. omega (arith, held-with_put j n v p.out)) (λ j. omega (arith, held-with_put j n v p.out)) in
      (all.0, all.1, tt, tt, tt)

  back_moved : (n : ℕ) (found : Option (Slot V)) → find_slot n p.out ≡ found
      → Always (Moved {E = E} p (move.Back n)) (back_at found n p)
  back_moved n None h = unchanged (move.Back n) reply.NoSuch tt tt tt
  back_moved n (Some slot) h =
      let P : Asking V E C R S F A (Reply V E × Pool V C R S F A) → Type 0 = Always (Moved {E = E} p (move.Back n)) in
      let gone = out_step p l n slot p.idle h (omega arith) (λ few. few) (λ j. omega arith) (λ j. omega arith) in
      let longer = length-append p.idle (slot ∷ []) in
      let more : (j : ℕ) → held j (p.idle ++ slot ∷ []) ≡ held j p.idle + one_if (slot.number == j) =
      λ j. let both = count-append slot_number j p.idle (slot ∷ []) in let one = count-cons slot_number j slot [] in
      omega (arith, both, one) in
      let same : one_if (slot.number == n) ≡ 1 = ap one_if (find_slot-number n slot p.out h) in
      cond_both (p.handles == 0) _ _ P (λ none. (gone.0, gone.1, tt, tt, tt)) (λ some.
      cond_both (nat_le (size p) p.limit) _ _ P
      (λ fits.
      let kept = out_step p l n slot (p.idle ++ slot ∷ []) h (omega (arith, longer))
      (λ few. omega (arith, longer, length-without_numbered slot_number n p.out slot h, leb-true (size p) p.limit fits))
      (λ j. omega (arith, more j)) (λ j. omega (arith, more j)) in
      (kept.0, kept.1, tt, has_number-held n (p.idle ++ slot ∷ []) (omega (arith, more n, same)), tt))
      (λ above left. (gone.0, gone.1, tt, tt, tt)))

  take_moved : (n : ℕ) (found : Option (Slot V)) → find_slot n p.out ≡ found
      → Always (Moved {E = E} p (move.Take n)) (take_at found n p)
  take_moved n None h = unchanged (move.Take n) reply.NoSuch tt tt tt
  take_moved n (Some slot) h =
      let P : Asking V E C R S F A (Reply V E × Pool V C R S F A) → Type 0 = Always (Moved {E = E} p (move.Take n)) in
      let gone = out_step p l n slot p.idle h (omega arith) (λ few. few) (λ j. omega arith) (λ j. omega arith) in
      cond_both (p.handles == 0) _ _ P (λ none. (gone.0, gone.1, tt, tt, tt))
      (λ some left. (gone.0, gone.1, tt, tt, tt))

  resize_moved : (n : ℕ) → Always (Moved {E = E} p (move.Resize n)) (resize n p)
  resize_moved n =
      let P : Asking V E C R S F A (Reply V E × Pool V C R S F A) → Type 0 = Always (Moved {E = E} p (move.Resize n)) in
      let same : (answer : Reply V E) → IsOutIfGiven (move.Resize n) answer p
      → Moved {E = E} p (move.Resize n) (answer, p) =
      λ answer gives. unchanged (move.Resize n) answer gives tt (omega arith) in
      cond_both (p.handles == 0) _ _ P (λ none. same reply.NoHandle tt) (λ some.
      cond_both (not p.is_open) _ _ P (λ shut. same reply.Done tt) (λ opens.
      let all = resized_step p l n (λ shut. let clash : not p.is_open ≡ true = rw shut refl in cc) in
      let done : Moved {E = E} p (move.Resize n) (reply.Done, resized n p) =
      (all.0, all.1, tt, tt, omega (arith, length-drop (given_up n p) p.idle)) in
      cond_both (nat_lt p.reserve n) _ _ P
      (λ grows found. cond_both found _ _ (Moved {E = E} p (move.Resize n)) (λ yes. done)
      (λ no. same reply.OutOfMemory tt)) (λ fits. done)))

  -- some of the idle objects are kept, if memory was found
  retain_with_moved : (kept : _) (found : Bool)
      → Always (Moved {E = E} p (move.Retain kept)) (retain_with kept.items p found)
  retain_with_moved kept false = unchanged (move.Retain kept) reply.OutOfMemory tt tt (omega arith)
  retain_with_moved kept true =
      let least = least_idle p.limit p in
      let left = staying kept.items least (length p.idle) p.idle in
      let all = objects_step p l p.handles left p.out (not_kept kept.items p.idle)
      (staying-shorter kept.items least (length p.idle) p.idle) refl
      (λ j. omega (arith, held-staying kept.items least j (length p.idle) p.idle))
      (λ j. omega (arith, held-going kept.items least j (length p.idle) p.idle)) in
      Always-bind (Moved {E = E} p (move.Retain kept)) (give_up kept.items least (length p.idle) p.idle)
      (λ gone. Return (reply.Retained record { retained = length left; removed = gone }, record p { idle = left }))
      (λ gone. (all.0, all.1, tt, tt, omega (arith, staying-least kept.items least (length p.idle) p.idle)))

  -- if there is a handle, and something is idle
  retain_moved : (kept : _) → Always (Moved {E = E} p (move.Retain kept)) (retain kept.items p)
  retain_moved kept =
      let P : Asking V E C R S F A (Reply V E × Pool V C R S F A) → Type 0 =
      Always (Moved {E = E} p (move.Retain kept)) in
      cond_both (p.handles == 0) _ _ P (λ none. unchanged (move.Retain kept) reply.NoHandle tt tt (omega arith))
      (λ some.
      cond_both (length p.idle == 0) _ _ P
      (λ empty. unchanged (move.Retain kept) (reply.Retained record { retained = 0; removed = [] }) tt tt
      (omega arith)) (λ idle found. retain_with_moved kept found))

  -- a move of a party, if there is one
  by_party_moved : (m : Move V) (n : ℕ) (step : Party V C R S → Pool V C R S F A
      → Asking V E C R S F A (Reply V E × Pool V C R S F A)) (found : Option (Option (Party V C R S)))
      → slice_get p.parties n ≡ found
      → ((party : Party V C R S) → slice_get p.parties n ≡ Some (Some party)
      → Always (Advanced E m n party.timeouts p party.standing) (step party p))
      → Always (λ (x : Reply V E × Pool V C R S F A). Follows (reach p) x.1
      × Passes false (Some n) (prepared_in found) p x.1 × IsOutIfGiven m x.0 x.1 × Unit {0} × Unit {0})
      (by_party found step p)
  by_party_moved m n step (Some (Some party)) e has =
      Always-more (Advanced E m n party.timeouts p party.standing) _ (λ x h. (h.0, h.1, h.2, tt, tt)) (step party p)
      (has party e)
  by_party_moved m n step _ e has = (Follows-self p l, passes_self false (Some n) [] p, tt, tt, tt)

  pub moved_has : (m : Move V) → Always (Moved {E = E} p m) (one_step m p)
  moved_has (move.Start timeouts) =
      by_handle_moved (move.Start timeouts) (started timeouts) tt tt (λ some. started_moved timeouts)
  moved_has (move.Advance n now) =
      by_party_moved (move.Advance n now) n (advance n now) _ refl
      (λ party e. advanced E (move.Advance n now) n party.timeouts p l now party.standing e)
  moved_has (move.Poll n now) =
      by_party_moved (move.Poll n now) n (advance n now) _ refl
      (λ party e. advanced E (move.Poll n now) n party.timeouts p l now party.standing e)
  moved_has (move.Cancel n) =
      by_party_moved (move.Cancel n) n (cancel n) _ refl
      (λ party e. cancelled E (move.Cancel n) n party.timeouts p l (prepared_at party.standing) party.standing e)
  moved_has (move.Put n v) = put_moved n v (find_slot n p.out)
  moved_has (move.Back n) = back_moved n (find_slot n p.out) refl
  moved_has (move.Take n) = take_moved n (find_slot n p.out) refl
  moved_has (move.Resize n) = resize_moved n
  moved_has (move.Retain kept) = retain_moved kept
  moved_has move.Close = by_handle_moved move.Close (λ q. (reply.Done, closed q)) tt tt
      (λ some. let all = closed_step p l in (all.0, all.1, tt, tt, tt))
  moved_has move.Clone = by_handle_moved move.Clone (λ q. (reply.Done, cloned q)) tt tt
      (λ some. let all = cloned_step p l in (all.0, all.1, tt, tt, tt))
  moved_has move.DropHandle =
      by_handle_moved move.DropHandle (λ q. (reply.Done, handle_dropped q)) tt tt
      (λ some. let all = handle_dropped_step p l some in (all.0, all.1, tt, tt, tt))
  moved_has move.Upgrade =
      cond_both (p.handles == 0) _ _ (Moved {E = E} p move.Upgrade)
      (λ none. unchanged move.Upgrade (reply.Upgraded false) tt tt tt)
      (λ some. let all = cloned_step p l in (all.0, all.1, tt, tt, tt))
  moved_has move.Status = by_handle_moved move.Status (λ q. (reply.Stands (status_of q), q)) tt tt
      (λ some. unchanged move.Status (reply.Stands (status_of p)) tt tt tt)
