-- One in the queue, as a move is made: if it waits then it waited before, and each object that returns has left one
-- fewer ahead of it.
use Rattle.deadpool_trial.proofs.Basics.{◌≡◌, ℕ, ◌+◌, ◌-◌, ◌≤◌, List, [], ◌∷◌, ◌++◌, true, false, not, ◌==◌}
use Rattle.deadpool_trial.proofs.Basics.{nat_lt, nat_le}
use Rattle.deadpool_trial.proofs.Basics.{refl, arith, min, length, drop, Option, Some, None, Return}
use Rattle.deadpool_trial.proofs.Basics.{Always, Always-bind, cond_both, has_number, IsOnce, slice_get, Bool}
use Rattle.deadpool_trial.proofs.Basics.{length-without_numbered, inl, inr, cases_lt}
use Rattle.deadpool_trial.proofs.Words.{PoolInvariant, queue, one_step, by_party, resize, staying}
use Rattle.deadpool_trial.proofs.Words.{give_up, retain_with}
use Rattle.deadpool_trial.proofs.Words.{retain, by_handle, started, put_at, back_at, take_at, cancel, advance, Pool}
use Rattle.deadpool_trial.proofs.Words.{Party, size, prepared_at, settle, least_idle, reach, status_of}
use Rattle.deadpool_trial.proofs.Words.{slot_number, find_slot, without_slot, closed, cloned}
use Rattle.deadpool_trial.proofs.Words.{handle_dropped, Asking, Slot, grants, places}
use Rattle.deadpool_trial.specs.declared.moves.Move.{Move}
use Rattle.deadpool_trial.specs.declared.moves.Move.TheVariants as move
use Rattle.deadpool_trial.specs.declared.moves.Reply.{Reply}
use Rattle.deadpool_trial.specs.declared.moves.Reply.TheVariants as reply
use Rattle.deadpool_trial.proofs.Computations.{Always-more}
use Rattle.deadpool_trial_turns.specs.Turns.{returned}
use Rattle.deadpool_trial_turns.proofs.Parties.{advanced, cancelled, once_waiting}
use Rattle.deadpool_trial_turns.proofs.Waiting.{Comes, comes_dropped, comes_same}

-- n is in the queue of an open pool within its limit
module _ {V C R S F A : Type 0} (E : Type 0) (n : ℕ) (p : Pool V C R S F A) (l : PoolInvariant p)
    (there : has_number n (queue p) ≡ true) (opens : p.is_open ≡ true) (within : reach p ≤ p.limit) where
  -- what a move has, with its reply
  abbrev pub Nearer : Move V → Reply V E × Pool V C R S F A → Type 0
  Nearer m x = Comes (returned m x.0) n p.waiting x.1.waiting

  once : IsOnce p.waiting
  once = once_waiting p.granted p.waiting l.once

  same : Comes 0 n p.waiting p.waiting
  same = comes_same n p.waiting

  -- some that wait are granted a place
  dropped : (k : ℕ) → Comes 0 n p.waiting (drop k p.waiting)
  dropped k waits =
      let gone = comes_dropped n k p.waiting once waits in (gone.0, omega (arith, gone.1))

  -- one place fewer is held: then one of them is
  one_granted : (out : List (Slot V)) (idle : List (Slot V)) → length out + 1 ≡ length p.out
      → Comes 1 n p.waiting (settle (record p { out = out; idle = idle })).waiting
  one_granted out idle fewer waits =
      let q : Pool V C R S F A = record p { out = out; idle = idle } in
      let gone = comes_dropped n (grants q) p.waiting once waits in
      let is : grants q ≡ min (length p.waiting) (p.limit - places q) = rw opens refl in
      let some = some_wait p.waiting gone.0 in (
        gone.0,
        elim (cases_lt (places p) p.limit) [
          | inl free ↦
              absurd (let none : p.waiting ≡ [] = l.nobody_waits opens free in
              let no : has_number n [] ≡ true = rw none at gone.0 in cc)
          | inr full ↦ omega (arith, gone.1, is, some, full, within, fewer)
        ],
      )
    where
      some_wait : (ws : List ℕ) → has_number n ws ≡ true → 1 ≤ length ws
      some_wait [] waits = cc
      some_wait (w ∷ ws) waits = omega arith

  back_nearer : (k : ℕ) (found : Option (Slot V)) → find_slot k p.out ≡ found
      → Always (Nearer (move.Back k)) (back_at found k p)
  back_nearer k None h = same
  back_nearer k (Some slot) h =
      let P : Asking V E C R S F A (Reply V E × Pool V C R S F A) → Type 0 = Always (Nearer (move.Back k)) in
      let fewer = length-without_numbered slot_number k p.out slot h in
      let gone = one_granted (without_slot k p.out) p.idle fewer in
      cond_both (p.handles == 0) _ _ P (λ none. gone) (λ some.
      cond_both (nat_le (size p) p.limit) _ _ P
      (λ fits. one_granted (without_slot k p.out) (p.idle ++ slot ∷ []) fewer) (λ above left. gone))

  take_nearer : (k : ℕ) (found : Option (Slot V)) → find_slot k p.out ≡ found
      → Always (Nearer (move.Take k)) (take_at found k p)
  take_nearer k None h = same
  take_nearer k (Some slot) h =
      let P : Asking V E C R S F A (Reply V E × Pool V C R S F A) → Type 0 = Always (Nearer (move.Take k)) in
      let fewer = length-without_numbered slot_number k p.out slot h in
      let gone = one_granted (without_slot k p.out) p.idle fewer in
      cond_both (p.handles == 0) _ _ P (λ none. gone) (λ some left. gone)

  put_nearer : (k : ℕ) (v : V) (found : Option (Slot V)) → Nearer (move.Put k v) (put_at found k v p)
  put_nearer k v None = same
  put_nearer k v (Some slot) = same

  resize_nearer : (k : ℕ) → Always (Nearer (move.Resize k)) (resize k p)
  resize_nearer k =
      let P : Asking V E C R S F A (Reply V E × Pool V C R S F A) → Type 0 = Always (Nearer (move.Resize k)) in
      cond_both (p.handles == 0) _ _ P (λ none. same) (λ some.
      cond_both (not p.is_open) _ _ P (λ shut. same) (λ is_open.
      cond_both (nat_lt p.reserve k) _ _ P
      (λ grows found. cond_both found _ _ (Nearer (move.Resize k)) (λ yes. dropped _) (λ no. same))
      (λ fits. dropped _)))

  retain_with_nearer : (kept : _) (found : Bool) → Always (Nearer (move.Retain kept)) (retain_with kept.items p found)
  retain_with_nearer kept false = same
  retain_with_nearer kept true =
      let least = least_idle p.limit p in
      let left = staying kept.items least (length p.idle) p.idle in
      Always-bind (Nearer (move.Retain kept)) (give_up kept.items least (length p.idle) p.idle)
      (λ gone. Return (reply.Retained record { retained = length left; removed = gone }, record p { idle = left }))
      (λ gone. same)

  retain_nearer : (kept : _) → Always (Nearer (move.Retain kept)) (retain kept.items p)
  retain_nearer kept =
      let P : Asking V E C R S F A (Reply V E × Pool V C R S F A) → Type 0 = Always (Nearer (move.Retain kept)) in
      cond_both (p.handles == 0) _ _ P (λ none. same) (λ some.
      cond_both (length p.idle == 0) _ _ P (λ empty. same) (λ idle found. retain_with_nearer kept found))

  -- a move of a party, if there is one
  by_party_nearer : (m : Move V) (k : ℕ) (step : Party V C R S → Pool V C R S F A
      → Asking V E C R S F A (Reply V E × Pool V C R S F A)) (found : Option (Option (Party V C R S)))
      → ((x : Reply V E × Pool V C R S F A) → Comes 0 n p.waiting x.1.waiting → Nearer m x)
      → slice_get p.parties k ≡ found
      → ((party : Party V C R S) → slice_get p.parties k ≡ Some (Some party)
      → Always (λ (x : Reply V E × Pool V C R S F A). Comes 0 n p.waiting x.1.waiting) (step party p))
      → Always (Nearer m) (by_party found step p)
  by_party_nearer m k step (Some (Some party)) quiet e has =
      Always-more (λ (x : Reply V E × Pool V C R S F A). Comes 0 n p.waiting x.1.waiting) (Nearer m) quiet
      (step party p) (has party e)
  by_party_nearer m k step None quiet e has = quiet (reply.NoSuch, p) same
  by_party_nearer m k step (Some None) quiet e has = quiet (reply.NoSuch, p) same

  by_handle_nearer : (m : Move V) (step : Pool V C R S F A → Reply V E × Pool V C R S F A)
      → Nearer m (reply.NoHandle, p) → Nearer m (step p) → Nearer m (by_handle step p)
  by_handle_nearer m step none some =
      cond_both (p.handles == 0) _ _ (Nearer m) (λ h. none) (λ h. some)

  pub moved_nearer : (m : Move V) → Always (Nearer m) (one_step m p)
  moved_nearer (move.Start timeouts) =
      by_handle_nearer (move.Start timeouts) (started timeouts) same
      (cond_both (nat_lt (length p.parties) p.most_parties) _ _ (Nearer (move.Start timeouts)) (λ few. same)
      (λ full. same))
  moved_nearer (move.Advance k now) =
      by_party_nearer (move.Advance k now) k (advance k now) _ (λ x comes. comes) refl
      (λ party e. advanced E n k party.timeouts p l there now party.standing e)
  moved_nearer (move.Poll k now) =
      by_party_nearer (move.Poll k now) k (advance k now) _ (λ x comes. comes) refl
      (λ party e. advanced E n k party.timeouts p l there now party.standing e)
  moved_nearer (move.Cancel k) =
      by_party_nearer (move.Cancel k) k (cancel k) _ (λ x comes. comes) refl
      (λ party e. cancelled E n k party.timeouts p l there (prepared_at party.standing))
  moved_nearer (move.Put k v) = put_nearer k v (find_slot k p.out)
  moved_nearer (move.Back k) = back_nearer k (find_slot k p.out) refl
  moved_nearer (move.Take k) = take_nearer k (find_slot k p.out) refl
  moved_nearer (move.Resize k) = resize_nearer k
  moved_nearer (move.Retain kept) = retain_nearer kept
  moved_nearer move.Close = by_handle_nearer move.Close (λ q. (reply.Done, closed q)) same (dropped _)
  moved_nearer move.Clone = by_handle_nearer move.Clone (λ q. (reply.Done, cloned q)) same same
  moved_nearer move.DropHandle = by_handle_nearer move.DropHandle (λ q. (reply.Done, handle_dropped q)) same same
  moved_nearer move.Upgrade =
      cond_both (p.handles == 0) _ _ (Nearer move.Upgrade) (λ none. same) (λ some. same)
  moved_nearer move.Status = by_handle_nearer move.Status (λ q. (reply.Stands (status_of q), q)) same same
