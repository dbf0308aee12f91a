-- Moves, and the runs of a managed pool.
use Rattle.std.specs.Prelude.{◌≡◌, ℕ, ◌-◌, ◌<◌, ◌≤◌, ◌||◌, Bool, true, false, List, [], ◌∷◌, ◌++◌, length, Option, Some}
use Rattle.std.specs.Prelude.{None, if◌then◌else◌, nat_lt, nat_le, not, ◌==◌, slice_get, unwrap_or, max}
use Rattle.deadpool_gate.specs.Numbers.{has_number}
use Rattle.deadpool_parts.specs.Program.{Return, ask, ◌>>=◌, Gives}
use Rattle.deadpool_parts.specs.Runs.{Runs}
use Rattle.deadpool_parts.specs.declared.moment.Moment.{Moment}
use Rattle.deadpool_parts.specs.declared.config.Timeouts.{Timeouts}
use Rattle.deadpool_managed.specs.Outside.{Asking, May, Detach, Reserve}
use Rattle.deadpool_trial.specs.Pool.{Pool, Party, unpolled, places, size, least_idle, reach, settle, status_of}
use Rattle.deadpool_trial.specs.Steps.{find_slot, without_slot, with_put, resized, closed, cloned, handle_dropped}
use Rattle.deadpool_trial.specs.Party.{advance, cancel}
use Rattle.deadpool_managed.specs.Slots.{Slot}
use Rattle.deadpool_trial.specs.declared.moves.Move.{Move}
use Rattle.deadpool_trial.specs.declared.moves.Move.TheVariants as move
use Rattle.deadpool_trial.specs.declared.moves.Reply.{Reply}
use Rattle.deadpool_trial.specs.declared.moves.Reply.TheVariants as reply

module _ {V E : Type 0} where
  abbrev pub is_more : Reply V E → Bool
  is_more reply.More = true
  is_more _ = false

module _ {V : Type 0} where
  -- While so many are idle, and this least number is to be, an object stays that has one of the numbers, and any if no
  -- more are idle than that.
  abbrev pub stays : List ℕ → ℕ → ℕ → Slot V → Bool
  stays kept least idle slot = has_number slot.number kept || nat_le idle least

  -- those that stay of some idle objects, front to back. One that goes leaves one fewer idle for those after it.
  abbrev pub staying : List ℕ → ℕ → ℕ → List (Slot V) → List (Slot V)
  staying kept least idle [] = []
  staying kept least idle (s ∷ ss) =
      if stays kept least idle s then s ∷ staying kept least idle ss else staying kept least (idle - 1) ss

module _ {V E C R S F A : Type 0} where
  -- a step of the pool's owner, who needs a handle
  abbrev pub by_handle : (Pool V C R S F A → Reply V E × Pool V C R S F A) → Pool V C R S F A
      → Reply V E × Pool V C R S F A
  by_handle step p = if p.handles == 0 then (reply.NoHandle, p) else step p

  -- a new party, not yet polled
  abbrev pub started : Option Timeouts → Pool V C R S F A → Reply V E × Pool V C R S F A
  started timeouts p =
      if nat_lt (length p.parties) p.most_parties
      then (
        reply.Started (length p.parties),
        record p {
          parties = p.parties ++ Some
              (record { timeouts = unwrap_or timeouts p.timeouts; standing = unpolled }) ∷ [];
        },
      )
      else (reply.NoRoom, p)

  abbrev pub put_at : Option (Slot V) → ℕ → V → Pool V C R S F A → Reply V E × Pool V C R S F A
  put_at None n v p = (reply.NoSuch, p)
  put_at (Some slot) n v p = (reply.Done, record p { out = with_put n v p.out })

  -- An object comes back. A pool with no handle has no use for it, and one above the limit is given up.
  abbrev pub back_at : Option (Slot V) → ℕ → Pool V C R S F A → Asking V E C R S F A (Reply V E × Pool V C R S F A)
  back_at None n p = Return (reply.NoSuch, p)
  back_at (Some slot) n p =
      let without = record p { out = without_slot n p.out } in
      if p.handles == 0 then Return (reply.Dropped, settle without)
      else if nat_le (size p) p.limit then Return (reply.Kept, settle (record without { idle = p.idle ++ slot ∷ [] }))
      else (ask (Detach slot.value.value) >>= λ left. Return (reply.Detached, settle without))

  -- An object leaves the pool for good, and its value is given as `detach` left it.
  abbrev pub take_at : Option (Slot V) → ℕ → Pool V C R S F A → Asking V E C R S F A (Reply V E × Pool V C R S F A)
  take_at None n p = Return (reply.NoSuch, p)
  take_at (Some slot) n p =
      let without = settle (record p { out = without_slot n p.out }) in
      if p.handles == 0 then Return (reply.Taken slot.value.value, without)
      else (ask (Detach slot.value.value) >>= λ left. Return (reply.Taken left, without))

  -- Another limit, which a closed pool does not take. A growth beyond the room asks for memory.
  abbrev pub resize : ℕ → Pool V C R S F A → Asking V E C R S F A (Reply V E × Pool V C R S F A)
  resize n p =
      if p.handles == 0 then Return (reply.NoHandle, p)
      else if not p.is_open then Return (reply.Done, p)
      else if nat_lt p.reserve n then
      (ask Reserve >>= λ found. Return (if found then (reply.Done, resized n p) else (reply.OutOfMemory, p)))
      else Return (reply.Done, resized n p)

  -- the values of those that go, in order, as they were left
  abbrev pub give_up : List ℕ → ℕ → ℕ → List (Slot V) → Asking V E C R S F A (List V)
  give_up kept least idle [] = Return []
  give_up kept least idle (s ∷ ss) =
      if stays kept least idle s then give_up kept least idle ss
      else (ask (Detach s.value.value) >>= λ v. give_up kept least (idle - 1) ss >>= λ vs. Return (v ∷ vs))

  -- what follows if memory was found for the list of values, or was not
  abbrev pub retain_with : List ℕ → Pool V C R S F A → Bool → Asking V E C R S F A (Reply V E × Pool V C R S F A)
  retain_with kept p false = Return (reply.OutOfMemory, p)
  retain_with kept p true =
      let least = least_idle p.limit p in
      let left = staying kept least (length p.idle) p.idle in
      give_up kept least (length p.idle) p.idle
      >>= λ gone. Return (reply.Retained record { retained = length left; removed = gone }, record p { idle = left })

  -- Of the idle objects those with these numbers are kept. The others go, front to back, down to the least that stay
  -- idle.
  abbrev pub retain : List ℕ → Pool V C R S F A → Asking V E C R S F A (Reply V E × Pool V C R S F A)
  retain kept p =
      if p.handles == 0 then Return (reply.NoHandle, p)
      else if length p.idle == 0 then Return (reply.Retained record { retained = 0; removed = [] }, p)
      else (ask Reserve >>= retain_with kept p)

  abbrev pub upgrade : Pool V C R S F A → Reply V E × Pool V C R S F A
  upgrade p = if p.handles == 0 then (reply.Upgraded false, p) else (reply.Upgraded true, cloned p)

  -- a move of a party that has started and was not cancelled
  abbrev pub by_party : Option (Option (Party V C R S))
      → (Party V C R S → Pool V C R S F A → Asking V E C R S F A (Reply V E × Pool V C R S F A)) → Pool V C R S F A
      → Asking V E C R S F A (Reply V E × Pool V C R S F A)
  by_party (Some (Some party)) step p = step party p
  by_party _ step p = Return (reply.NoSuch, p)

  -- One step of a move. A poll takes one step or more, each an advance: Polls, below, has them all. Every other move
  -- takes one.
  abbrev pub one_step : Move V → Pool V C R S F A → Asking V E C R S F A (Reply V E × Pool V C R S F A)
  one_step (move.Start timeouts) p = Return (by_handle (started timeouts) p)
  one_step (move.Advance n now) p = by_party (slice_get p.parties n) (advance n now) p
  one_step (move.Poll n now) p = by_party (slice_get p.parties n) (advance n now) p
  one_step (move.Cancel n) p = by_party (slice_get p.parties n) (cancel n) p
  one_step (move.Put n v) p = Return (put_at (find_slot n p.out) n v p)
  one_step (move.Back n) p = back_at (find_slot n p.out) n p
  one_step (move.Take n) p = take_at (find_slot n p.out) n p
  one_step (move.Resize n) p = resize n p
  one_step (move.Retain kept) p = retain kept.items p
  one_step move.Close p = Return (by_handle (λ q. (reply.Done, closed q)) p)
  one_step move.Clone p = Return (by_handle (λ q. (reply.Done, cloned q)) p)
  one_step move.DropHandle p = Return (by_handle (λ q. (reply.Done, handle_dropped q)) p)
  one_step move.Upgrade p = Return (upgrade p)
  one_step move.Status p = Return (by_handle (λ q. (reply.Stands (status_of q), q)) p)

module _ {V E C R S F A : Type 0} (may : May V E C R S F A) where
  -- the advances of one poll, with the state after each: each but the last is answered More
  abbrev pub Polls : ℕ → Moment → Pool V C R S F A → List (Pool V C R S F A) → Reply V E → Type 0
  Polls n now p [] answer = ⊥
  Polls n now p (s ∷ []) answer = Gives may (one_step (move.Advance n now) p) (answer, s) × (is_more answer ≡ false)
  Polls n now p (s ∷ t ∷ ss) answer =
      Gives may (one_step (move.Advance n now) p) (reply.More, s) × Polls n now s (t ∷ ss) answer

  -- one move, with the states that it passes, and its reply
  abbrev pub MakesMove : Pool V C R S F A → Move V → List (Pool V C R S F A) → Reply V E → Type 0
  MakesMove p (move.Poll n now) passed answer = Polls n now p passed answer
  MakesMove p m passed answer = (q : Pool V C R S F A) × (passed ≡ q ∷ []) × Gives may (one_step m p) (answer, q)

  -- a list of moves, with the states that each passes, the replies, and the state after them
  abbrev pub PoolRuns : Pool V C R S F A → List (Move V) → List (List (Pool V C R S F A)) → List (Reply V E)
      → Pool V C R S F A → Type 0
  PoolRuns = Runs MakesMove

module _ {V C R S F A : Type 0} where
  -- nobody waits while a place is free
  abbrev pub NobodyWaits : Pool V C R S F A → Type 0
  NobodyWaits p = p.is_open ≡ true → places p < p.limit → p.waiting ≡ []

  -- no more wait than may
  abbrev pub WaitsWithin : Pool V C R S F A → Type 0
  WaitsWithin p = length p.waiting ≤ p.max_waiting

  -- from one state to the next, reach rises only as far as the limit
  abbrev pub WithinReach : Pool V C R S F A → Pool V C R S F A → Type 0
  WithinReach p q = reach q ≤ max q.limit (reach p)
