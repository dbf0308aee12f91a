-- What is true of every state of every run, and of each two neighbours in it.
use Rattle.std.specs.Prelude.{◌≡◌, ℕ, ◌+◌, not, ◌==◌, take, min, ◌<◌, ◌≤◌, ◌≢◌, Bool, true, false, List, [], ◌∷◌, ◌++◌}
use Rattle.std.specs.Prelude.{length, map, ⊤, Option, Some, None, if◌then◌else◌, is_some, slice_get}
use Rattle.std.specs.List.{filter, filter_map}
use Rattle.deadpool_gate.specs.Numbers.{has_number}
use Rattle.deadpool_gate.specs.Orders.{IsOnce, KeepsOrder}
use Rattle.deadpool_parts.specs.Runs.{last_of, all_states, Each, Neighbours, Later}
use Rattle.deadpool_parts.specs.declared.config.QueueMode.{QueueMode}
use Rattle.deadpool_parts.specs.declared.config.Timeouts.{Timeouts}
use Rattle.deadpool_parts.specs.declared.moment.Runtime.{Runtime}
use Rattle.deadpool_managed.specs.HookLists.{HookLists}
use Rattle.deadpool_managed.specs.Outside.{May}
use Rattle.deadpool_trial.specs.Pool.{Pool, Party, opened, is_going, is_creating, prepared_by, preparing, size}
use Rattle.deadpool_trial.specs.Pool.{bounded, least_idle, reach}
use Rattle.deadpool_trial.specs.Steps.{given_up}
use Rattle.deadpool_trial.specs.Moves.{MakesMove, PoolRuns}
use Rattle.deadpool_trial.specs.Laws.{PoolInvariant, queue}
use Rattle.deadpool_managed.specs.Slots.{Slot}
use Rattle.deadpool_trial.specs.declared.moves.Move.{Move}
use Rattle.deadpool_trial.specs.declared.moves.Move.TheVariants as move
use Rattle.deadpool_trial.specs.declared.moves.Reply.{Reply}
use Rattle.deadpool_trial.specs.declared.moves.Reply.TheVariants as reply

-- the places of the elements that pass the test, if the first element's is this
abbrev pub places_from : {X : Type 0} → ℕ → (X → Bool) → List X → List ℕ
places_from n f [] = []
places_from n f (x ∷ xs) = if f x then n ∷ places_from (n + 1) f xs else places_from (n + 1) f xs

module _ {V C R S : Type 0} where
  -- the party prepares an object
  abbrev pub is_preparing : Option (Party V C R S) → Bool
  is_preparing party = is_some (prepared_by party)

module _ {V C R S F A : Type 0} where
  -- of the objects that are idle, under preparation or out
  abbrev pub numbers : Pool V C R S F A → List ℕ
  numbers p = map (λ slot. slot.number) (p.idle ++ preparing p ++ p.out)

  -- the parties that wait, were granted a place, hold one and nothing else, create or prepare
  abbrev pub listed : Pool V C R S F A → List ℕ
  listed p = p.waiting ++ p.granted ++ places_from 0 is_going p.parties ++ places_from 0 is_creating p.parties
      ++ places_from 0 is_preparing p.parties

  -- no more are idle than the limit
  abbrev pub HasFewIdle : Pool V C R S F A → Type 0
  HasFewIdle p = length p.idle ≤ p.limit

  -- a closed pool has limit 0 and nothing idle
  abbrev pub IsEmptyIfClosed : Pool V C R S F A → Type 0
  IsEmptyIfClosed p = p.is_open ≡ false → (p.limit ≡ 0) × (p.idle ≡ [])

  -- no object's number stands twice, and only numbers that were given stand there
  pub record IsNumbered (p : Pool V C R S F A) : Type 0 where
    pub once : IsOnce (numbers p)
    pub given : (n : ℕ) → has_number n (numbers p) ≡ true → (p.first ≤ n) × (n < p.next)
    pub rising : p.first ≤ p.next

  -- no party is in two lists, nor twice in one
  abbrev pub IsListedOnce : Pool V C R S F A → Type 0
  IsListedOnce p = IsOnce (listed p)

  -- what is true of every state of a run from a new pool
  pub record RunInvariant (p : Pool V C R S F A) : Type 0 where
    pub lawful : PoolInvariant p
    pub few_idle : HasFewIdle p
    pub closed : IsEmptyIfClosed p
    pub numbered : IsNumbered p

  -- a new object has the next number, which then rises by one
  pub record CountsOn (p q : Pool V C R S F A) : Type 0 where
    pub first : q.first ≡ p.first
    pub next : p.next ≤ q.next
    pub new : (n : ℕ) → has_number n (numbers q) ≡ true → has_number n (numbers p) ≡ false
        → (n ≡ p.next) × (q.next ≡ p.next + 1)

  -- a number that was given, and stands in no list, stays so
  abbrev pub NoneReturns : Pool V C R S F A → Pool V C R S F A → Type 0
  NoneReturns p q = (n : ℕ) → n < p.next → has_number n (numbers p) ≡ false → has_number n (numbers q) ≡ false

  -- some leave the queue, and at most one party joins it, at its end
  abbrev pub KeepsQueue : Pool V C R S F A → Pool V C R S F A → Type 0
  KeepsQueue p q = KeepsOrder (queue p) (queue q)

  -- from one state to the next
  pub record Succeeds (p q : Pool V C R S F A) : Type 0 where
    pub counted : CountsOn p q
    pub queued : KeepsQueue p q

-- a new pool is well
abbrev pub OpensWell : (V C R S F A : Type 0) → Type 0
OpensWell V C R S F A = (max_waiting : Option ℕ) (limit : ℕ) (mode : QueueMode) (runtime : Option Runtime)
    (hooks : HookLists F A) (timeouts : Timeouts) (first most min_idle : ℕ)
    → RunInvariant (bounded max_waiting
    (opened {V = V} {C = C} {R = R} {S = S} limit mode runtime hooks timeouts first most min_idle))

-- the move may give the pool another limit
abbrev pub sets_limit : {V : Type 0} → Move V → Bool
sets_limit (move.Start timeouts) = false
sets_limit (move.Advance n now) = false
sets_limit (move.Poll n now) = false
sets_limit (move.Cancel n) = false
sets_limit (move.Put n v) = false
sets_limit (move.Back n) = false
sets_limit (move.Take n) = false
sets_limit (move.Resize n) = true
sets_limit (move.Retain kept) = false
sets_limit move.Close = true
sets_limit move.Clone = false
sets_limit move.DropHandle = false
sets_limit move.Upgrade = false
sets_limit move.Status = false

-- the party that the move names, if it names one
abbrev pub named : {V : Type 0} → Move V → Option ℕ
named (move.Start timeouts) = None
named (move.Advance n now) = Some n
named (move.Poll n now) = Some n
named (move.Cancel n) = Some n
named (move.Put n v) = None
named (move.Back n) = None
named (move.Take n) = None
named (move.Resize n) = None
named (move.Retain kept) = None
named move.Close = None
named move.Clone = None
named move.DropHandle = None
named move.Upgrade = None
named move.Status = None

module _ {V C R S : Type 0} where
  -- the object that the party prepares, if it is there and prepares one
  abbrev pub prepared_in : Option (Option (Party V C R S)) → List (Slot V)
  prepared_in None = []
  prepared_in (Some party) = filter_map prepared_by (party ∷ [])

module _ {V C R S F A : Type 0} where
  -- the objects that the move may take out of the pool
  abbrev pub may_leave : Move V → Pool V C R S F A → List (Slot V)
  may_leave (move.Start timeouts) p = []
  may_leave (move.Advance n now) p = prepared_in (slice_get p.parties n)
  may_leave (move.Poll n now) p = prepared_in (slice_get p.parties n)
  may_leave (move.Cancel n) p = prepared_in (slice_get p.parties n)
  may_leave (move.Put n v) p = []
  may_leave (move.Back n) p = filter (λ slot. slot.number == n) p.out
  may_leave (move.Take n) p = filter (λ slot. slot.number == n) p.out
  may_leave (move.Resize n) p = take (given_up n p) p.idle
  may_leave (move.Retain kept) p = filter (λ slot. not (has_number slot.number kept.items)) p.idle
  may_leave move.Close p = p.idle
  may_leave move.Clone p = []
  may_leave move.DropHandle p = if p.handles == 1 then p.idle else []
  may_leave move.Upgrade p = []
  may_leave move.Status p = []

  -- whose number leaves the pool is one of them
  abbrev pub OthersStayInPool : Move V → Pool V C R S F A → Pool V C R S F A → Type 0
  OthersStayInPool m p q = (n : ℕ) → has_number n (numbers p) ≡ true → has_number n (numbers q) ≡ false
      → has_number n (map (λ slot. slot.number) (may_leave m p)) ≡ true

  -- who leaves the queue is the party that the move names
  abbrev pub OthersStayQueued : Move V → Pool V C R S F A → Pool V C R S F A → Type 0
  OthersStayQueued m p q = (n : ℕ) → has_number n (queue p) ≡ true → has_number n (queue q) ≡ false → named m ≡ Some n

  -- every other party is as it was
  abbrev pub OthersStand : Move V → Pool V C R S F A → Pool V C R S F A → Type 0
  OthersStand m p q = (n : ℕ) (party : Option (Party V C R S)) → named m ≢ Some n → slice_get p.parties n ≡ Some party
      → slice_get q.parties n ≡ Some party

  -- how many objects are to stay idle is as it was
  abbrev pub KeepsMinIdle : Move V → Pool V C R S F A → Pool V C R S F A → Type 0
  KeepsMinIdle m p q = q.min_idle ≡ p.min_idle

  -- a resize and a retain leave as many idle as are to stay at the limit after them, if as many were
  abbrev pub LeavesEnough : Move V → Pool V C R S F A → Pool V C R S F A → Type 0
  LeavesEnough (move.Resize n) p q = min (length p.idle) (least_idle q.limit p) ≤ length q.idle
  LeavesEnough (move.Retain kept) p q = min (length p.idle) (least_idle q.limit p) ≤ length q.idle
  LeavesEnough _ p q = ⊤

module _ {V E C R S F A : Type 0} where
  -- the object that is given is out
  abbrev pub IsOutIfGiven : Move V → Reply V E → Pool V C R S F A → Type 0
  IsOutIfGiven m (reply.Object n) q = has_number n (map (λ slot. slot.number) q.out) ≡ true
  IsOutIfGiven m _ q = ⊤

  -- the object that comes back and is kept is idle
  abbrev pub IsIdleIfKept : Move V → Reply V E → Pool V C R S F A → Type 0
  IsIdleIfKept (move.Back n) reply.Kept q = has_number n (map (λ slot. slot.number) q.idle) ≡ true
  IsIdleIfKept _ answer q = ⊤

module _ {V E C R S F A : Type 0} (may : May V E C R S F A) where
  -- P holds of every state of every run that begins well
  abbrev pub EachState : (Pool V C R S F A → Type 0) → Type 0
  EachState P = (moves : List (Move V)) (p after : Pool V C R S F A) (passed : List (List (Pool V C R S F A)))
      (answers : List (Reply V E))
      → RunInvariant p → PoolRuns may p moves passed answers after → Each P (all_states p passed)

  -- P holds of each two neighbours in every such run
  abbrev pub EachStep : (Pool V C R S F A → Pool V C R S F A → Type 0) → Type 0
  EachStep P = (moves : List (Move V)) (p after : Pool V C R S F A) (passed : List (List (Pool V C R S F A)))
      (answers : List (Reply V E))
      → RunInvariant p → PoolRuns may p moves passed answers after → Neighbours P (all_states p passed)

  -- P holds of each state of every such run and each later one
  abbrev pub EachLater : (Pool V C R S F A → Pool V C R S F A → Type 0) → Type 0
  EachLater P = (moves : List (Move V)) (p after : Pool V C R S F A) (passed : List (List (Pool V C R S F A)))
      (answers : List (Reply V E))
      → RunInvariant p → PoolRuns may p moves passed answers after → Later P (all_states p passed)

  -- P holds of each two neighbours among a state that is well and those that one move passes from it
  abbrev pub EachMove : (Move V → Pool V C R S F A → Pool V C R S F A → Type 0) → Type 0
  EachMove P = (m : Move V) (p : Pool V C R S F A) (passed : List (Pool V C R S F A)) (answer : Reply V E)
      → RunInvariant p
      → MakesMove may p m passed answer → Neighbours (P m) (p ∷ passed)

  -- P holds of each move, its reply and the last state that it passes, from a state that is well
  abbrev pub EachReply : (Move V → Reply V E → Pool V C R S F A → Type 0) → Type 0
  EachReply P = (m : Move V) (p : Pool V C R S F A) (passed : List (Pool V C R S F A)) (answer : Reply V E)
      → RunInvariant p
      → MakesMove may p m passed answer → P m answer (last_of p passed)

  -- every such run ends well
  abbrev pub EndsWell : Type 0
  EndsWell = (moves : List (Move V)) (p after : Pool V C R S F A) (passed : List (List (Pool V C R S F A)))
      (answers : List (Reply V E))
      → RunInvariant p → PoolRuns may p moves passed answers after → RunInvariant after

  -- if such a run begins within its limit, and no move sets one, the size stays within it
  abbrev pub StaysWithin : Type 0
  StaysWithin = (moves : List (Move V)) (p after : Pool V C R S F A) (passed : List (List (Pool V C R S F A)))
      (answers : List (Reply V E))
      → RunInvariant p → reach p ≤ p.limit → Each (λ m. sets_limit m ≡ false) moves
      → PoolRuns may p moves passed answers after → Each (λ q. size q ≤ q.limit) (all_states p passed)
