-- What is true of every state of every run that begins well, of each two neighbours in it, of each state and each later
-- one, and of each move.
use Rattle.std.specs.Prelude.{◌≡◌, ◌≢◌, ℕ, ◌+◌, ◌-◌, ◌<◌, ◌≤◌, Bool, true, false, ◌==◌, List, [], ◌∷◌, ◌++◌, length}
use Rattle.std.specs.Prelude.{Option, Some, None, if◌then◌else◌, slice_get}
use Rattle.std.specs.List.{filter, filter_map}
use Rattle.deadpool_gate.specs.Numbers.{has_number}
use Rattle.deadpool_gate.specs.Orders.{IsOnce, KeepsOrder}
use Rattle.deadpool_parts.specs.Runs.{all_states, Each, Neighbours, Later}
use Rattle.deadpool_parts.specs.declared.moment.Runtime.{Runtime}
use Rattle.deadpool_gate.specs.Queue.{Queue, members}
use Rattle.deadpool_trial.specs.Unmanaged.Laws.{PoolInvariant}
use Rattle.deadpool_trial.specs.Unmanaged.Moves.{MakesMove, PoolRuns}
use Rattle.deadpool_trial.specs.Unmanaged.Pool.{Pool, Party, queued_get, new_add, queued_add, opened}
use Rattle.deadpool_trial.specs.declared.unmanaged.moves.Item.{Item}
use Rattle.deadpool_trial.specs.declared.unmanaged.moves.Move.{Move}
use Rattle.deadpool_trial.specs.declared.unmanaged.moves.Move.TheVariants as move
use Rattle.deadpool_trial.specs.declared.unmanaged.moves.Reply.{Reply}
use Rattle.deadpool_parts.specs.Numbered.{count_numbered}
use Rattle.deadpool_trial.specs.Unmanaged.Steps.{item_number}

module _ {V : Type 0} where
  -- the object that a party is to add
  abbrev pub brought_by : Party V → Option (Item V)
  brought_by (new_add item) = Some item
  brought_by (queued_add item) = Some item
  brought_by _ = None

  abbrev pub brings : Option (Party V) → Option (Item V)
  brings None = None
  brings (Some party) = brought_by party

  -- the party is a get, or an add, in its queue
  abbrev pub is_queued_get : Party V → Bool
  is_queued_get (queued_get deadline) = true
  is_queued_get _ = false

  abbrev pub asks_for_object : Option (Option (Party V)) → Bool
  asks_for_object (Some (Some party)) = is_queued_get party
  asks_for_object _ = false

  abbrev pub is_queued_add : Party V → Bool
  is_queued_add (queued_add item) = true
  is_queued_add _ = false

  abbrev pub asks_for_room : Option (Option (Party V)) → Bool
  asks_for_room (Some (Some party)) = is_queued_add party
  asks_for_room _ = false

  -- how many of the objects have the number
  abbrev pub so_many : ℕ → List (Item V) → ℕ
  so_many n items = count_numbered item_number n items

  -- of those that are idle, are still to be added, or are out
  abbrev pub copies : ℕ → Pool V → ℕ
  copies n p = so_many n p.idle + so_many n (filter_map brings p.parties) + so_many n p.out

  -- each number stands at most once, and only if it was drawn
  pub record IsNumbered (p : Pool V) : Type 0 where
    pub once : (n : ℕ) → copies n p ≤ 1
    pub drawn : (n : ℕ) → p.next ≤ n → copies n p ≡ 0

  -- numbers are drawn one by one, and of no other number are there more objects than before
  pub record CountsOn (p q : Pool V) : Type 0 where
    pub rising : p.next ≤ q.next
    pub next : copies p.next q ≤ copies p.next p + (q.next - p.next)
    pub step : q.next ≤ p.next + 1
    pub others : (n : ℕ) → (n == p.next) ≡ false → copies n q ≤ copies n p

  -- if no object has a number that was drawn, it stays so
  abbrev pub NoneReturns : Pool V → Pool V → Type 0
  NoneReturns p q = (n : ℕ) → n < p.next → copies n p ≡ 0 → copies n q ≡ 0

  -- who is in the queue asks, and nobody else does
  abbrev pub MarksQueued : (Option (Option (Party V)) → Bool) → Queue → List (Option (Party V)) → Type 0
  MarksQueued asks q parties = (n : ℕ) → has_number n (members q) ≡ asks (slice_get parties n)

  -- and nobody is there twice
  pub record HasQueued (asks : Option (Option (Party V)) → Bool) (q : Queue) (parties : List (Option (Party V))) :
      Type 0 where
    pub once : IsOnce (members q)
    pub marks : MarksQueued asks q parties

  -- while the pool is open and has a handle, each object that was granted is idle
  abbrev pub KeepsPromises : Pool V → Type 0
  KeepsPromises p = p.is_open ≡ true → 0 < p.handles → length p.gets.granted ≤ length p.idle

  -- there is room for the objects and for each that an add was granted room for
  abbrev pub HasRoomForAll : Pool V → Type 0
  HasRoomForAll p = length p.idle + length p.out + length p.adds.granted ≤ p.limit

  abbrev pub IsEmptyIfClosed : Pool V → Type 0
  IsEmptyIfClosed p = p.is_open ≡ false → length p.idle ≡ 0

  -- a party is in the queue of the gets exactly if it is a get that is queued, and so with the adds
  pub record HasTheQueued (p : Pool V) : Type 0 where
    pub gets : MarksQueued asks_for_object p.gets p.parties
    pub adds : MarksQueued asks_for_room p.adds p.parties

  -- no party is in two lists, nor twice in one
  abbrev pub IsListedOnce : Pool V → Type 0
  IsListedOnce p = IsOnce (members p.gets ++ members p.adds)

  -- some leave each queue, and at most one party joins it, at its end
  pub record KeepsQueues (p q : Pool V) : Type 0 where
    pub gets : KeepsOrder (members p.gets) (members q.gets)
    pub adds : KeepsOrder (members p.adds) (members q.adds)

  -- what is true of every state of a run from a new pool
  pub record RunInvariant (p : Pool V) : Type 0 where
    pub lawful : PoolInvariant p
    pub numbered : IsNumbered p
    pub promises : KeepsPromises p
    pub closed : IsEmptyIfClosed p
    pub gets : HasQueued asks_for_object p.gets p.parties
    pub adds : HasQueued asks_for_room p.adds p.parties

  -- from one state to the next
  pub record Succeeds (p q : Pool V) : Type 0 where
    pub counts : CountsOn p q
    pub queues : KeepsQueues p q

-- the party that the move names, if it names one
abbrev pub named : {V : Type 0} → Move V → Option ℕ
named (move.Get wait) = None
named (move.Add v) = None
named (move.Poll n now) = Some n
named move.TryGet = None
named (move.TryAdd v) = None
named (move.Cancel n) = Some n
named (move.Back n) = None
named (move.Take n) = None
named move.Close = None
named move.Status = None
named move.Clone = None
named move.DropHandle = None
named move.Upgrade = None

module _ {V : Type 0} where
  -- the object that the party is to add, if it is there and is to add one
  abbrev pub brought_in : Option (Option (Party V)) → List (Item V)
  brought_in None = []
  brought_in (Some party) = filter_map brings (party ∷ [])

  -- the objects that the move may take out of the pool and its adds
  abbrev pub may_leave : Move V → Pool V → List (Item V)
  may_leave (move.Get wait) p = []
  may_leave (move.Add v) p = []
  may_leave (move.Poll n now) p = brought_in (slice_get p.parties n)
  may_leave move.TryGet p = []
  may_leave (move.TryAdd v) p = []
  may_leave (move.Cancel n) p = brought_in (slice_get p.parties n)
  may_leave (move.Back n) p = filter (λ item. item.number == n) p.out
  may_leave (move.Take n) p = filter (λ item. item.number == n) p.out
  may_leave move.Close p = p.idle
  may_leave move.Status p = []
  may_leave move.Clone p = []
  may_leave move.DropHandle p = if p.handles == 1 then p.idle else []
  may_leave move.Upgrade p = []

  -- what leaves, number by number, is among them
  abbrev pub OthersStayInPool : Move V → Pool V → Pool V → Type 0
  OthersStayInPool m p q = (n : ℕ) → copies n p ≤ copies n q + so_many n (may_leave m p)

  -- who leaves a queue is the party that the move names
  pub record OthersStayQueued (m : Move V) (p q : Pool V) : Type 0 where
    pub gets : (n : ℕ) → has_number n (members p.gets) ≡ true → has_number n (members q.gets) ≡ false → named m ≡ Some n
    pub adds : (n : ℕ) → has_number n (members p.adds) ≡ true → has_number n (members q.adds) ≡ false → named m ≡ Some n

  -- every other party is as it was
  abbrev pub OthersStand : Move V → Pool V → Pool V → Type 0
  OthersStand m p q = (n : ℕ) (party : Option (Party V)) → named m ≢ Some n → slice_get p.parties n ≡ Some party
      → slice_get q.parties n ≡ Some party

-- a new pool is well
abbrev pub OpensWell : Type 0 → Type 0
OpensWell V = (limit : ℕ) (runtime : Option Runtime) (most : ℕ) → RunInvariant (opened {V = V} limit runtime most)

-- P holds of every state of every run that begins well
abbrev pub EachState : {V : Type 0} → (Pool V → Type 0) → Type 0
EachState {V} P = (moves : List (Move V)) (p after : Pool V) (passed : List (List (Pool V))) (answers : List (Reply V))
    → RunInvariant p → PoolRuns p moves passed answers after → Each P (all_states p passed)

-- P holds of each two neighbours in every such run
abbrev pub EachStep : {V : Type 0} → (Pool V → Pool V → Type 0) → Type 0
EachStep {V} P = (moves : List (Move V)) (p after : Pool V) (passed : List (List (Pool V))) (answers : List (Reply V))
    → RunInvariant p → PoolRuns p moves passed answers after → Neighbours P (all_states p passed)

-- P holds of each state of every such run and each later one
abbrev pub EachLater : {V : Type 0} → (Pool V → Pool V → Type 0) → Type 0
EachLater {V} P = (moves : List (Move V)) (p after : Pool V) (passed : List (List (Pool V))) (answers : List (Reply V))
    → RunInvariant p → PoolRuns p moves passed answers after → Later P (all_states p passed)

-- P holds of each move, a state that is well, and the one that the move leads to
abbrev pub EachMove : {V : Type 0} → (Move V → Pool V → Pool V → Type 0) → Type 0
EachMove {V} P = (m : Move V) (p : Pool V) (passed : List (Pool V)) (answer : Reply V) → RunInvariant p
    → MakesMove p m passed answer → Neighbours (P m) (p ∷ passed)

-- every such run ends well
abbrev pub EndsWell : Type 0 → Type 0
EndsWell V = (moves : List (Move V)) (p after : Pool V) (passed : List (List (Pool V))) (answers : List (Reply V))
    → RunInvariant p → PoolRuns p moves passed answers after → RunInvariant after
