-- Moves, and the runs of an unmanaged pool.
use Rattle.std.specs.Prelude.{◌≡◌, ◌+◌, ◌<◌, ◌≤◌, Bool, true, false, List, [], ◌∷◌, ◌++◌, length, Option, Some}
use Rattle.std.specs.Prelude.{if◌then◌else◌, nat_lt, ◌==◌, slice_get}
use Rattle.deadpool_gate.specs.Numbers.{largest_usize}
use Rattle.deadpool_parts.specs.Runs.{Runs}
use Rattle.deadpool_trial.specs.Unmanaged.Pool.{Pool, Party, new_get, new_add, size, free_objects, free_room, settle}
use Rattle.deadpool_trial.specs.Unmanaged.Pool.{status_of}
use Rattle.deadpool_trial.specs.Unmanaged.Steps.{find_item, poll, cancelled, try_get, try_store, back, take_out}
use Rattle.deadpool_trial.specs.Unmanaged.Steps.{closed, cloned, handle_dropped}
use Rattle.deadpool_trial.specs.declared.unmanaged.moves.Item.{Item}
use Rattle.deadpool_trial.specs.declared.unmanaged.moves.Move.{Move}
use Rattle.deadpool_trial.specs.declared.unmanaged.moves.Move.TheVariants as move
use Rattle.deadpool_trial.specs.declared.unmanaged.moves.Reply.{Reply}
use Rattle.deadpool_trial.specs.declared.unmanaged.moves.Reply.TheVariants as reply

module _ {V : Type 0} where
  -- a step of one who needs a handle
  abbrev pub by_handle : (Pool V → Reply V × Pool V) → Pool V → Reply V × Pool V
  by_handle step p = if p.handles == 0 then (reply.NoHandle, p) else step p

  -- a move of a party that has started and was not cancelled
  abbrev pub by_party : Option (Option (Party V)) → (Party V → Pool V → Reply V × Pool V) → Pool V → Reply V × Pool V
  by_party (Some (Some party)) step p = step party p
  by_party _ step p = (reply.NoSuch, p)

  -- a new party, not yet polled
  abbrev pub started : Party V → Pool V → Reply V × Pool V
  started party p = (reply.Started (length p.parties), record p { parties = p.parties ++ Some party ∷ [] })

  -- a step of a new party, if another may start
  abbrev pub by_newcomer : (Pool V → Reply V × Pool V) → Pool V → Reply V × Pool V
  by_newcomer step p = if nat_lt (length p.parties) p.most_parties then step p else (reply.NoRoom, p)

  -- a step of an object that is handed in, which draws the next number
  abbrev pub by_number : (Item V → Pool V → Reply V × Pool V) → V → Pool V → Reply V × Pool V
  by_number step v p =
      if p.next == largest_usize then (reply.Exhausted v, p)
      else step record { number = p.next; value = v } (record p { next = p.next + 1 })

  abbrev pub upgrade : Pool V → Reply V × Pool V
  upgrade p = if p.handles == 0 then (reply.Upgraded false, p) else (reply.Upgraded true, cloned p)

  -- What one move makes, before anybody is granted anything. `found` says whether there is memory for an entry in a
  -- queue.
  abbrev pub unsettled : Bool → Move V → Pool V → Reply V × Pool V
  unsettled found (move.Get wait) p = by_handle (by_newcomer (started (new_get wait))) p
  unsettled found (move.Add v) p = by_handle (by_newcomer (by_number (λ item. started (new_add item)) v)) p
  unsettled found (move.Poll n now) p = by_party (slice_get p.parties n) (poll found n now) p
  unsettled found move.TryGet p = by_handle try_get p
  unsettled found (move.TryAdd v) p = by_handle (by_number try_store v) p
  unsettled found (move.Cancel n) p = by_party (slice_get p.parties n) (λ party q. (reply.Cancelled, cancelled n q)) p
  unsettled found (move.Back n) p = back (find_item n p.out) n p
  unsettled found (move.Take n) p = take_out (find_item n p.out) n p
  unsettled found move.Close p = by_handle (λ q. (reply.Done, closed q)) p
  unsettled found move.Status p = by_handle (λ q. (reply.Stands (status_of q), q)) p
  unsettled found move.Clone p = by_handle (λ q. (reply.Done, cloned q)) p
  unsettled found move.DropHandle p = by_handle (λ q. (reply.Done, handle_dropped q)) p
  unsettled found move.Upgrade p = upgrade p

  -- each move is followed by the settling
  abbrev pub moved : Bool → Move V → Pool V → Reply V × Pool V
  moved found m p = let (answer, q) = unsettled found m p in (answer, settle q)

  -- a move may be answered so and leave that pool, memory found or not
  abbrev pub Gives : Move V → Pool V → Reply V → Pool V → Type 0
  Gives m p answer q = (found : Bool) × (moved found m p ≡ (answer, q))

  -- one move, with the one state that it passes, and its reply
  abbrev pub MakesMove : Pool V → Move V → List (Pool V) → Reply V → Type 0
  MakesMove p m passed answer = (q : Pool V) × ((passed ≡ q ∷ []) × Gives m p answer q)

  -- a list of moves, with the state that each passes, the replies, and the state after them
  abbrev pub PoolRuns : Pool V → List (Move V) → List (List (Pool V)) → List (Reply V) → Pool V → Type 0
  PoolRuns = Runs MakesMove

  -- in an open pool no get waits for an object, and no add for room, that is free
  pub record NobodyWaits (p : Pool V) : Type 0 where
    pub objects : p.is_open ≡ true → 0 < free_objects p → p.gets.waiting ≡ []
    pub room : p.is_open ≡ true → 0 < free_room p → p.adds.waiting ≡ []

  -- there are no more objects than the limit
  abbrev pub IsWithinLimit : Pool V → Type 0
  IsWithinLimit p = size p ≤ p.limit
