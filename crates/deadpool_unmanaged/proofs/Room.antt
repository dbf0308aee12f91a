-- What room for all that may wait is for: it lasts, and while it does no queue is full for one that may join it.
use Rattle.deadpool_unmanaged.proofs.Words.{◌≡◌, ◌<◌, ℕ, None, Some, arith, length, length-append, refl}
use Rattle.deadpool_unmanaged.proofs.Words.{Bool, IsKept, Option}
use Rattle.std.specs.Prelude.{◌≢◌}
use Rattle.deadpool_gate.specs.Room.{IsFull}
use Rattle.deadpool_unmanaged.specs.Room.{HasRoom, Queues, RoomLasts, SameRoom}
use Rattle.deadpool_unmanaged.specs.State.{CoreState, listed}
use Rattle.deadpool_unmanaged.specs.StateSteps.{Steps}
use Rattle.deadpool_unmanaged.specs.declared.step.Reply.{Reply}
use Rattle.deadpool_unmanaged.specs.declared.step.Reply.TheVariants.{Object, Stored, Closed, Full, Waiting, OutOfMemory}
use Rattle.deadpool_unmanaged.specs.declared.step.Reply.TheVariants.{Crowded, Expired, Done, Kept, Dropped, Taken}
use Rattle.deadpool_unmanaged.specs.declared.step.Reply.TheVariants.{Unknown}
use Rattle.deadpool_unmanaged.specs.declared.step.Step.{Step}
use Rattle.deadpool_unmanaged.specs.declared.step.Step.TheVariants.{GetEnter, GetAsk, GetCancel, AddEnter, AddAsk}
use Rattle.deadpool_unmanaged.specs.declared.step.Step.TheVariants.{AddCancel, Back, Take}

module _ {T : Type 0} (c : CoreState T) (k : IsKept c.pool) where
  -- where one more may wait there is room for it
  pub roomy_get : length c.pool.gets.waiting < c.pool.max_waiting → HasRoom c → listed c.pool.gets < c.gets_room
  roomy_get fewer has =
      omega (arith, length-append c.pool.gets.granted c.pool.gets.waiting, k.objects, fewer, has.0)

  pub roomy_add : length c.pool.adds.waiting < c.pool.max_waiting → HasRoom c → listed c.pool.adds < c.adds_room
  roomy_add fewer has =
      omega (arith, length-append c.pool.adds.granted c.pool.adds.waiting, k.within, fewer, has.1)

  -- so no memory is wanting
  pub full_get : length c.pool.gets.waiting < c.pool.max_waiting → HasRoom c
      → IsFull c.gets_room (listed c.pool.gets) → ⊥
  full_get fewer has full =
      omega (arith, length-append c.pool.gets.granted c.pool.gets.waiting, k.objects, fewer, has.0, full)

  pub full_add : length c.pool.adds.waiting < c.pool.max_waiting → HasRoom c
      → IsFull c.adds_room (listed c.pool.adds) → ⊥
  full_add fewer has full =
      omega (arith, length-append c.pool.adds.granted c.pool.adds.waiting, k.within, fewer, has.1, full)

module _ {T : Type 0} (c c' : CoreState T) where
  -- the bound and the limit are as they were
  abbrev SameBounds : Type 0
  SameBounds = (c'.pool.max_waiting ≡ c.pool.max_waiting) × (c'.pool.limit ≡ c.pool.limit)

  pub stays : SameRoom c c' → SameBounds → HasRoom c → HasRoom c'
  stays same bounds has = rw (same.0, same.1, bounds.0, bounds.1) has

  lasts : (reply : Reply) → reply ≢ OutOfMemory → SameRoom c c' → SameBounds → RoomLasts c reply c'
  lasts reply other same bounds has = (other, same, stays same bounds has)

  joined_get : (wait : Bool) (ticket : ℕ) → IsKept c.pool → length c.pool.gets.waiting < c.pool.max_waiting → SameBounds
      → Queues c (GetEnter wait) (Waiting ticket) c' → RoomLasts c (Waiting ticket) c'
  joined_get wait ticket k fewer bounds queues has =
      let same : SameRoom c c' = (queues.2.1 (roomy_get c k fewer has), queues.3) in
      ((λ e. cc), same, stays same bounds has)

  joined_add : (wait : Bool) (ticket : ℕ) → IsKept c.pool → length c.pool.adds.waiting < c.pool.max_waiting → SameBounds
      → Queues c (AddEnter wait) (Waiting ticket) c' → RoomLasts c (Waiting ticket) c'
  joined_add wait ticket k fewer bounds queues has =
      let same : SameRoom c c' = (queues.3, queues.2.1 (roomy_add c k fewer has)) in
      ((λ e. cc), same, stays same bounds has)

pub room_lasts : {T : Type 0} (c c' : CoreState T) (step : Step) (object : Option T) (reply : Reply) → IsKept c.pool
    → Steps c step object reply c' → RoomLasts c reply c'
room_lasts c c' (GetEnter wait) None Closed k h = lasts c c' Closed (λ e. cc) h.1 (rw h.0.1 (refl, refl))
room_lasts c c' (GetEnter wait) (Some value) Object k h = lasts c c' Object (λ e. cc) h.1 (rw h.0.3 (refl, refl))
room_lasts c c' (GetEnter wait) None Full k h = lasts c c' Full (λ e. cc) h.1 (rw h.0.3 (refl, refl))
room_lasts c c' (GetEnter wait) None Crowded k h = lasts c c' Crowded (λ e. cc) h.1 (rw h.0.4 (refl, refl))
room_lasts c c' (GetEnter wait) None (Waiting ticket) k h =
    joined_get c c' wait ticket k h.0.3 (rw h.0.5 (refl, refl)) h.1
room_lasts c c' (GetEnter wait) None OutOfMemory k h = λ has. absurd (full_get c k h.0.3 has h.1.0)
room_lasts c c' (GetAsk ticket expired) None Unknown k h = lasts c c' Unknown (λ e. cc) h.1 (rw h.0.1 (refl, refl))
room_lasts c c' (GetAsk ticket expired) None Closed k h = lasts c c' Closed (λ e. cc) h.1 (rw h.0.2 (refl, refl))
room_lasts c c' (GetAsk ticket expired) (Some value) Object k h =
    lasts c c' Object (λ e. cc) h.1 (rw h.0.3 (refl, refl))
room_lasts c c' (GetAsk ticket expired) None Expired k h = lasts c c' Expired (λ e. cc) h.1 (rw h.0.4 (refl, refl))
room_lasts c c' (GetAsk ticket expired) None (Waiting same) k h =
    lasts c c' (Waiting same) (λ e. cc) h.1 (rw h.0.5 (refl, refl))
room_lasts c c' (GetCancel ticket) None Unknown k h = lasts c c' Unknown (λ e. cc) h.1 (rw h.0.1 (refl, refl))
room_lasts c c' (GetCancel ticket) None Done k h = lasts c c' Done (λ e. cc) h.1 (rw h.0.1 (refl, refl))
room_lasts c c' (AddEnter wait) (Some value) Closed k h = lasts c c' Closed (λ e. cc) h.1 (rw h.0.1 (refl, refl))
room_lasts c c' (AddEnter wait) (Some value) Stored k h = lasts c c' Stored (λ e. cc) h.1 (rw h.0.2 (refl, refl))
room_lasts c c' (AddEnter wait) (Some value) Full k h = lasts c c' Full (λ e. cc) h.1 (rw h.0.3 (refl, refl))
room_lasts c c' (AddEnter wait) (Some value) Crowded k h = lasts c c' Crowded (λ e. cc) h.1 (rw h.0.4 (refl, refl))
room_lasts c c' (AddEnter wait) (Some value) (Waiting ticket) k h =
    joined_add c c' wait ticket k h.0.3 (rw h.0.5 (refl, refl)) h.1
room_lasts c c' (AddEnter wait) (Some value) OutOfMemory k h = λ has. absurd (full_add c k h.0.3 has h.1.0)
room_lasts c c' (AddAsk ticket) (Some value) Unknown k h = lasts c c' Unknown (λ e. cc) h.1 (rw h.0.1 (refl, refl))
room_lasts c c' (AddAsk ticket) (Some value) Closed k h = lasts c c' Closed (λ e. cc) h.1 (rw h.0.2 (refl, refl))
room_lasts c c' (AddAsk ticket) (Some value) Stored k h = lasts c c' Stored (λ e. cc) h.1 (rw h.0.2 (refl, refl))
room_lasts c c' (AddAsk ticket) (Some value) (Waiting same) k h =
    lasts c c' (Waiting same) (λ e. cc) h.1 (rw h.0.4 (refl, refl))
room_lasts c c' (AddCancel ticket) None Unknown k h = lasts c c' Unknown (λ e. cc) h.1 (rw h.0.1 (refl, refl))
room_lasts c c' (AddCancel ticket) None Done k h = lasts c c' Done (λ e. cc) h.1 (rw h.0.1 (refl, refl))
room_lasts c c' Back (Some value) Unknown k h = lasts c c' Unknown (λ e. cc) h.1 (rw h.0.1 (refl, refl))
room_lasts c c' Back (Some value) Dropped k h = lasts c c' Dropped (λ e. cc) h.1 (rw h.0.2 (refl, refl))
room_lasts c c' Back (Some value) Kept k h = lasts c c' Kept (λ e. cc) h.1 (rw h.0.3 (refl, refl))
room_lasts c c' Take None Unknown k h = lasts c c' Unknown (λ e. cc) h.1 (rw h.0.1 (refl, refl))
room_lasts c c' Take None Taken k h = lasts c c' Taken (λ e. cc) h.1 (rw h.0.1 (refl, refl))
room_lasts c c' _ _ _ k h = absurd h.0
