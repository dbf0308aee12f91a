-- What each step leaves of a closed pool: never more than there was.
use Rattle.deadpool_unmanaged.proofs.Words.{◌≡◌, ℕ, ◌-◌, ◌<◌, false, None, Some, arith, State}
use Rattle.deadpool_unmanaged.proofs.Words.{settled, without_get, without_add}
use Rattle.deadpool_unmanaged.specs.Closing.{EachStep, OnlyShrinks, ShrinksIfClosed}
use Rattle.deadpool_unmanaged.specs.declared.step.Reply.TheVariants.{Object, Stored, Closed, Full, Waiting, OutOfMemory}
use Rattle.deadpool_unmanaged.specs.declared.step.Reply.TheVariants.{Crowded, Expired, Done, Kept, Dropped, Taken}
use Rattle.deadpool_unmanaged.specs.declared.step.Reply.TheVariants.{Unknown}
use Rattle.deadpool_unmanaged.specs.declared.step.Step.TheVariants.{GetEnter, GetAsk, GetCancel, AddEnter, AddAsk}
use Rattle.deadpool_unmanaged.specs.declared.step.Step.TheVariants.{AddCancel, Back, Take}

module _ {T : Type 0} (d : State T) (shut : d.is_open ≡ false) where
  same : OnlyShrinks d d
  same = record { closed = shut; left = omega arith }

  -- who leaves a queue takes no object
  left_get : (ticket : ℕ) → OnlyShrinks d (without_get ticket d)
  left_get ticket = record { closed = shut; left = omega arith }

  left_add : (ticket : ℕ) → OnlyShrinks d (without_add ticket d)
  left_add ticket = record { closed = shut; left = omega arith }

  settled_get : (ticket : ℕ) → OnlyShrinks d (settled (without_get ticket d))
  settled_get ticket = record { closed = shut; left = omega arith }

  settled_add : (ticket : ℕ) → OnlyShrinks d (settled (without_add ticket d))
  settled_add ticket = record { closed = shut; left = omega arith }

  without_object : 0 < d.outside → OnlyShrinks d (settled (record d { outside = d.outside - 1 }))
  without_object some = record { closed = shut; left = omega arith }

pub step_shrinks : {T : Type 0} → EachStep {T = T} (λ _ _. ShrinksIfClosed)
step_shrinks d d' (GetEnter wait) None Closed h shut = rw h.1 (same d shut)
step_shrinks d d' (GetEnter wait) (Some value) Object h shut = let opens = h.0 in absurd cc
step_shrinks d d' (GetEnter wait) None Full h shut = let opens = h.0 in absurd cc
step_shrinks d d' (GetEnter wait) None Crowded h shut = let opens = h.0 in absurd cc
step_shrinks d d' (GetEnter wait) None (Waiting ticket) h shut = let opens = h.0 in absurd cc
step_shrinks d d' (GetEnter wait) None OutOfMemory h shut = let opens = h.0 in absurd cc
step_shrinks d d' (GetAsk ticket expired) None Unknown h shut = rw h.1 (same d shut)
step_shrinks d d' (GetAsk ticket expired) None Closed h shut = rw h.2 (left_get d shut ticket)
step_shrinks d d' (GetAsk ticket expired) (Some value) Object h shut = let opens = h.0 in absurd cc
step_shrinks d d' (GetAsk ticket expired) None Expired h shut = let opens = h.0 in absurd cc
step_shrinks d d' (GetAsk ticket expired) None (Waiting same) h shut = let opens = h.0 in absurd cc
step_shrinks d d' (GetCancel ticket) None Unknown h shut = rw h.1 (same d shut)
step_shrinks d d' (GetCancel ticket) None Done h shut = rw h.1 (settled_get d shut ticket)
step_shrinks d d' (AddEnter wait) (Some value) Closed h shut = rw h.1 (same d shut)
step_shrinks d d' (AddEnter wait) (Some value) Stored h shut = let opens = h.0 in absurd cc
step_shrinks d d' (AddEnter wait) (Some value) Full h shut = let opens = h.0 in absurd cc
step_shrinks d d' (AddEnter wait) (Some value) Crowded h shut = let opens = h.0 in absurd cc
step_shrinks d d' (AddEnter wait) (Some value) (Waiting ticket) h shut = let opens = h.0 in absurd cc
step_shrinks d d' (AddEnter wait) (Some value) OutOfMemory h shut = let opens = h.0 in absurd cc
step_shrinks d d' (AddAsk ticket) (Some value) Unknown h shut = rw h.1 (same d shut)
step_shrinks d d' (AddAsk ticket) (Some value) Closed h shut = rw h.2 (left_add d shut ticket)
step_shrinks d d' (AddAsk ticket) (Some value) Stored h shut = let opens = h.0 in absurd cc
step_shrinks d d' (AddAsk ticket) (Some value) (Waiting same) h shut = let opens = h.0 in absurd cc
step_shrinks d d' (AddCancel ticket) None Unknown h shut = rw h.1 (same d shut)
step_shrinks d d' (AddCancel ticket) None Done h shut = rw h.1 (settled_add d shut ticket)
step_shrinks d d' Back (Some value) Unknown h shut = rw h.1 (same d shut)
step_shrinks d d' Back (Some value) Dropped h shut = rw h.2 (without_object d shut h.0)
step_shrinks d d' Back (Some value) Kept h shut = let opens = h.1 in absurd cc
step_shrinks d d' Take None Unknown h shut = rw h.1 (same d shut)
step_shrinks d d' Take None Taken h shut = rw h.1 (without_object d shut h.0)
step_shrinks d d' _ _ _ h shut = absurd h
