-- How often each thing has happened in a pool, and that its books balance.
use Rattle.std.specs.Prelude.{◌≡◌, ◌<◌, ℕ, ◌+◌, ◌-◌, min}
use Rattle.deadpool_unmanaged.specs.State.{State, size}
use Rattle.deadpool_unmanaged.specs.declared.step.Reply.{Reply}
use Rattle.deadpool_unmanaged.specs.declared.step.Reply.TheVariants.{Object, Stored, Closed, Full, Waiting, Crowded}
use Rattle.deadpool_unmanaged.specs.declared.step.Reply.TheVariants.{Expired, Dropped, Taken}
use Rattle.deadpool_unmanaged.specs.declared.step.Step.{Step}
use Rattle.deadpool_unmanaged.specs.declared.step.Step.TheVariants.{GetEnter, GetAsk, AddEnter, AddAsk, Back, Take}
use Rattle.deadpool_unmanaged_journal.specs.declared.entry.Entry.{Entry}
use Rattle.deadpool_unmanaged_journal.specs.declared.entry.Entry.TheVariants.{Made, Owner}
use Rattle.deadpool_unmanaged_journal.specs.declared.owner_step.OwnerStep.{OwnerStep}
use Rattle.deadpool_unmanaged_journal.specs.declared.owner_step.OwnerStep.TheVariants as owner
use Rattle.deadpool_unmanaged_journal.specs.declared.tally.Tally.{Tally}

-- where each count stops
abbrev pub greatest_count : ℕ
greatest_count = 18446744073709551615

-- a count with so many more
abbrev pub more : ℕ → ℕ → ℕ
more count by = min (count + by) greatest_count

-- before the first step
abbrev pub no_tally : Tally
no_tally = record {
  gets = 0;
  served = 0;
  waited = 0;
  late = 0;
  crowded = 0;
  closed = 0;
  adds = 0;
  stored = 0;
  adds_waited = 0;
  adds_full = 0;
  adds_crowded = 0;
  adds_closed = 0;
  taken = 0;
  dropped = 0;
}

-- with the reply to a get that asks for an object, at once or from the queue
abbrev pub answered_get : Reply → Tally → Tally
answered_get Object t = record t { served = more t.served 1 }
answered_get Full t = record t { late = more t.late 1 }
answered_get Expired t = record t { late = more t.late 1 }
answered_get Crowded t = record t { crowded = more t.crowded 1 }
answered_get Closed t = record t { closed = more t.closed 1 }
answered_get _ t = t

-- with the reply to a get that enters
abbrev pub entered_get : Reply → Tally → Tally
entered_get (Waiting ticket) t = record t { waited = more t.waited 1 }
entered_get reply t = answered_get reply t

-- with the reply to an add that asks for room, at once or from the queue
abbrev pub answered_add : Reply → Tally → Tally
answered_add Stored t = record t { stored = more t.stored 1 }
answered_add Full t = record t { adds_full = more t.adds_full 1 }
answered_add Crowded t = record t { adds_crowded = more t.adds_crowded 1 }
answered_add Closed t = record t { adds_closed = more t.adds_closed 1 }
answered_add _ t = t

-- with the reply to an add that enters
abbrev pub entered_add : Reply → Tally → Tally
entered_add (Waiting ticket) t = record t { adds_waited = more t.adds_waited 1 }
entered_add reply t = answered_add reply t

-- with a step of a get, an add or an object
abbrev pub counted_made : Step → Reply → Tally → Tally
counted_made (GetEnter wait) reply t = entered_get reply (record t { gets = more t.gets 1 })
counted_made (GetAsk ticket expired) reply t = answered_get reply t
counted_made (AddEnter wait) reply t = entered_add reply (record t { adds = more t.adds 1 })
counted_made (AddAsk ticket) reply t = answered_add reply t
counted_made Back Dropped t = record t { dropped = more t.dropped 1 }
counted_made Take Taken t = record t { taken = more t.taken 1 }
counted_made _ _ t = t

-- with a step of the owner, by which so many idle objects go
abbrev pub counted_for_owner : ℕ → OwnerStep → Tally → Tally
counted_for_owner gone owner.Close t = record t { dropped = more t.dropped gone }
counted_for_owner gone owner.DropHandle t = record t { dropped = more t.dropped gone }
counted_for_owner gone _ t = t

-- with a step, by which the pool has so many objects fewer
abbrev pub counted : {O : Type 0} → ℕ → Entry O → Tally → Tally
counted gone (Made step object reply) t = counted_made step reply t
counted gone (Owner step reply) t = counted_for_owner gone step t

-- how many objects were given up, for each cause
abbrev pub all_given_up : Tally → ℕ
all_given_up t = t.taken + t.dropped

-- The books of a pool with so many objects balance: until so many were stored that the count has stopped, each that was
-- stored is there or was given up.
abbrev pub AreBalanced : ℕ → Tally → Type 0
AreBalanced size t = t.stored < greatest_count → t.stored ≡ size + all_given_up t

module _ {O : Type 0} where
  -- how many objects went between two states
  abbrev pub gone : State O → State O → ℕ
  gone d d' = size d - size d'

  -- books that balance do so after a step that is counted so
  abbrev pub StaysBalanced : (State O → State O → Tally → Tally) → State O → State O → Type 0
  StaysBalanced count d d' = (t : Tally) → AreBalanced (size d) t → AreBalanced (size d') (count d d' t)
