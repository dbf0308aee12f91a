-- How often each thing has happened in a pool, and that its books balance.
use Rattle.std.specs.Prelude.{◌≡◌, ◌<◌, ℕ, ◌+◌, ◌-◌, min, Result, Ok, Err}
use Rattle.deadpool_desk.specs.DeskState.{DeskState, size}
use Rattle.deadpool_desk.specs.declared.owner_step.OwnerStep.{OwnerStep}
use Rattle.deadpool_desk.specs.declared.owner_step.OwnerStep.TheVariants as owner
use Rattle.deadpool_desk.specs.declared.step.Held.TheVariants as held
use Rattle.deadpool_desk.specs.declared.step.Reply.{Reply}
use Rattle.deadpool_desk.specs.declared.step.Reply.TheVariants.{Object, Create, Going, Closed, Full, Waiting, Crowded}
use Rattle.deadpool_desk.specs.declared.step.Reply.TheVariants.{Expired, Done, Number, Detach, Dropped, Taken}
use Rattle.deadpool_desk.specs.declared.step.Step.{Step}
use Rattle.deadpool_desk.specs.declared.step.Step.TheVariants.{Enter, Ask, Discard, Created, Failed, Refused, Back}
use Rattle.deadpool_desk.specs.declared.step.Step.TheVariants.{Cancel, Take}
use Rattle.deadpool_journal.specs.declared.entry.Entry.{Entry}
use Rattle.deadpool_journal.specs.declared.entry.Entry.TheVariants.{Made, Owner, Retain}
use Rattle.deadpool_journal.specs.declared.tally.Tally.{Tally}

-- where each count stops
abbrev pub greatest_count : ℕ
greatest_count = 18446744073709551615

-- a count with so many more
abbrev pub more : ℕ → ℕ → ℕ
more count by = min (count + by) greatest_count

-- before the first step
abbrev pub no_tally : Tally
no_tally = record {
  gets = 0;
  served = 0;
  waited = 0;
  late = 0;
  crowded = 0;
  closed = 0;
  created = 0;
  failed = 0;
  refused = 0;
  cancelled = 0;
  surplus = 0;
  not_retained = 0;
  taken = 0;
  dropped = 0;
}

-- with the reply to a get that asks for its place, at once or from the queue
abbrev pub answered : Reply → Tally → Tally
answered (Object left) t = record t { served = more t.served 1 }
answered Create t = record t { served = more t.served 1 }
answered Going t = record t { served = more t.served 1 }
answered Full t = record t { late = more t.late 1 }
answered Expired t = record t { late = more t.late 1 }
answered Crowded t = record t { crowded = more t.crowded 1 }
answered Closed t = record t { closed = more t.closed 1 }
answered _ t = t

-- with the reply to a get that enters
abbrev pub entered : Reply → Tally → Tally
entered (Waiting ticket) t = record t { waited = more t.waited 1 }
entered reply t = answered reply t

-- with the reply to an object that comes back
abbrev pub came_back : Reply → Tally → Tally
came_back Detach t = record t { surplus = more t.surplus 1 }
came_back Dropped t = record t { dropped = more t.dropped 1 }
came_back _ t = t

-- with a step of a get or an object
abbrev pub counted_made : Step → Reply → Tally → Tally
counted_made (Enter wait) reply t = entered reply (record t { gets = more t.gets 1 })
counted_made (Ask ticket expired) reply t = answered reply t
counted_made Created (Number number) t = record t { created = more t.created 1 }
counted_made Failed Done t = record t { failed = more t.failed 1 }
counted_made Discard Done t = record t { refused = more t.refused 1 }
counted_made Refused Done t = record t { refused = more t.refused 1 }
counted_made (Cancel held.Object) Done t = record t { cancelled = more t.cancelled 1 }
counted_made Back reply t = came_back reply t
counted_made Take (Taken detach) t = record t { taken = more t.taken 1 }
counted_made _ _ t = t

-- with a step of the owner, by which so many idle objects go
abbrev pub counted_for_owner : ℕ → OwnerStep → Tally → Tally
counted_for_owner gone (owner.Resize limit) t = record t { surplus = more t.surplus gone }
counted_for_owner gone owner.Close t = record t { surplus = more t.surplus gone }
counted_for_owner gone owner.DropHandle t = record t { dropped = more t.dropped gone }
counted_for_owner gone _ t = t

-- with a retain, by which so many idle objects go
abbrev pub counted_retain : {A E : Type 0} → ℕ → Result A E → Tally → Tally
counted_retain gone (Ok given) t = record t { not_retained = more t.not_retained gone }
counted_retain gone (Err refused) t = t

-- with a step, by which the pool has so many objects fewer
abbrev pub counted : ℕ → Entry → Tally → Tally
counted gone (Made step object reply) t = counted_made step reply t
counted gone (Owner step reply) t = counted_for_owner gone step t
counted gone (Retain result) t = counted_retain gone result t

-- how many objects were given up, for each cause
abbrev pub all_given_up : Tally → ℕ
all_given_up t = t.refused + t.cancelled + t.surplus + t.not_retained + t.taken + t.dropped

-- The books of a pool with so many objects balance: until so many were created that the count has stopped, each that
-- was created is there or was given up.
abbrev pub AreBalanced : ℕ → Tally → Type 0
AreBalanced size t = t.created < greatest_count → t.created ≡ size + all_given_up t

module _ {O : Type 0} where
  -- how many objects went between two states
  abbrev pub gone : DeskState O → DeskState O → ℕ
  gone d d' = size d - size d'

  -- books that balance do so after a step that is counted so
  abbrev pub StaysBalanced : (DeskState O → DeskState O → Tally → Tally) → DeskState O → DeskState O → Type 0
  StaysBalanced count d d' = (t : Tally) → AreBalanced (size d) t → AreBalanced (size d') (count d d' t)
