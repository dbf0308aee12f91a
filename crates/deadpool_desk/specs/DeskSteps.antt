-- The steps at a desk: when each reply comes, and the state after it. Those of a get or an object are one table, those
-- of the owner another.
use Rattle.std.specs.Prelude.{◌≡◌, ◌≢◌, ℕ, ◌+◌, ◌-◌, ◌<◌, ◌≤◌, Bool, true, false, ◌||◌, ◌==◌, nat_lt, if◌then◌else◌, []}
use Rattle.std.specs.Prelude.{◌∷◌, ◌++◌, length, drop, min, max, Option, Some, None, unwrap_or}
use Rattle.deadpool_gate.specs.Numbers.{has_number, without_number, largest_usize, most_handles}
use Rattle.deadpool_desk.specs.DeskState.{DeskState, least_idle, next_idle, other_idle, places, size, settled}
use Rattle.deadpool_desk.specs.DeskState.{status_of}
use Rattle.deadpool_desk.specs.declared.owner_step.OwnerReply.{OwnerReply}
use Rattle.deadpool_desk.specs.declared.owner_step.OwnerReply.TheVariants as owner_reply
use Rattle.deadpool_desk.specs.declared.owner_step.OwnerStep.{OwnerStep}
use Rattle.deadpool_desk.specs.declared.owner_step.OwnerStep.TheVariants as owner
use Rattle.deadpool_desk.specs.declared.step.Held.TheVariants as held
use Rattle.deadpool_desk.specs.declared.step.Reply.{Reply}
use Rattle.deadpool_desk.specs.declared.step.Reply.TheVariants.{Object, Create, Going, Exhausted, Closed, Full, Waiting}
use Rattle.deadpool_desk.specs.declared.step.Reply.TheVariants.{Crowded, OutOfMemory, Expired, Done, Number, Kept}
use Rattle.deadpool_desk.specs.declared.step.Reply.TheVariants.{Detach}
use Rattle.deadpool_desk.specs.declared.step.Reply.TheVariants.{Dropped, Taken, Unknown}
use Rattle.deadpool_desk.specs.declared.step.Step.{Step}
use Rattle.deadpool_desk.specs.declared.step.Step.TheVariants.{Enter, Ask, Again, Discard, Created, Failed, Refused}
use Rattle.deadpool_desk.specs.declared.step.Step.TheVariants.{Back, Withdraw, Cancel, Take}

module _ {O : Type 0} where
  -- A get is served whose place is in no count of d. It may take so many idle objects; none set is as many as are idle.
  abbrev pub Serves : DeskState O → Option ℕ → Option O → Reply → DeskState O → Type 0
  Serves d allowance (Some slot) (Object left) d' =
      (next_idle d.mode d.idle ≡ Some slot) × (left + 1 ≡ unwrap_or allowance (length d.idle))
      × (d' ≡ record d { idle = other_idle d.mode d.idle; outside = d.outside + 1 })
  Serves d allowance None Going d' = (d.idle ≢ []) × (unwrap_or allowance (length d.idle) ≡ 0)
      × (d' ≡ record d { going = d.going + 1 })
  Serves d allowance None Create d' =
      (d.idle ≡ []) × (d.next + d.creations < largest_usize) × (d' ≡ record d { creations = d.creations + 1 })
  Serves d allowance None Exhausted d' = (d.idle ≡ []) × (largest_usize ≤ d.next + d.creations) × (d' ≡ settled d)
  Serves d allowance _ _ d' = ⊥

  -- the queue without a ticket
  abbrev pub unqueued : ℕ → DeskState O → DeskState O
  unqueued ticket d = record d { granted = without_number ticket d.granted; waiting = without_number ticket d.waiting }

  -- whether the ticket is in the queue
  abbrev pub is_listed : ℕ → DeskState O → Bool
  is_listed ticket d = has_number ticket d.granted || has_number ticket d.waiting

  -- what is given up is counted, or it is unknown
  abbrev pub GivesUp : DeskState O → ℕ → Reply → DeskState O → DeskState O → Type 0
  GivesUp d count Done without d' = (0 < count) × (d' ≡ without)
  GivesUp d count Unknown without d' = (count ≡ 0) × (d' ≡ d)
  GivesUp d count _ without d' = ⊥

  -- a step with its reply, and the object that is taken or given, if there is one
  abbrev pub Does : DeskState O → Step → Option O → Reply → DeskState O → Type 0
  -- a get that is not in the queue yet
  Does d (Enter wait) None Closed d' = (d.is_open ≡ false) × (d' ≡ d)
  Does d (Enter wait) None Full d' = (d.is_open ≡ true) × (d.limit ≤ places d) × (wait ≡ false) × (d' ≡ d)
  Does d (Enter wait) None Crowded d' =
      (d.is_open ≡ true) × (d.limit ≤ places d) × (wait ≡ true) × (d.max_waiting ≤ length d.waiting) × (d' ≡ d)
  Does d (Enter wait) None (Waiting ticket) d' =
      (d.is_open ≡ true) × (d.limit ≤ places d) × (wait ≡ true) × (length d.waiting < d.max_waiting)
      × (is_listed ticket d ≡ false)
      × (d' ≡ record d { waiting = d.waiting ++ ticket ∷ [] })
  Does d (Enter wait) None OutOfMemory d' =
      (d.is_open ≡ true) × (d.limit ≤ places d) × (wait ≡ true) × (length d.waiting < d.max_waiting) × (d' ≡ d)
  Does d (Enter wait) object reply d' = (d.is_open ≡ true) × (places d < d.limit) × Serves d None object reply d'
  -- a get in the queue
  Does d (Ask ticket expired) None Unknown d' = (is_listed ticket d ≡ false) × (d' ≡ d)
  Does d (Ask ticket expired) None Closed d' =
      (d.is_open ≡ false) × (is_listed ticket d ≡ true) × (d' ≡ unqueued ticket d)
  Does d (Ask ticket expired) None Expired d' =
      (d.is_open ≡ true) × (has_number ticket d.granted ≡ false) × (has_number ticket d.waiting ≡ true)
      × (expired ≡ true) × (d' ≡ unqueued ticket d)
  Does d (Ask ticket expired) None (Waiting same) d' =
      (d.is_open ≡ true) × (has_number ticket d.granted ≡ false) × (has_number ticket d.waiting ≡ true)
      × (expired ≡ false) × (same ≡ ticket) × (d' ≡ d)
  Does d (Ask ticket expired) object reply d' =
      (d.is_open ≡ true) × (has_number ticket d.granted ≡ true) × Serves (unqueued ticket d) None object reply d'
  -- a get that holds a place and nothing else
  Does d (Again allowance) None Unknown d' = (d.going ≡ 0) × (d' ≡ d)
  Does d (Again allowance) object reply d' =
      (0 < d.going) × Serves (record d { going = d.going - 1 }) allowance object reply d'
  -- a get that gives up the idle object that it prepared, and keeps the place
  Does d Discard None reply d' =
      GivesUp d d.outside reply (record d { outside = d.outside - 1; going = d.going + 1 }) d'
  -- a creation that has ended
  Does d Created None Unknown d' = (d.creations ≡ 0) × (d' ≡ d)
  Does d Created None (Number number) d' =
      (0 < d.creations) × (number ≡ d.next)
      × (d' ≡ record d { creations = d.creations - 1; next = d.next + 1; outside = d.outside + 1 })
  Does d Failed None reply d' = GivesUp d d.creations reply (settled (record d { creations = d.creations - 1 })) d'
  -- an object that is given up with its place, comes back, or leaves for good
  Does d Refused None reply d' = GivesUp d d.outside reply (settled (record d { outside = d.outside - 1 })) d'
  Does d Back (Some slot) Unknown d' = (d.outside ≡ 0) × (d' ≡ d)
  Does d Back (Some slot) Dropped d' =
      (0 < d.outside) × (d.handles ≡ 0) × (d' ≡ settled (record d { outside = d.outside - 1 }))
  Does d Back (Some slot) Detach d' =
      (0 < d.outside) × (0 < d.handles) × (d.limit < size d) × (d' ≡ settled (record d { outside = d.outside - 1 }))
  Does d Back (Some slot) Kept d' =
      (0 < d.outside) × (0 < d.handles) × (size d ≤ d.limit)
      × (d' ≡ settled (record d { idle = d.idle ++ slot ∷ []; outside = d.outside - 1 }))
  Does d Take None Unknown d' = (d.outside ≡ 0) × (d' ≡ d)
  Does d Take None (Taken detach) d' =
      (0 < d.outside) × (detach ≡ nat_lt 0 d.handles) × (d' ≡ settled (record d { outside = d.outside - 1 }))
  -- a get that gives back what it holds
  Does d (Withdraw ticket) None Unknown d' = (is_listed ticket d ≡ false) × (d' ≡ d)
  Does d (Withdraw ticket) None Done d' = (is_listed ticket d ≡ true) × (d' ≡ settled (unqueued ticket d))
  Does d (Cancel held.Place) None reply d' = GivesUp d d.going reply (settled (record d { going = d.going - 1 })) d'
  Does d (Cancel held.Creation) None reply d' =
      GivesUp d d.creations reply (settled (record d { creations = d.creations - 1 })) d'
  Does d (Cancel held.Object) None reply d' =
      GivesUp d d.outside reply (settled (record d { outside = d.outside - 1 })) d'
  Does d _ _ _ d' = ⊥

  -- how many idle objects are given up for another limit: as many as are above it, of those that need not stay
  abbrev pub given_up : ℕ → DeskState O → ℕ
  given_up limit d = min (size d - limit) (length d.idle - least_idle limit d)

  -- how many the pool gives up if it gets this limit now: none once it is closed
  abbrev pub surplus : ℕ → DeskState O → ℕ
  surplus limit d = if d.is_open then given_up limit d else 0

  -- with another limit the idle objects at the front go
  abbrev pub resized : ℕ → DeskState O → DeskState O
  resized limit d =
      settled (record d { limit = limit; reserve = max d.reserve limit; idle = drop (given_up limit d) d.idle })

  abbrev pub one_handle_more : DeskState O → DeskState O
  one_handle_more d = record d { handles = min (d.handles + 1) most_handles }

  -- the last handle takes the idle objects with it
  abbrev pub one_handle_less : DeskState O → DeskState O
  one_handle_less d =
      let left = if d.handles == most_handles then most_handles else d.handles - 1 in
      record d { handles = left; idle = if left == 0 then [] else d.idle }

  -- a step of the owner with its reply
  abbrev pub DoesForOwner : DeskState O → OwnerStep → OwnerReply → DeskState O → Type 0
  -- the pool says how it stands, and stays as it is
  DoesForOwner d owner.Status (owner_reply.Stands status) d' = (status ≡ status_of d) × (d' ≡ d)
  -- it gets another limit, if it is open; only a limit beyond the room needs memory
  DoesForOwner d (owner.Resize limit) owner_reply.Done d' = d' ≡ (if d.is_open then resized limit d else d)
  DoesForOwner d (owner.Resize limit) owner_reply.OutOfMemory d' = (d.is_open ≡ true) × (d.reserve < limit) × (d' ≡ d)
  -- it closes, and nothing stays idle
  DoesForOwner d owner.Close owner_reply.Done d' = d' ≡ record d { limit = 0; is_open = false; idle = [] }
  -- one handle more, for one who has one
  DoesForOwner d owner.CloneHandle owner_reply.Done d' = (0 < d.handles) × (d' ≡ one_handle_more d)
  DoesForOwner d owner.CloneHandle owner_reply.NoHandle d' = (d.handles ≡ 0) × (d' ≡ d)
  -- one handle less
  DoesForOwner d owner.DropHandle owner_reply.Done d' = (0 < d.handles) × (d' ≡ one_handle_less d)
  DoesForOwner d owner.DropHandle owner_reply.NoHandle d' = (d.handles ≡ 0) × (d' ≡ d)
  -- one handle more, for one who has none, if there still is one
  DoesForOwner d owner.Upgrade owner_reply.Done d' = (0 < d.handles) × (d' ≡ one_handle_more d)
  DoesForOwner d owner.Upgrade owner_reply.NoHandle d' = (d.handles ≡ 0) × (d' ≡ d)
  DoesForOwner d _ _ d' = ⊥
