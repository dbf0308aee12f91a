-- The steps of a pool without names: when each reply comes, and the state after it. Those of a get, an add or an object
-- are one table.
use Rattle.std.specs.Prelude.{◌≡◌, ℕ, ◌+◌, ◌-◌, ◌<◌, ◌≤◌, min, length, Bool, true, false, ◌&&◌, ◌==◌, nat_lt}
use Rattle.std.specs.Prelude.{if◌then◌else◌, [], ◌∷◌, ◌++◌, Option, Some, None}
use Rattle.std.specs.Option.{option_or}
use Rattle.deadpool_gate.specs.Numbers.{has_number, without_number, most_handles}
use Rattle.deadpool_gate.specs.Queue.{is_listed, joined, without}
use Rattle.deadpool_gate.specs.Waking.{still_unnotified}
use Rattle.deadpool_parts.specs.declared.replies.HandleReply.{HandleReply}
use Rattle.deadpool_parts.specs.declared.replies.HandleReply.TheVariants as handle
use Rattle.deadpool_unmanaged.specs.Room.{Queues}
use Rattle.deadpool_unmanaged.specs.State.{State, CoreState, free_objects, free_room, settled, due_get, due_add}
use Rattle.deadpool_unmanaged.specs.State.{last_idle, other_idle}
use Rattle.deadpool_unmanaged.specs.declared.step.Reply.{Reply}
use Rattle.deadpool_unmanaged.specs.declared.step.Reply.TheVariants.{Object, Stored, Closed, Full, Waiting, OutOfMemory}
use Rattle.deadpool_unmanaged.specs.declared.step.Reply.TheVariants.{Crowded, Expired, Done, Kept, Dropped, Taken}
use Rattle.deadpool_unmanaged.specs.declared.step.Reply.TheVariants.{Unknown}
use Rattle.deadpool_unmanaged.specs.declared.step.Step.{Step}
use Rattle.deadpool_unmanaged.specs.declared.step.Step.TheVariants.{GetEnter, GetAsk, GetCancel, AddEnter, AddAsk}
use Rattle.deadpool_unmanaged.specs.declared.step.Step.TheVariants.{AddCancel, Back, Take}

module _ {T : Type 0} where
  -- the next object goes out
  abbrev pub handed : State T → State T
  handed d = record d { idle = other_idle d.idle; outside = d.outside + 1 }

  abbrev pub stored : T → State T → State T
  stored value d = record d { idle = d.idle ++ value ∷ [] }

  -- a get, or an add, leaves its queue
  abbrev pub without_get : ℕ → State T → State T
  without_get ticket d = record d {
    gets = without ticket d.gets;
    unnotified_gets = without_number ticket d.unnotified_gets;
  }

  abbrev pub without_add : ℕ → State T → State T
  without_add ticket d = record d {
    adds = without ticket d.adds;
    unnotified_adds = without_number ticket d.unnotified_adds;
  }

  -- or joins it, and was told nothing yet
  abbrev pub with_get : ℕ → State T → State T
  with_get ticket d = record d { gets = joined ticket d.gets; unnotified_gets = d.unnotified_gets ++ ticket ∷ [] }

  abbrev pub with_add : ℕ → State T → State T
  with_add ticket d = record d { adds = joined ticket d.adds; unnotified_adds = d.unnotified_adds ++ ticket ∷ [] }

  -- a step with its reply, and the object that is taken or given, if there is one
  abbrev pub Does : State T → Step → Option T → Reply → State T → Type 0
  -- a get that is not in the queue yet
  Does d (GetEnter wait) None Closed d' = (d.is_open ≡ false) × (d' ≡ d)
  Does d (GetEnter wait) (Some value) Object d' =
      (d.is_open ≡ true) × (0 < free_objects d) × (last_idle d.idle ≡ Some value) × (d' ≡ settled (handed d))
  Does d (GetEnter wait) None Full d' = (d.is_open ≡ true) × (free_objects d ≡ 0) × (wait ≡ false) × (d' ≡ d)
  Does d (GetEnter wait) None Crowded d' =
      (d.is_open ≡ true) × (free_objects d ≡ 0) × (wait ≡ true) × (d.max_waiting ≤ length d.gets.waiting) × (d' ≡ d)
  Does d (GetEnter wait) None (Waiting ticket) d' =
      (d.is_open ≡ true) × (free_objects d ≡ 0) × (wait ≡ true) × (length d.gets.waiting < d.max_waiting)
      × (is_listed ticket d.gets ≡ false)
      × (d' ≡ with_get ticket d)
  Does d (GetEnter wait) None OutOfMemory d' =
      (d.is_open ≡ true) × (free_objects d ≡ 0) × (wait ≡ true) × (length d.gets.waiting < d.max_waiting) × (d' ≡ d)
  -- A get in the queue. In an open pool one that was granted an object finds none only if nothing is idle.
  Does d (GetAsk ticket expired) None Unknown d' = (is_listed ticket d.gets ≡ false) × (d' ≡ d)
  Does d (GetAsk ticket expired) None Closed d' =
      (is_listed ticket d.gets ≡ true) × (d.is_open ≡ true → (has_number ticket d.gets.granted ≡ true) × (d.idle ≡ []))
      × (d' ≡ without_get ticket d)
  Does d (GetAsk ticket expired) (Some value) Object d' =
      (d.is_open ≡ true) × (has_number ticket d.gets.granted ≡ true) × (last_idle d.idle ≡ Some value)
      × (d' ≡ settled (handed (without_get ticket d)))
  Does d (GetAsk ticket expired) None Expired d' =
      (d.is_open ≡ true) × (has_number ticket d.gets.granted ≡ false) × (has_number ticket d.gets.waiting ≡ true)
      × (expired ≡ true)
      × (d' ≡ settled (without_get ticket d))
  Does d (GetAsk ticket expired) None (Waiting same) d' =
      (d.is_open ≡ true) × (has_number ticket d.gets.granted ≡ false) × (has_number ticket d.gets.waiting ≡ true)
      × (expired ≡ false)
      × (same ≡ ticket) × (d' ≡ d)
  -- a get gives back what it was granted, or its wait
  Does d (GetCancel ticket) None Unknown d' = (is_listed ticket d.gets ≡ false) × (d' ≡ d)
  Does d (GetCancel ticket) None Done d' = (is_listed ticket d.gets ≡ true) × (d' ≡ settled (without_get ticket d))
  -- an add that is not in the queue yet
  Does d (AddEnter wait) (Some value) Closed d' = (d.is_open ≡ false) × (d' ≡ d)
  Does d (AddEnter wait) (Some value) Stored d' =
      (d.is_open ≡ true) × (0 < free_room d) × (d' ≡ settled (stored value d))
  Does d (AddEnter wait) (Some value) Full d' = (d.is_open ≡ true) × (free_room d ≡ 0) × (wait ≡ false) × (d' ≡ d)
  Does d (AddEnter wait) (Some value) Crowded d' =
      (d.is_open ≡ true) × (free_room d ≡ 0) × (wait ≡ true) × (d.max_waiting ≤ length d.adds.waiting) × (d' ≡ d)
  Does d (AddEnter wait) (Some value) (Waiting ticket) d' =
      (d.is_open ≡ true) × (free_room d ≡ 0) × (wait ≡ true) × (length d.adds.waiting < d.max_waiting)
      × (is_listed ticket d.adds ≡ false)
      × (d' ≡ with_add ticket d)
  Does d (AddEnter wait) (Some value) OutOfMemory d' =
      (d.is_open ≡ true) × (free_room d ≡ 0) × (wait ≡ true) × (length d.adds.waiting < d.max_waiting) × (d' ≡ d)
  -- an add in the queue
  Does d (AddAsk ticket) (Some value) Unknown d' = (is_listed ticket d.adds ≡ false) × (d' ≡ d)
  Does d (AddAsk ticket) (Some value) Closed d' =
      (d.is_open ≡ false) × (is_listed ticket d.adds ≡ true) × (d' ≡ without_add ticket d)
  Does d (AddAsk ticket) (Some value) Stored d' =
      (d.is_open ≡ true) × (has_number ticket d.adds.granted ≡ true)
      × (d' ≡ settled (stored value (without_add ticket d)))
  Does d (AddAsk ticket) (Some value) (Waiting same) d' =
      (d.is_open ≡ true) × (has_number ticket d.adds.granted ≡ false) × (has_number ticket d.adds.waiting ≡ true)
      × (same ≡ ticket) × (d' ≡ d)
  -- an add gives back the room that it was granted, or its wait
  Does d (AddCancel ticket) None Unknown d' = (is_listed ticket d.adds ≡ false) × (d' ≡ d)
  Does d (AddCancel ticket) None Done d' = (is_listed ticket d.adds ≡ true) × (d' ≡ settled (without_add ticket d))
  -- an object comes back
  Does d Back (Some value) Unknown d' = (d.outside ≡ 0) × (d' ≡ d)
  Does d Back (Some value) Dropped d' =
      (0 < d.outside) × ((d.is_open && nat_lt 0 d.handles) ≡ false)
      × (d' ≡ settled (record d { outside = d.outside - 1 }))
  Does d Back (Some value) Kept d' =
      (0 < d.outside) × (d.is_open ≡ true) × (0 < d.handles)
      × (d' ≡ settled (stored value (record d { outside = d.outside - 1 })))
  -- an object that is out leaves for good
  Does d Take None Unknown d' = (d.outside ≡ 0) × (d' ≡ d)
  Does d Take None Taken d' = (0 < d.outside) × (d' ≡ settled (record d { outside = d.outside - 1 }))
  Does d _ _ _ d' = ⊥

  -- a core's step with the object that is taken or given
  abbrev pub Steps : CoreState T → Step → Option T → Reply → CoreState T → Type 0
  Steps c step object reply c' = Does c.pool step object reply c'.pool × Queues c step reply c'

  -- the same, with what was in the hand, and what is in it then
  abbrev pub Makes : CoreState T → Step → Option T → Reply → Option T → CoreState T → Type 0
  Makes c step was reply hand c' = Steps c step (option_or was hand) reply c'

  -- the pool closes, and nothing stays idle
  abbrev pub closed_pool : State T → State T
  closed_pool d = record d { is_open = false; idle = [] }

  abbrev pub one_handle_more : State T → State T
  one_handle_more d = record d { handles = min (d.handles + 1) most_handles }

  -- the last handle takes the idle objects with it, and leaves their room
  abbrev pub one_handle_less : State T → State T
  one_handle_less d =
      let handles = if d.handles == most_handles then most_handles else d.handles - 1 in
      if handles == 0 then settled (record d { handles = 0; idle = [] }) else record d { handles = handles }

  -- one handle more, for one who has one
  abbrev pub Clones : State T → HandleReply → State T → Type 0
  Clones d handle.NoHandle d' = (d.handles ≡ 0) × (d' ≡ d)
  Clones d handle.Done d' = (0 < d.handles) × (d' ≡ one_handle_more d)

  -- one handle less
  abbrev pub DropsHandle : State T → HandleReply → State T → Type 0
  DropsHandle d handle.NoHandle d' = (d.handles ≡ 0) × (d' ≡ d)
  DropsHandle d handle.Done d' = (0 < d.handles) × (d' ≡ one_handle_less d)

  -- one handle more, for one who has none, if there still is one
  abbrev pub Upgrades : State T → Bool → State T → Type 0
  Upgrades d true d' = (0 < d.handles) × (d' ≡ one_handle_more d)
  Upgrades d false d' = (d.handles ≡ 0) × (d' ≡ d)

  -- the get, or the add, that is to be told next is named, and counts as told; or nobody is
  abbrev pub TakesGetWake : State T → Option ℕ → State T → Type 0
  TakesGetWake d named d' = (named ≡ due_get d) × (d'
      ≡ record d { unnotified_gets = still_unnotified named d.unnotified_gets })

  abbrev pub TakesAddWake : State T → Option ℕ → State T → Type 0
  TakesAddWake d named d' = (named ≡ due_add d) × (d'
      ≡ record d { unnotified_adds = still_unnotified named d.unnotified_adds })
