-- Each entry of a journal, by what it makes of both queues. Those that the pool has told stand in no entry.
use Rattle.std.proofs.Common.{◌≡◌, ℕ, ◌<◌, List, [], ◌∷◌, true, false, sym, ap, ◌∙◌, arith, inl, inr}
use Rattle.std.proofs.Common.{◌⊎◌, Option, Some, None}
use Rattle.std.specs.Prelude.{◌==◌, ◌++◌, ⊤, length}
use Rattle.std.proofs.lemmas.Bool.{cases_Bool, eqb-true, or_parts}
use Rattle.deadpool_gate.specs.Numbers.{has_number}
use Rattle.deadpool_gate.specs.Orders.{IsOnce}
use Rattle.deadpool_gate.specs.Queue.{Queue, members}
use Rattle.deadpool_gate.proofs.Numbers.{has_number-append}
use Rattle.deadpool_unmanaged.specs.State.{State, free_objects, free_room, size}
use Rattle.deadpool_unmanaged.specs.StateSteps.{Does}
use Rattle.deadpool_unmanaged.specs.declared.step.Reply.{Reply}
use Rattle.deadpool_unmanaged.specs.declared.step.Reply.TheVariants.{Object, Stored, Closed, Waiting, Expired, Done}
use Rattle.deadpool_unmanaged.specs.declared.step.Reply.TheVariants.{Unknown}
use Rattle.deadpool_unmanaged.specs.declared.step.Step.{Step}
use Rattle.deadpool_unmanaged.specs.declared.step.Step.TheVariants.{GetAsk, GetCancel, AddAsk, AddCancel}
use Rattle.deadpool_unmanaged_journal.specs.ByName.{silent}
use Rattle.deadpool_unmanaged_journal.specs.Replay.{IsStep, Steps}
use Rattle.deadpool_unmanaged_journal.specs.declared.entry.Entry.{Entry}
use Rattle.deadpool_unmanaged_journal.specs.declared.entry.Entry.TheVariants.{Made, Owner}
use Rattle.deadpool_turns.proofs.Changes.{IsOther}
use Rattle.deadpool_turns.proofs.Passing.{passes_granted, passes_nears, passes_order, passes_queued, passes_served}
use Rattle.deadpool_unmanaged_turns.specs.Steps.{add_gives_up, add_gives_up_by, add_named_by, come_by, get_gives_up}
use Rattle.deadpool_unmanaged_turns.specs.Steps.{get_gives_up_by, get_named_by, gone_by, named_add, named_get}
use Rattle.deadpool_unmanaged_turns.specs.Turns.{IsGranted, IsOrderly, IsQueued, KeepsQueues, Nears, Waits}
use Rattle.deadpool_unmanaged_turns.proofs.Steps.{InUse, Moves, add_leaver, get_leaver, moves, owner_moves}

-- no number is in both of two lists
apart : (t : ℕ) (xs ys : List ℕ) → IsOnce (xs ++ ys) → has_number t xs ≡ true → has_number t ys ≡ false
apart t [] ys once has = cc
apart t (x ∷ xs) ys once has =
    elim (cases_Bool (x == t)) [
      | inl here ↦
          let gone = sym (has_number-append x xs ys) ∙ once.0 in
          rw (eqb-true x t here) at (or_parts (has_number x xs) (has_number x ys) gone).1
      | inr other ↦ apart t xs ys once.1 (rw other at has)
    ]

-- who was granted what it asks for is another than one that waits
granted_is_other : (t ticket : ℕ) (q : Queue) → IsOnce (members q) → Waits t q → IsGranted ticket q
    → (ticket == t) ≡ false
granted_is_other t ticket q once waits has =
    elim (cases_Bool (ticket == t)) [
      | inl is ↦
          let mine : has_number t q.granted ≡ true = rw (eqb-true ticket t is) at has in
          let gone : has_number t q.waiting ≡ false = apart t q.granted q.waiting once mine in absurd cc
      | inr other ↦ other
    ]

-- who leaves is named
named_or_other : (t ticket : ℕ) → (Some ticket ≡ Some t) ⊎ IsOther (Some ticket) t
named_or_other t ticket = elim (cases_Bool (ticket == t)) [
  | inl same ↦ inl (ap Some (eqb-true ticket t same))
  | inr other ↦ inr other
]

get_named_or_other : (t : ℕ) (step : Step) (reply : Reply)
    → (named_get step ≡ Some t) ⊎ IsOther (get_leaver step reply) t
get_named_or_other t (GetAsk ticket expired) Unknown = inr tt
get_named_or_other t (GetAsk ticket expired) (Waiting same) = inr tt
get_named_or_other t (GetAsk ticket expired) _ = named_or_other t ticket
get_named_or_other t (GetCancel ticket) Done = named_or_other t ticket
get_named_or_other t (GetCancel ticket) _ = inr tt
get_named_or_other t _ _ = inr tt

add_named_or_other : (t : ℕ) (step : Step) (reply : Reply)
    → (named_add step ≡ Some t) ⊎ IsOther (add_leaver step reply) t
add_named_or_other t (AddAsk ticket) Unknown = inr tt
add_named_or_other t (AddAsk ticket) (Waiting same) = inr tt
add_named_or_other t (AddAsk ticket) _ = named_or_other t ticket
add_named_or_other t (AddCancel ticket) Done = named_or_other t ticket
add_named_or_other t (AddCancel ticket) _ = inr tt
add_named_or_other t _ _ = inr tt

module _ {O : Type 0} where
  abbrev get_leaver_by : Entry O → Option ℕ
  get_leaver_by (Made step object reply) = get_leaver step reply
  get_leaver_by _ = None

  abbrev add_leaver_by : Entry O → Option ℕ
  add_leaver_by (Made step object reply) = add_leaver step reply
  add_leaver_by _ = None

  entry_moves : (e : Entry O) (d d' : State O) → IsOrderly d → Steps d e d'
      → Moves (come_by e) (gone_by e) (get_leaver_by e) (add_leaver_by e) d d'
  entry_moves (Made step object reply) d d' s h = moves d s step object reply d' h
  entry_moves (Owner step reply) d d' s h = owner_moves d s step reply d' h

  -- those that were told are in neither
  orderly_of : (m : State O) → IsOrderly (silent m) → IsOrderly m
  orderly_of m s = record { gets = s.gets; adds = s.adds; objects = s.objects; room = s.room }

  silent_moves : (e : Entry O) (m m' : State O) → IsOrderly (silent m) → Steps m e m'
      → Moves (come_by e) (gone_by e) (get_leaver_by e) (add_leaver_by e) (silent m) (silent m')
  silent_moves e m m' s h =
      let made = entry_moves e m m' (orderly_of m s) h in
      record { gets = made.gets; adds = made.adds; objects = made.objects; room = made.room; had = made.had }

  step_moves : (e : Entry O) (d d' : State O) → IsOrderly d → IsStep d e d'
      → Moves (come_by e) (gone_by e) (get_leaver_by e) (add_leaver_by e) d d'
  step_moves e d d' s h =
      rw (h.1.1.1, h.1.1.2) (silent_moves e h.0 h.1.0 (rw h.1.1.1 at s) h.1.1.0)

  -- one that waits, and does not give up, is not the one that leaves
  module _ (t : ℕ) (d d' : State O) (s : IsOrderly d) (opens : d.is_open ≡ true) where
    other_get : (step : Step) (object : Option O) (reply : Reply) → Waits t d.gets → get_gives_up t step ≡ false
        → Does d step object reply d' → IsOther (get_leaver step reply) t
    other_get (GetAsk ticket expired) None Unknown waits stays h = tt
    other_get (GetAsk ticket expired) None (Waiting again) waits stays h = tt
    other_get (GetAsk ticket expired) None Closed waits stays h =
        granted_is_other t ticket d.gets s.gets.once waits (h.1 opens).0
    other_get (GetAsk ticket expired) None Expired waits stays h = rw h.3 at stays
    other_get (GetAsk ticket expired) (Some value) Object waits stays h =
        granted_is_other t ticket d.gets s.gets.once waits h.1
    other_get (GetAsk ticket expired) _ _ waits stays h = absurd h
    other_get (GetCancel ticket) None Done waits stays h = stays
    other_get (GetCancel ticket) None Unknown waits stays h = tt
    other_get (GetCancel ticket) _ _ waits stays h = absurd h
    other_get _ object reply waits stays h = tt

    other_add : (step : Step) (object : Option O) (reply : Reply) → Waits t d.adds → add_gives_up t step ≡ false
        → Does d step object reply d' → IsOther (add_leaver step reply) t
    other_add (AddAsk ticket) (Some value) Unknown waits stays h = tt
    other_add (AddAsk ticket) (Some value) (Waiting again) waits stays h = tt
    other_add (AddAsk ticket) (Some value) Closed waits stays h = let shut = h.0 in absurd cc
    other_add (AddAsk ticket) (Some value) Stored waits stays h =
        granted_is_other t ticket d.adds s.adds.once waits h.1
    other_add (AddAsk ticket) _ _ waits stays h = absurd h
    other_add (AddCancel ticket) None Done waits stays h = stays
    other_add (AddCancel ticket) None Unknown waits stays h = tt
    other_add (AddCancel ticket) _ _ waits stays h = absurd h
    other_add _ object reply waits stays h = tt

    entry_other_get : (e : Entry O) → Waits t d.gets → get_gives_up_by t e ≡ false → Steps d e d'
        → IsOther (get_leaver_by e) t
    entry_other_get (Made step object reply) waits stays h = other_get step object reply waits stays h
    entry_other_get (Owner step reply) waits stays h = tt

    entry_other_add : (e : Entry O) → Waits t d.adds → add_gives_up_by t e ≡ false → Steps d e d'
        → IsOther (add_leaver_by e) t
    entry_other_add (Made step object reply) waits stays h = other_add step object reply waits stays h
    entry_other_add (Owner step reply) waits stays h = tt

  step_other_get : (t : ℕ) (e : Entry O) (d d' : State O) → IsOrderly d → d.is_open ≡ true → Waits t d.gets
      → get_gives_up_by t e ≡ false → IsStep d e d' → IsOther (get_leaver_by e) t
  step_other_get t e d d' s opens waits stays h =
      let is = h.1.1.1 in
      entry_other_get t h.0 h.1.0 (orderly_of h.0 (rw is at s)) (rw is at opens) e (rw is at waits) stays h.1.1.0

  step_other_add : (t : ℕ) (e : Entry O) (d d' : State O) → IsOrderly d → d.is_open ≡ true → Waits t d.adds
      → add_gives_up_by t e ≡ false → IsStep d e d' → IsOther (add_leaver_by e) t
  step_other_add t e d d' s opens waits stays h =
      let is = h.1.1.1 in
      entry_other_add t h.0 h.1.0 (orderly_of h.0 (rw is at s)) (rw is at opens) e (rw is at waits) stays h.1.1.0

  get_stays_or_named : (t : ℕ) (e : Entry O) → (get_named_by e ≡ Some t) ⊎ IsOther (get_leaver_by e) t
  get_stays_or_named t (Made step object reply) = get_named_or_other t step reply
  get_stays_or_named t (Owner step reply) = inr tt

  add_stays_or_named : (t : ℕ) (e : Entry O) → (add_named_by e ≡ Some t) ⊎ IsOther (add_leaver_by e) t
  add_stays_or_named t (Made step object reply) = add_named_or_other t step reply
  add_stays_or_named t (Owner step reply) = inr tt

-- what follows of each entry
module _ {O : Type 0} (e : Entry O) (d d' : State O) (s : IsOrderly d) (h : IsStep d e d') where
  made : Moves (come_by e) (gone_by e) (get_leaver_by e) (add_leaver_by e) d d'
  made = step_moves e d d' s h

  pub orderly : IsOrderly d'
  orderly = record {
    gets = passes_served (InUse d') (come_by e) (get_leaver_by e) (length d.idle) 0 d.gets d'.is_open (length d'.idle) 0
        d'.gets made.gets (free_objects d') (omega arith);
    adds = passes_served ⊤ (gone_by e) (add_leaver_by e) d.limit (size d) d.adds d'.is_open d'.limit (size d') d'.adds
        made.adds (free_room d') (omega arith);
    objects = made.objects;
    room = made.room;
  }

  pub in_order : KeepsQueues d d'
  in_order = record {
    gets = passes_order (InUse d') (come_by e) (get_leaver_by e) (length d.idle) 0 d.gets d'.is_open (length d'.idle) 0
        d'.gets made.gets;
    adds = passes_order ⊤ (gone_by e) (add_leaver_by e) d.limit (size d) d.adds d'.is_open d'.limit (size d') d'.adds
        made.adds;
  }

  pub get_queued : (t : ℕ) → IsQueued t d.gets → IsQueued t d'.gets ⊎ (get_named_by e ≡ Some t)
  get_queued t has = elim (get_stays_or_named t e) [
    | inl named ↦ inr named
    | inr other ↦
        inl (passes_queued (InUse d') (come_by e) (get_leaver_by e) (length d.idle) 0 d.gets d'.is_open
        (length d'.idle) 0 d'.gets made.gets t other has)
  ]

  pub add_queued : (t : ℕ) → IsQueued t d.adds → IsQueued t d'.adds ⊎ (add_named_by e ≡ Some t)
  add_queued t has = elim (add_stays_or_named t e) [
    | inl named ↦ inr named
    | inr other ↦
        inl (passes_queued ⊤ (gone_by e) (add_leaver_by e) d.limit (size d) d.adds d'.is_open d'.limit (size d')
        d'.adds made.adds t other has)
  ]

  pub get_granted : (t : ℕ) → IsGranted t d.gets → IsGranted t d'.gets ⊎ (get_named_by e ≡ Some t)
  get_granted t has = elim (get_stays_or_named t e) [
    | inl named ↦ inr named
    | inr other ↦
        inl (passes_granted (InUse d') (come_by e) (get_leaver_by e) (length d.idle) 0 d.gets d'.is_open
        (length d'.idle) 0 d'.gets made.gets t other has)
  ]

  pub add_granted : (t : ℕ) → IsGranted t d.adds → IsGranted t d'.adds ⊎ (add_named_by e ≡ Some t)
  add_granted t has = elim (add_stays_or_named t e) [
    | inl named ↦ inr named
    | inr other ↦
        inl (passes_granted ⊤ (gone_by e) (add_leaver_by e) d.limit (size d) d.adds d'.is_open d'.limit (size d')
        d'.adds made.adds t other has)
  ]

  pub get_nears : (t : ℕ) → d.is_open ≡ true → 0 < d.handles → InUse d' → get_gives_up_by t e ≡ false
      → Waits t d.gets → Nears t (come_by e) d.gets d'.gets
  get_nears t opens handles in_use stays waits =
      let promised = s.objects opens handles in
      let promised' = made.objects in_use.0 in_use.1 in
      elim (passes_nears (InUse d') (come_by e) (get_leaver_by e) (length d.idle) 0 d.gets d'.is_open (length d'.idle) 0
      d'.gets made.gets in_use d.is_open (free_objects d) t (omega arith) s.gets.nobody_waits opens in_use.0
      (step_other_get t e d d' s opens waits stays h) waits) [
        | inl near ↦ inl (near.0, omega (arith, near.1, promised, promised'))
        | inr granted ↦ inr granted
      ]

  pub add_nears : (t : ℕ) → d.is_open ≡ true → d'.is_open ≡ true → add_gives_up_by t e ≡ false → Waits t d.adds
      → Nears t (gone_by e) d.adds d'.adds
  add_nears t opens opens' stays waits =
      let fits = s.room in
      let fits' = made.room in
      elim (passes_nears ⊤ (gone_by e) (add_leaver_by e) d.limit (size d) d.adds d'.is_open d'.limit (size d') d'.adds
      made.adds tt d.is_open (free_room d) t (omega arith) s.adds.nobody_waits opens opens'
      (step_other_add t e d d' s opens waits stays h) waits) [
        | inl near ↦ inl (near.0, omega (arith, near.1, fits, fits'))
        | inr granted ↦ inr granted
      ]
