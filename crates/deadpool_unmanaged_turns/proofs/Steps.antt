-- Each step, by what it makes of both queues, of the objects and of the room.
use Rattle.std.proofs.Common.{◌≡◌, ℕ, ◌+◌, ◌-◌, ◌<◌, ◌≤◌, List, [], ◌∷◌, Bool, true, false, length, refl, ap}
use Rattle.std.proofs.Common.{arith, inl, inr, ◌⊎◌, Option, Some, None, length-append, length-take}
use Rattle.std.specs.Prelude.{◌==◌, ⊤, if◌then◌else◌}
use Rattle.deadpool_gate.specs.Numbers.{has_number, without_number, most_handles}
use Rattle.deadpool_gate.specs.Queue.{is_listed, without}
use Rattle.deadpool_gate.specs.Served.{NobodyWaits}
use Rattle.deadpool_gate.proofs.Numbers.{without_number-fewer}
use Rattle.deadpool_gate.proofs.Numbers.{without_number-shorter}
use Rattle.deadpool_gate.proofs.Queues.{served_within}
use Rattle.deadpool_unmanaged.specs.State.{State, free_objects, free_room, last_idle, settled, size}
use Rattle.deadpool_unmanaged.specs.StateSteps.{Does, closed_pool, handed, stored, with_add, with_get}
use Rattle.deadpool_unmanaged.specs.StateSteps.{without_add, without_get}
use Rattle.deadpool_unmanaged.specs.declared.step.Reply.{Reply}
use Rattle.deadpool_unmanaged.specs.declared.step.Reply.TheVariants.{Object, Stored, Closed, Full, Waiting, OutOfMemory}
use Rattle.deadpool_unmanaged.specs.declared.step.Reply.TheVariants.{Crowded, Expired, Done, Kept, Dropped, Taken}
use Rattle.deadpool_unmanaged.specs.declared.step.Reply.TheVariants.{Unknown}
use Rattle.deadpool_unmanaged.specs.declared.step.Step.{Step}
use Rattle.deadpool_unmanaged.specs.declared.step.Step.TheVariants.{GetEnter, GetAsk, GetCancel, AddEnter, AddAsk}
use Rattle.deadpool_unmanaged.specs.declared.step.Step.TheVariants.{AddCancel, Back, Take}
use Rattle.deadpool_unmanaged_journal.specs.OwnerSteps.{DoesForOwner}
use Rattle.deadpool_unmanaged_journal.specs.declared.owner_step.OwnerReply.{OwnerReply}
use Rattle.deadpool_unmanaged_journal.specs.declared.owner_step.OwnerReply.TheVariants as owner_reply
use Rattle.deadpool_unmanaged_journal.specs.declared.owner_step.OwnerStep.{OwnerStep}
use Rattle.deadpool_unmanaged_journal.specs.declared.owner_step.OwnerStep.TheVariants as owner
use Rattle.deadpool_turns.proofs.Changes.{Changes, one_joins, one_leaves, unchanged}
use Rattle.deadpool_turns.proofs.Passing.{Passes, none_free}
use Rattle.deadpool_unmanaged_turns.specs.Steps.{come, gone}
use Rattle.deadpool_unmanaged_turns.specs.Turns.{IsOrderly, Waits}

-- who leaves the queue of the gets by a step, or that of the adds
abbrev pub get_leaver : Step → Reply → Option ℕ
get_leaver (GetAsk ticket expired) Unknown = None
get_leaver (GetAsk ticket expired) (Waiting same) = None
get_leaver (GetAsk ticket expired) _ = Some ticket
get_leaver (GetCancel ticket) Done = Some ticket
get_leaver _ _ = None

abbrev pub add_leaver : Step → Reply → Option ℕ
add_leaver (AddAsk ticket) Unknown = None
add_leaver (AddAsk ticket) (Waiting same) = None
add_leaver (AddAsk ticket) _ = Some ticket
add_leaver (AddCancel ticket) Done = Some ticket
add_leaver _ _ = None

module _ {O : Type 0} where
  abbrev pub InUse : State O → Type 0
  InUse d = (d.is_open ≡ true) × (0 < d.handles)

  -- A step by which one get may leave, or one add. So many objects come in, and so many leave the pool.
  pub record Moves (coming going : ℕ) (get add : Option ℕ) (d d' : State O) : Type 0 where
    pub gets : Passes (InUse d') coming get (length d.idle) 0 d.gets d'.is_open (length d'.idle) 0 d'.gets
    pub adds : Passes ⊤ going add d.limit (size d) d.adds d'.is_open d'.limit (size d') d'.adds
    pub objects : d'.is_open ≡ true → 0 < d'.handles → length d'.gets.granted ≤ length d'.idle
    pub room : size d' + length d'.adds.granted ≤ d'.limit
    pub had : 0 < d'.handles → 0 < d.handles

  -- what is free is granted then, or nobody waits for it
  abbrev pub Lands : State O → State O → Type 0
  Lands e d' = (d' ≡ settled e)
      ⊎ ((d' ≡ e) × NobodyWaits e.is_open (free_objects e) e.gets × NobodyWaits e.is_open (free_room e) e.adds)

  some_idle : (idle : List O) (value : O) → last_idle idle ≡ Some value → 0 < length idle
  some_idle [] value is = cc
  some_idle (x ∷ xs) value is = omega arith

module _ {O : Type 0} (d : State O) (s : IsOrderly d) where
  -- what a step makes of each queue, before what is free is granted
  abbrev GetsChange : ℕ → Option ℕ → State O → Type 0
  GetsChange coming get e = Changes (InUse e) coming get (0 + length e.idle) (0 + length d.idle) d.gets e.gets

  abbrev AddsChange : ℕ → Option ℕ → State O → Type 0
  AddsChange going add e = Changes ⊤ going add (size d + e.limit) (size e + d.limit) d.adds e.adds

  -- and what of the objects and the room
  record Owed (e : State O) : Type 0 where
    objects : e.is_open ≡ true → 0 < e.handles → length e.gets.granted ≤ length e.idle
    room : size e + length e.adds.granted ≤ e.limit
    had : 0 < e.handles → 0 < d.handles

  arrives : (coming going : ℕ) (get add : Option ℕ) (e d' : State O) → Lands e d' → GetsChange coming get e
      → AddsChange going add e → Owed e → Moves coming going get add d d'
  arrives coming going get add e d' lands gets adds owed =
      elim lands [
        | inl is ↦
            rw is (record {
              gets = record {
                through = e.gets;
                changes = gets;
                free = free_objects e;
                is_free = omega arith;
                lands = inl refl;
              };
              adds = record {
                through = e.adds;
                changes = adds;
                free = free_room e;
                is_free = omega arith;
                lands = inl refl;
              };
              objects = λ opens some. served_within e.is_open (length e.idle) e.gets (owed.objects opens some);
              room =
                  let fits = owed.room in
                  let granted = served_within e.is_open (e.limit - size e) e.adds (omega (arith, fits)) in
                  omega (arith, granted, fits);
              had = owed.had;
            })
        | inr is ↦
            rw is.0 (record {
              gets = record {
                through = e.gets;
                changes = gets;
                free = free_objects e;
                is_free = omega arith;
                lands = inr (refl, is.1);
              };
              adds = record {
                through = e.adds;
                changes = adds;
                free = free_room e;
                is_free = omega arith;
                lands = inr (refl, is.2);
              };
              objects = owed.objects;
              room = owed.room;
              had = owed.had;
            })
      ]

  -- none waits while an object, or room, is free
  no_get_waits : (t : ℕ) → d.is_open ≡ true → 0 < free_objects d → Waits t d.gets → ⊥
  no_get_waits t opens free waits =
      let none = none_free d.is_open (free_objects d) t d.gets opens s.gets.nobody_waits waits in
      omega (arith, none, free)

  no_add_waits : (t : ℕ) → d.is_open ≡ true → 0 < free_room d → Waits t d.adds → ⊥
  no_add_waits t opens free waits =
      let none = none_free d.is_open (free_room d) t d.adds opens s.adds.nobody_waits waits in
      omega (arith, none, free)

  -- the gets' queue is the same, and so many more are idle
  gets_same : (coming : ℕ) (e : State O) → e.gets ≡ d.gets
      → (InUse e → (t : ℕ) → Waits t d.gets → length d.idle + coming ≤ length e.idle) → GetsChange coming None e
  gets_same coming e same more =
      rw same (unchanged (InUse e) coming (0 + length e.idle) (0 + length d.idle) d.gets s.gets.once
      (λ calm t waits. let few = more calm t waits in omega (arith, few)))

  get_leaves : (ticket : ℕ) (e : State O) → e.gets ≡ without ticket d.gets
      → (InUse e
      → length (without_number ticket d.gets.granted) + length d.idle ≤ length d.gets.granted + length e.idle)
      → GetsChange 0 (Some ticket) e
  get_leaves ticket e is few =
      rw is (one_leaves (InUse e) 0 (0 + length e.idle) (0 + length d.idle) d.gets s.gets.once ticket
      (λ calm. let fewer = few calm in omega (arith, fewer)))

  -- the adds' queue is the same, and so many objects fewer are there
  adds_same : (going : ℕ) (e : State O) → e.adds ≡ d.adds → e.limit ≡ d.limit
      → ((t : ℕ) → Waits t d.adds → size e + going ≤ size d) → AddsChange going None e
  adds_same going e same limit fewer =
      rw same (unchanged ⊤ going (size d + e.limit) (size e + d.limit) d.adds s.adds.once
      (λ calm t waits. let few = fewer t waits in omega (arith, few, limit)))

  add_leaves : (ticket : ℕ) (e : State O) → e.adds ≡ without ticket d.adds → e.limit ≡ d.limit
      → length (without_number ticket d.adds.granted) + size e ≤ length d.adds.granted + size d
      → AddsChange 0 (Some ticket) e
  add_leaves ticket e is limit few =
      rw is (one_leaves ⊤ 0 (size d + e.limit) (size e + d.limit) d.adds s.adds.once ticket
      (λ calm. omega (arith, few, limit)))

  -- nothing changes but the handles
  handles_change : (left : ℕ) (d' : State O) → d' ≡ record d { handles = left } → (0 < left → 0 < d.handles)
      → Moves 0 0 None None d d'
  handles_change left d' is had =
      arrives 0 0 None None (record d { handles = left }) d'
      (inr (is, s.gets.nobody_waits, s.adds.nobody_waits))
      (gets_same 0 (record d { handles = left }) refl (λ calm t waits. omega arith))
      (adds_same 0 (record d { handles = left }) refl refl (λ t waits. omega arith))
      (record { objects = λ opens some. s.objects opens (had some); room = s.room; had = had })

  same : (d' : State O) → d' ≡ d → Moves 0 0 None None d d'
  same d' is = handles_change d.handles d' is (λ some. some)

  -- a get takes an object that is free
  takes_free : (value : O) (d' : State O) → d.is_open ≡ true → 0 < free_objects d → last_idle d.idle ≡ Some value
      → d' ≡ settled (handed d) → Moves 0 0 None None d d'
  takes_free value d' opens free next is =
      let some = some_idle d.idle value next in
      let rest = length-take (length d.idle - 1) d.idle in
      arrives 0 0 None None (handed d) d' (inl is)
      (gets_same 0 (handed d) refl (λ calm t waits. absurd (no_get_waits t opens free waits)))
      (adds_same 0 (handed d) refl refl (λ t waits. omega (arith, rest, some)))
      (record {
        objects = λ opened handles. omega (arith, free, rest);
        room = let fits = s.room in omega (arith, fits, rest, some);
        had = λ handles. handles;
      })

  -- or joins the queue, if none is
  get_joins : (ticket : ℕ) (d' : State O) → free_objects d ≡ 0 → is_listed ticket d.gets ≡ false
      → d' ≡ with_get ticket d → Moves 0 0 None None d d'
  get_joins ticket d' none fresh is =
      arrives 0 0 None None (with_get ticket d) d'
      (inr (is, (λ opens some. absurd (omega (arith, some, none))), s.adds.nobody_waits))
      (one_joins (InUse d) 0 (0 + length d.idle) (0 + length d.idle) d.gets s.gets.once ticket fresh
      (λ calm. omega arith))
      (adds_same 0 (with_get ticket d) refl refl (λ t waits. omega arith))
      (record { objects = s.objects; room = s.room; had = λ handles. handles })

  -- One in the queue takes an object that it was granted.
  takes_granted : (ticket : ℕ) (value : O) (d' : State O) → has_number ticket d.gets.granted ≡ true
      → last_idle d.idle ≡ Some value → d' ≡ settled (handed (without_get ticket d))
      → Moves 0 0 (Some ticket) None d d'
  takes_granted ticket value d' has next is =
      let some = some_idle d.idle value next in
      let rest = length-take (length d.idle - 1) d.idle in
      let fewer = without_number-fewer ticket d.gets.granted has in
      arrives 0 0 (Some ticket) None (handed (without_get ticket d)) d' (inl is)
      (get_leaves ticket (handed (without_get ticket d)) refl (λ calm. omega (arith, fewer, rest)))
      (adds_same 0 (handed (without_get ticket d)) refl refl (λ t waits. omega (arith, rest, some)))
      (record {
        objects = λ opens handles. let all = s.objects opens handles in omega (arith, all, fewer, rest);
        room = let fits = s.room in omega (arith, fits, rest, some);
        had = λ handles. handles;
      })

  -- or leaves it, and what it was granted is free
  get_goes : (ticket : ℕ) (d' : State O) → Lands (without_get ticket d) d' → Moves 0 0 (Some ticket) None d d'
  get_goes ticket d' lands =
      let fewer = without_number-shorter ticket d.gets.granted in
      arrives 0 0 (Some ticket) None (without_get ticket d) d' lands
      (get_leaves ticket (without_get ticket d) refl (λ calm. omega (arith, fewer)))
      (adds_same 0 (without_get ticket d) refl refl (λ t waits. omega arith))
      (record {
        objects = λ opens handles. let all = s.objects opens handles in omega (arith, all, fewer);
        room = s.room;
        had = λ handles. handles;
      })

  -- an object comes in for which there is room
  stores_free : (value : O) (d' : State O) → d.is_open ≡ true → 0 < free_room d → d' ≡ settled (stored value d)
      → Moves 1 0 None None d d'
  stores_free value d' opens free is =
      let more = length-append d.idle (value ∷ []) in
      arrives 1 0 None None (stored value d) d' (inl is)
      (gets_same 1 (stored value d) refl (λ calm t waits. omega (arith, more)))
      (adds_same 0 (stored value d) refl refl (λ t waits. absurd (no_add_waits t opens free waits)))
      (record {
        objects = λ opened handles. let all = s.objects opened handles in omega (arith, all, more);
        room = omega (arith, free, more);
        had = λ handles. handles;
      })

  -- or its add joins the queue
  add_joins : (ticket : ℕ) (d' : State O) → free_room d ≡ 0 → is_listed ticket d.adds ≡ false
      → d' ≡ with_add ticket d → Moves 0 0 None None d d'
  add_joins ticket d' none fresh is =
      arrives 0 0 None None (with_add ticket d) d'
      (inr (is, s.gets.nobody_waits, (λ opens some. absurd (omega (arith, some, none)))))
      (gets_same 0 (with_add ticket d) refl (λ calm t waits. omega arith))
      (one_joins ⊤ 0 (size d + d.limit) (size d + d.limit) d.adds s.adds.once ticket fresh (λ calm. omega arith))
      (record { objects = s.objects; room = s.room; had = λ handles. handles })

  -- An add stores its object where it was granted room.
  stores_granted : (ticket : ℕ) (value : O) (d' : State O) → has_number ticket d.adds.granted ≡ true
      → d' ≡ settled (stored value (without_add ticket d)) → Moves 1 0 None (Some ticket) d d'
  stores_granted ticket value d' has is =
      let more = length-append d.idle (value ∷ []) in
      let fewer = without_number-fewer ticket d.adds.granted has in
      arrives 1 0 None (Some ticket) (stored value (without_add ticket d)) d' (inl is)
      (gets_same 1 (stored value (without_add ticket d)) refl (λ calm t waits. omega (arith, more)))
      (add_leaves ticket (stored value (without_add ticket d)) refl refl (omega (arith, fewer, more)))
      (record {
        objects = λ opens handles. let all = s.objects opens handles in omega (arith, all, more);
        room = let fits = s.room in omega (arith, fits, fewer, more);
        had = λ handles. handles;
      })

  -- or leaves the queue
  add_goes : (ticket : ℕ) (d' : State O) → Lands (without_add ticket d) d' → Moves 0 0 None (Some ticket) d d'
  add_goes ticket d' lands =
      let fewer = without_number-shorter ticket d.adds.granted in
      arrives 0 0 None (Some ticket) (without_add ticket d) d' lands
      (gets_same 0 (without_add ticket d) refl (λ calm t waits. omega arith))
      (add_leaves ticket (without_add ticket d) refl refl (omega (arith, fewer)))
      (record {
        objects = s.objects;
        room = let fits = s.room in omega (arith, fits, fewer);
        had = λ handles. handles;
      })

  -- an object that was out comes back and is kept
  comes_back : (value : O) (d' : State O) → 0 < d.outside
      → d' ≡ settled (stored value (record d { outside = d.outside - 1 })) → Moves 1 0 None None d d'
  comes_back value d' some is =
      let e = stored value (record d { outside = d.outside - 1 }) in
      let more = length-append d.idle (value ∷ []) in
      arrives 1 0 None None e d' (inl is)
      (gets_same 1 e refl (λ calm t waits. omega (arith, more)))
      (adds_same 0 e refl refl (λ t waits. omega (arith, more, some)))
      (record {
        objects = λ opens handles. let all = s.objects opens handles in omega (arith, all, more);
        room = let fits = s.room in omega (arith, fits, more, some);
        had = λ handles. handles;
      })

  -- or leaves the pool
  leaves_pool : (d' : State O) → 0 < d.outside → d' ≡ settled (record d { outside = d.outside - 1 })
      → Moves 0 1 None None d d'
  leaves_pool d' some is =
      let e = record d { outside = d.outside - 1 } in
      arrives 0 1 None None e d' (inl is)
      (gets_same 0 e refl (λ calm t waits. omega arith))
      (adds_same 1 e refl refl (λ t waits. omega (arith, some)))
      (record {
        objects = s.objects;
        room = let fits = s.room in omega (arith, fits);
        had = λ handles. handles;
      })

  -- each step of a get, an add or an object
  pub moves : (step : Step) (object : Option O) (reply : Reply) (d' : State O) → Does d step object reply d'
      → Moves (come step reply) (gone step reply) (get_leaver step reply) (add_leaver step reply) d d'
  moves (GetEnter wait) None Closed d' h = same d' h.1
  moves (GetEnter wait) (Some value) Object d' h = takes_free value d' h.0 h.1 h.2 h.3
  moves (GetEnter wait) None Full d' h = same d' h.3
  moves (GetEnter wait) None Crowded d' h = same d' h.4
  moves (GetEnter wait) None (Waiting ticket) d' h = get_joins ticket d' h.1 h.4 h.5
  moves (GetEnter wait) None OutOfMemory d' h = same d' h.4
  moves (GetAsk ticket expired) None Unknown d' h = same d' h.1
  moves (GetAsk ticket expired) None Closed d' h =
      get_goes ticket d' (inr (
        h.2,
        (λ opens some.
            let none : length d.idle ≡ 0 = ap length (h.1 opens).1 in absurd (omega (arith, none, some))),
        s.adds.nobody_waits,
      ))
  moves (GetAsk ticket expired) (Some value) Object d' h = takes_granted ticket value d' h.1 h.2 h.3
  moves (GetAsk ticket expired) None Expired d' h = get_goes ticket d' (inl h.4)
  moves (GetAsk ticket expired) None (Waiting again) d' h = same d' h.5
  moves (GetCancel ticket) None Unknown d' h = same d' h.1
  moves (GetCancel ticket) None Done d' h = get_goes ticket d' (inl h.1)
  moves (AddEnter wait) (Some value) Closed d' h = same d' h.1
  moves (AddEnter wait) (Some value) Stored d' h = stores_free value d' h.0 h.1 h.2
  moves (AddEnter wait) (Some value) Full d' h = same d' h.3
  moves (AddEnter wait) (Some value) Crowded d' h = same d' h.4
  moves (AddEnter wait) (Some value) (Waiting ticket) d' h = add_joins ticket d' h.1 h.4 h.5
  moves (AddEnter wait) (Some value) OutOfMemory d' h = same d' h.4
  moves (AddAsk ticket) (Some value) Unknown d' h = same d' h.1
  moves (AddAsk ticket) (Some value) Closed d' h =
      add_goes ticket d' (inr (h.2, s.gets.nobody_waits, (λ opens some. let shut = h.0 in absurd cc)))
  moves (AddAsk ticket) (Some value) Stored d' h = stores_granted ticket value d' h.1 h.2
  moves (AddAsk ticket) (Some value) (Waiting again) d' h = same d' h.4
  moves (AddCancel ticket) None Unknown d' h = same d' h.1
  moves (AddCancel ticket) None Done d' h = add_goes ticket d' (inl h.1)
  moves Back (Some value) Unknown d' h = same d' h.1
  moves Back (Some value) Dropped d' h = leaves_pool d' h.0 h.2
  moves Back (Some value) Kept d' h = comes_back value d' h.0 h.3
  moves Take None Unknown d' h = same d' h.1
  moves Take None Taken d' h = leaves_pool d' h.0 h.1
  moves _ _ _ d' h = absurd h

  -- one handle less, with the last nothing stays idle
  handle_goes : (last : Bool) (left : ℕ) (d' : State O) → 0 < d.handles
      → d' ≡ (if last then settled (record d { handles = 0; idle = [] }) else record d { handles = left })
      → Moves 0 0 None None d d'
  handle_goes true left d' some is =
      let e : State O = record d { handles = 0; idle = [] } in
      arrives 0 0 None None e d' (inl is)
      (gets_same 0 e refl (λ calm t waits. absurd (let none = calm.1 in omega (arith, none))))
      (adds_same 0 e refl refl (λ t waits. omega arith))
      (record {
        objects = λ opens handles. absurd (omega (arith, handles));
        room = let fits = s.room in omega (arith, fits);
        had = λ handles. some;
      })
  handle_goes false left d' some is = handles_change left d' is (λ more. some)

  -- each step of the owner
  pub owner_moves : (step : OwnerStep) (reply : OwnerReply) (d' : State O) → DoesForOwner d step reply d'
      → Moves 0 0 None None d d'
  owner_moves owner.Status (owner_reply.Stands status) d' h = same d' h.1
  owner_moves owner.Close owner_reply.Done d' h =
      arrives 0 0 None None (closed_pool d) d' (inr (h, (λ opens some. cc), (λ opens some. cc)))
      (gets_same 0 (closed_pool d) refl (λ calm t waits. absurd (let opens = calm.0 in cc)))
      (adds_same 0 (closed_pool d) refl refl (λ t waits. omega arith))
      (record {
        objects = λ opens handles. absurd cc;
        room = let fits = s.room in omega (arith, fits);
        had = λ handles. handles;
      })
  owner_moves owner.CloneHandle owner_reply.Done d' h = handles_change _ d' h.1 (λ more. h.0)
  owner_moves owner.CloneHandle owner_reply.NoHandle d' h = same d' h.1
  owner_moves owner.DropHandle owner_reply.Done d' h =
      handle_goes _ (if d.handles == most_handles then most_handles else d.handles - 1) d' h.0 h.1
  owner_moves owner.DropHandle owner_reply.NoHandle d' h = same d' h.1
  owner_moves owner.Upgrade owner_reply.Done d' h = handles_change _ d' h.1 (λ more. h.0)
  owner_moves owner.Upgrade owner_reply.NoHandle d' h = same d' h.1
  owner_moves _ _ d' h = absurd h
