-- Tries, objects that come back or leave, and the owner's steps.
use Rattle.deadpool_trial.proofs.OfUnmanaged.Basics.{◌≡◌, ◌≢◌, ℕ, ◌+◌, ◌-◌, ◌<◌, List}
use Rattle.deadpool_trial.proofs.OfUnmanaged.Basics.{[], Bool, true, false, eqb, ◌==◌}
use Rattle.deadpool_trial.proofs.OfUnmanaged.Basics.{◌&&◌, nat_lt, length, refl, ◌∙◌, arith, inl, inr, Option, Some}
use Rattle.deadpool_trial.proofs.OfUnmanaged.Basics.{None, if◌then◌else◌, cases_Bool, lt-ltb, le-ltb, nat_tests}
use Rattle.deadpool_trial.proofs.OfUnmanaged.Basics.{length-map, largest_usize, most_handles, Status, Runtime, owner}
use Rattle.deadpool_trial.proofs.OfUnmanaged.Basics.{HandleReply}
use Rattle.deadpool_trial.proofs.OfUnmanaged.Words.{image, has_get, TrialInvariant, RunInvariant}
use Rattle.deadpool_trial.proofs.OfUnmanaged.Words.{unsettled, Pool, free_objects}
use Rattle.deadpool_trial.proofs.OfUnmanaged.Words.{free_room, status_of as pool_status, State}
use Rattle.deadpool_trial.proofs.OfUnmanaged.Words.{settled, Does, GetEnter}
use Rattle.deadpool_trial.proofs.OfUnmanaged.Words.{AddEnter, Back, Take, LeavesHand, Clones, DropsHandle, Upgrades}
use Rattle.deadpool_trial.proofs.OfUnmanaged.Words.{handed, stored, closed_pool, one_handle_more, find_item, with_item}
use Rattle.deadpool_trial.proofs.OfUnmanaged.Words.{without_item, hand_out, IsAtOnce, IsRefusal, IsKnown, refusal_of}
use Rattle.deadpool_trial.proofs.OfUnmanaged.Words.{reply_to_try_add, reply_to_back, reply_to_handle, Timeout, Closed}
use Rattle.deadpool_trial.proofs.OfUnmanaged.Words.{Item, Move, Reply, Visitor, CoreReply, state_status as status_of}
use Rattle.deadpool_trial.proofs.OfUnmanaged.{Follows.Follows, Follows.by_settling, Follows.by_resting}
use Rattle.deadpool_trial.proofs.OfUnmanaged.{Lawful.length-without_item, Visitors.objects-image, Visitors.room-image}
use Rattle.deadpool_trial.proofs.OfUnmanaged.{Visitors.hands_out, Visitors.counted-handed}

-- a number is not zero if it is above
above_zero : (n : ℕ) → 0 < n → eqb n 0 ≡ false
above_zero n some = grind (arith, nat_tests)

is_zero : (n : ℕ) → n ≡ 0 → eqb n 0 ≡ true
is_zero n none = grind (arith, nat_tests)

module _ {V : Type 0} (runtime : Option Runtime) (most next : ℕ) (d : State (Item V))
    (visitors : List (Option (Visitor V))) (out : List (Item V)) (k : TrialInvariant d visitors out)
    (well : RunInvariant (image runtime most next d visitors out)) where
  abbrev pool : Pool V
  pool = image runtime most next d visitors out

  -- a step leaves this core, and these objects out
  abbrev Leaves : Move V → Reply V → ℕ → State (Item V) → List (Item V) → Type 0
  Leaves m answer later d' out' = Follows m pool answer d' visitors out' (image runtime most later d' visitors out')

  -- the core is as it was
  same : (m : Move V) (answer : Reply V) (d' : State (Item V)) → d' ≡ d → unsettled true m pool ≡ (answer, pool)
      → Leaves m answer next d' out
  same m answer d' is makes =
      by_resting m pool well answer runtime most next d visitors out k true makes d' is well.lawful.nobody_waits

  -- ---- tries

  module _ (some : eqb d.handles 0 ≡ false) (d' : State (Item V)) where
    pub tried_get : (item : Item V) (r : CoreReply) → Does d (GetEnter false) (Some item) r d'
        → Leaves Move.TryGet (Reply.Object item.number) next d' (with_item item out)
    tried_get item CoreReply.Object e =
        let free : nat_lt 0 (free_objects pool) ≡ true =
        lt-ltb 0 (free_objects pool) (omega (arith, e.1, objects-image runtime most next d visitors out)) in
        let takes : unsettled true Move.TryGet pool ≡ hand_out pool = rw (some, e.0, free) refl in
        by_settling Move.TryGet pool well (Reply.Object item.number) runtime most next (handed d) visitors
        (with_item item out) (counted-handed runtime most next d visitors out item k) true
        (takes ∙ hands_out runtime most next d visitors out item pool refl e.2) d' e.3
    tried_get item _ e = absurd e

    pub get_refused : (r : CoreReply) → Does d (GetEnter false) None r d' → IsRefusal r
    get_refused CoreReply.Closed e = tt
    get_refused CoreReply.Full e = tt
    get_refused (CoreReply.Waiting ticket) e = absurd (let differ = e.2 in cc)
    get_refused CoreReply.Crowded e = absurd (let differ = e.2 in cc)
    get_refused CoreReply.OutOfMemory e = absurd (let differ = e.2 in cc)
    get_refused _ e = absurd e

    pub tried_get_refused : (r : CoreReply) → Does d (GetEnter false) None r d'
        → Leaves Move.TryGet (Reply.Failed (refusal_of r)) next d' out
    tried_get_refused CoreReply.Closed e = same Move.TryGet (Reply.Failed Closed) d' e.1 (rw (some, e.0) refl)
    tried_get_refused CoreReply.Full e =
        let none : nat_lt 0 (free_objects pool) ≡ false =
        le-ltb 0 (free_objects pool) (omega (arith, e.1, objects-image runtime most next d visitors out)) in
        same Move.TryGet (Reply.Failed Timeout) d' e.3 (rw (some, e.0, none) refl)
    tried_get_refused (CoreReply.Waiting ticket) e = absurd (let differ = e.2 in cc)
    tried_get_refused CoreReply.Crowded e = absurd (let differ = e.2 in cc)
    tried_get_refused CoreReply.OutOfMemory e = absurd (let differ = e.2 in cc)
    tried_get_refused _ e = absurd e

    module _ (v : V) (left : eqb next largest_usize ≡ false) where
      abbrev item : Item V
      item = record { number = next; value = v }

      -- the number is drawn, and the object is not taken
      refused : (answer : Reply V) → d' ≡ d → unsettled true (Move.TryAdd v) pool
          ≡ (answer, image runtime most (next + 1) d visitors out) → Leaves (Move.TryAdd v) answer (next + 1) d' out
      refused answer is makes =
          let nobody = well.lawful.nobody_waits in
          by_resting (Move.TryAdd v) pool well answer runtime most (next + 1) d visitors out k true makes d' is
          (record { objects = nobody.objects; room = nobody.room })

      pub at_once : (r : CoreReply) (hand : Option (Item V)) → Does d (AddEnter false) (Some item) r d'
          → LeavesHand r (Some item) hand → IsAtOnce r hand
      at_once CoreReply.Stored hand e left_is = rw left_is tt
      at_once CoreReply.Closed hand e left_is = rw left_is tt
      at_once CoreReply.Full hand e left_is = rw left_is tt
      at_once (CoreReply.Waiting ticket) hand e left_is = absurd (let differ = e.2 in cc)
      at_once CoreReply.Crowded hand e left_is = absurd (let differ = e.2 in cc)
      at_once CoreReply.OutOfMemory hand e left_is = absurd (let differ = e.2 in cc)
      at_once _ hand e left_is = absurd e

      pub tried_add : (r : CoreReply) (hand : Option (Item V)) → Does d (AddEnter false) (Some item) r d'
          → LeavesHand r (Some item) hand
          → Leaves (Move.TryAdd v) (reply_to_try_add next r hand) (next + 1) d' out
      tried_add CoreReply.Closed hand e left_is =
          rw left_is (refused (Reply.Refused Closed v) e.1 (rw (some, left, e.0) refl))
      tried_add CoreReply.Full hand e left_is =
          let none : nat_lt 0 (free_room pool) ≡ false =
          le-ltb 0 (free_room pool) (omega (arith, e.1, room-image runtime most next d visitors out k)) in
          rw left_is (refused (Reply.Refused Timeout v) e.3 (rw (some, left, e.0, none) refl))
      tried_add CoreReply.Stored hand e left_is =
          let free : nat_lt 0 (free_room pool) ≡ true =
          lt-ltb 0 (free_room pool) (omega (arith, e.1, room-image runtime most next d visitors out k)) in
          rw left_is
          (by_settling (Move.TryAdd v) pool well (Reply.Added next) runtime most (next + 1) (stored item d) visitors out
          (record { gets = k.gets; adds = k.adds; outside = k.outside }) true (rw (some, left, e.0, free) refl) d' e.2)
      tried_add (CoreReply.Waiting ticket) hand e left_is = absurd (let differ = e.2 in cc)
      tried_add CoreReply.Crowded hand e left_is = absurd (let differ = e.2 in cc)
      tried_add CoreReply.OutOfMemory hand e left_is = absurd (let differ = e.2 in cc)
      tried_add _ hand e left_is = absurd e

  -- ---- objects that are out

  module _ (number : ℕ) (item : Item V) (here : find_item number out ≡ Some item) (d' : State (Item V)) where
    -- there is one more object out than without it
    less : length (without_item number out) + 1 ≡ length out
    less = length-without_item number out item here

    abbrev gone : State (Item V)
    gone = record d { outside = d.outside - 1 }

    counted-gone : TrialInvariant gone visitors (without_item number out)
    counted-gone = record { gets = k.gets; adds = k.adds; outside = omega (arith, less, k.outside) }

    back_kept : Does d Back (Some item) CoreReply.Kept d'
        → Leaves (Move.Back number) Reply.Kept next d' (without_item number out)
    back_kept e =
        by_settling (Move.Back number) pool well Reply.Kept runtime most next (stored item gone) visitors
        (without_item number out)
        (record { gets = k.gets; adds = k.adds; outside = omega (arith, less, k.outside) }) true
        (rw (here, e.1, above_zero d.handles e.2) refl) d' e.3

    back_dropped : Does d Back (Some item) CoreReply.Dropped d'
        → Leaves (Move.Back number) Reply.Dropped next d' (without_item number out)
    back_dropped e =
        let makes : unsettled true (Move.Back number) pool
        ≡ (Reply.Dropped, image runtime most next gone visitors (without_item number out)) =
        elim (cases_Bool d.is_open) [
          | inr shut ↦ rw (here, shut) refl
          | inl is ↦ let none : eqb d.handles 0 ≡ true = no_handle d.handles (rw is at e.1) in rw (here, is, none) refl
        ] in
        by_settling (Move.Back number) pool well Reply.Dropped runtime most next gone visitors
        (without_item number out) counted-gone true makes d' e.2
      where
        no_handle : (n : ℕ) → (true && nat_lt 0 n) ≡ false → eqb n 0 ≡ true
        no_handle n h = grind (arith, nat_tests)

    -- the core knows of it
    not_unknown : d.outside ≢ 0
    not_unknown none = omega (arith, none, less, k.outside)

    pub known : (r : CoreReply) → Does d Back (Some item) r d' → IsKnown r
    known CoreReply.Kept e = tt
    known CoreReply.Dropped e = tt
    known CoreReply.Unknown e = absurd (not_unknown e.0)
    known _ e = absurd e

    pub came_back : (r : CoreReply) → Does d Back (Some item) r d'
        → Leaves (Move.Back number) (reply_to_back r) next d' (without_item number out)
    came_back CoreReply.Kept e = back_kept e
    came_back CoreReply.Dropped e = back_dropped e
    came_back CoreReply.Unknown e = absurd (not_unknown e.0)
    came_back _ e = absurd e

    pub take_known : (r : CoreReply) → Does d Take None r d' → r ≡ CoreReply.Taken
    take_known CoreReply.Taken e = refl
    take_known CoreReply.Unknown e = absurd (not_unknown e.0)
    take_known _ e = absurd e

    pub taken : (r : CoreReply) → Does d Take None r d'
        → Leaves (Move.Take number) (Reply.Taken item.value) next d' (without_item number out)
    taken CoreReply.Taken e =
        by_settling (Move.Take number) pool well (Reply.Taken item.value) runtime most next gone visitors
        (without_item number out) counted-gone true (rw here refl) d' e.1
    taken CoreReply.Unknown e = absurd (not_unknown e.0)
    taken _ e = absurd e

  -- ---- the owner's steps

  pub closes : eqb d.handles 0 ≡ false → (d' : State (Item V)) → d' ≡ closed_pool d
      → Leaves Move.Close Reply.Done next d' out
  closes some d' is =
      by_resting Move.Close pool well Reply.Done runtime most next (closed_pool d) visitors out
      (record { gets = k.gets; adds = k.adds; outside = k.outside }) true (rw some refl) d' is
      (record {
        objects = λ is_open. absurd (let differ = is_open in cc);
        room = λ is_open. absurd (let differ = is_open in cc);
      })

  -- the pool stands as the core does
  pub stands : eqb d.handles 0 ≡ false → (status : Status) → status ≡ status_of d
      → Leaves Move.Status (Reply.Stands status) next d out
  stands some status is =
      let waiting = length-map d.gets.waiting (owner has_get visitors) in
      let granted = length-map d.gets.granted (owner has_get visitors) in
      let alike : status_of d ≡ pool_status pool = rw (waiting, granted, k.outside) refl in
      rw (is, alike) (same Move.Status (Reply.Stands (pool_status pool)) d refl (rw some refl))

  -- one handle more
  more : (m : Move V) (answer : Reply V) (d' : State (Item V)) → d' ≡ one_handle_more d
      → unsettled true m pool ≡ (answer, image runtime most next (one_handle_more d) visitors out)
      → Leaves m answer next d' out
  more m answer d' is makes =
      let nobody = well.lawful.nobody_waits in
      by_resting m pool well answer runtime most next (one_handle_more d) visitors out
      (record { gets = k.gets; adds = k.adds; outside = k.outside }) true makes d' is
      (record { objects = nobody.objects; room = nobody.room })

  pub clones : (r : HandleReply) (d' : State (Item V)) → Clones d r d'
      → Leaves Move.Clone (reply_to_handle r) next d' out
  clones HandleReply.Done d' e = more Move.Clone Reply.Done d' e.1 (rw (above_zero d.handles e.0) refl)
  clones HandleReply.NoHandle d' e = same Move.Clone Reply.NoHandle d' e.1 (rw (is_zero d.handles e.0) refl)

  pub upgrades : (found : Bool) (d' : State (Item V)) → Upgrades d found d'
      → Leaves Move.Upgrade (Reply.Upgraded found) next d' out
  upgrades true d' e = more Move.Upgrade (Reply.Upgraded true) d' e.1 (rw (above_zero d.handles e.0) refl)
  upgrades false d' e = same Move.Upgrade (Reply.Upgraded false) d' e.1 (rw (is_zero d.handles e.0) refl)

  -- one handle less, and if it was the last the room of the idle objects is free
  pub drops : (r : HandleReply) (d' : State (Item V)) → DropsHandle d r d'
      → Leaves Move.DropHandle (reply_to_handle r) next d' out
  drops HandleReply.NoHandle d' e = same Move.DropHandle Reply.NoHandle d' e.1 (rw (is_zero d.handles e.0) refl)
  drops HandleReply.Done d' e =
      let left = if d.handles == most_handles then most_handles else d.handles - 1 in
      let some = above_zero d.handles e.0 in
      elim (cases_Bool (left == 0)) [
        | inl last ↦
            let is : d' ≡ settled (record d { handles = 0; idle = [] }) = rw last at e.1 in
            let none : left ≡ 0 = zero_is left last in
            by_settling Move.DropHandle pool well Reply.Done runtime most next (record d { handles = 0; idle = [] })
            visitors out (record { gets = k.gets; adds = k.adds; outside = k.outside }) true
            (rw (some, last, none) refl) d' is
        | inr others ↦
            let is : d' ≡ record d { handles = left } = rw others at e.1 in
            let nobody = well.lawful.nobody_waits in
            by_resting Move.DropHandle pool well Reply.Done runtime most next (record d { handles = left }) visitors out
            (record { gets = k.gets; adds = k.adds; outside = k.outside }) true
            (rw (some, others) refl) d' is (record { objects = nobody.objects; room = nobody.room })
      ]
    where
      zero_is : (n : ℕ) → eqb n 0 ≡ true → n ≡ 0
      zero_is n h = grind (arith, nat_tests)
