-- Each step, by what it makes of the queue and the places, and what follows from that.
use Rattle.std.proofs.Common.{◌≡◌, ℕ, ◌+◌, ◌-◌, ◌<◌, ◌≤◌, List, [], ◌∷◌, ◌++◌, Bool, true, false, max}
use Rattle.std.proofs.Common.{drop, length, refl, sym, ap, ◌∙◌, arith, inl, inr, ◌⊎◌, Option, Some, None}
use Rattle.std.proofs.Common.{Ok, Err}
use Rattle.std.specs.Prelude.{◌==◌, if◌then◌else◌}
use Rattle.std.proofs.lemmas.Bool.{cases_Bool, eqb-true, or_parts}
use Rattle.deadpool_gate.specs.Numbers.{has_number, without_number}
use Rattle.deadpool_gate.specs.Orders.{IsOnce, KeepsOrder}
use Rattle.deadpool_gate.specs.Queue.{Queue, members, without}
use Rattle.deadpool_gate.proofs.Numbers.{has_number-append, without_number-fewer}
use Rattle.deadpool_gate.proofs.Numbers.{without_number-one, without_number-shorter, without_number-same}
use Rattle.deadpool_gate.proofs.Orders.{IsOnce-front}
use Rattle.deadpool_desk.specs.DeskState.{DeskState, places, settled}
use Rattle.deadpool_desk.specs.DeskSteps.{Does, DoesForOwner, Serves, given_up, is_listed, resized, unqueued}
use Rattle.deadpool_desk.specs.Replies.{named}
use Rattle.deadpool_desk.specs.Settled.{NobodyWaits, queue}
use Rattle.deadpool_desk.specs.declared.owner_step.OwnerReply.{OwnerReply}
use Rattle.deadpool_desk.specs.declared.owner_step.OwnerReply.TheVariants as owner_reply
use Rattle.deadpool_desk.specs.declared.owner_step.OwnerStep.{OwnerStep}
use Rattle.deadpool_desk.specs.declared.owner_step.OwnerStep.TheVariants as owner
use Rattle.deadpool_desk.specs.declared.step.Held.TheVariants as held
use Rattle.deadpool_desk.specs.declared.step.Reply.{Reply}
use Rattle.deadpool_desk.specs.declared.step.Reply.TheVariants.{Object, Create, Going, Exhausted, Closed, Full, Waiting}
use Rattle.deadpool_desk.specs.declared.step.Reply.TheVariants.{Crowded, OutOfMemory, Expired, Done, Number, Kept}
use Rattle.deadpool_desk.specs.declared.step.Reply.TheVariants.{Detach, Dropped, Taken, Unknown}
use Rattle.deadpool_desk.specs.declared.step.Step.{Step}
use Rattle.deadpool_desk.specs.declared.step.Step.TheVariants.{Enter, Ask, Again, Discard, Created, Failed, Refused}
use Rattle.deadpool_desk.specs.declared.step.Step.TheVariants.{Back, Withdraw, Cancel, Take}
use Rattle.deadpool_journal.specs.Replay.{IsStep}
use Rattle.deadpool_journal.specs.declared.entry.Entry.{Entry}
use Rattle.deadpool_journal.specs.declared.entry.Entry.TheVariants.{Made, Owner, Retain}
use Rattle.deadpool_turns.specs.Steps.{gives_up, gives_up_by, let_go, let_go_by, let_go_in, named_by}
use Rattle.deadpool_turns.specs.Turns.{EachIsGrantedInTurn, EachKeepsItsPlace, EachStaysQueued, EachStepKeepsOrder}
use Rattle.deadpool_turns.specs.Turns.{EachStepNears, IsGranted, IsGrantedWithin, IsOrderly, IsQueued, Nears, Waits}
use Rattle.deadpool_turns.specs.Turns.{distance}
use Rattle.deadpool_turns.proofs.Changes.{Changes, IsOther, one_joins, one_leaves, unchanged}
use Rattle.deadpool_turns.proofs.Passing.{Passes, passes_granted, passes_nears, passes_order, passes_queued}
use Rattle.deadpool_turns.proofs.Passing.{passes_served}

-- who leaves the queue by this step
abbrev leaver : Step → Reply → Option ℕ
leaver (Ask ticket expired) Unknown = None
leaver (Ask ticket expired) (Waiting same) = None
leaver (Ask ticket expired) _ = Some ticket
leaver (Withdraw ticket) Done = Some ticket
leaver _ _ = None

abbrev leaver_by : Entry → Option ℕ
leaver_by (Made step object reply) = leaver step reply
leaver_by _ = None

-- no number is in both of two lists
apart : (t : ℕ) (xs ys : List ℕ) → IsOnce (xs ++ ys) → has_number t xs ≡ true → has_number t ys ≡ false
apart t [] ys once has = cc
apart t (x ∷ xs) ys once has =
    elim (cases_Bool (x == t)) [
      | inl here ↦
          let gone = sym (has_number-append x xs ys) ∙ once.0 in
          rw (eqb-true x t here) at (or_parts (has_number x xs) (has_number x ys) gone).1
      | inr other ↦ apart t xs ys once.1 (rw other at has)
    ]

module _ {O : Type 0} where
  -- places of those that are in no queue
  abbrev pub held_by_others : DeskState O → ℕ
  held_by_others d = d.going + d.creations + d.outside

  -- a step that is calm if the limit is no smaller, by which one may leave the queue, and so many places are let go of
  abbrev pub Steps : ℕ → Option ℕ → DeskState O → DeskState O → Type 0
  Steps count left d d' =
      Passes (d.limit ≤ d'.limit) count left d.limit (held_by_others d) (queue d) d'.is_open d'.limit
      (held_by_others d') (queue d')

  -- the free places are granted then, or nobody waits while one is free
  abbrev pub Lands : DeskState O → DeskState O → Type 0
  Lands e d' = (d' ≡ settled e) ⊎ ((d' ≡ e) × NobodyWaits e)

module _ {O : Type 0} (d : DeskState O) (s : IsOrderly d) where
  -- none waits while a place is free
  none_waits : (t : ℕ) → d.is_open ≡ true → places d < d.limit → Waits t d → ⊥
  none_waits t opens free waits =
      let none : d.waiting ≡ [] = s.nobody_waits opens (omega (arith, free)) in
      let no : has_number t [] ≡ true = rw none at waits in cc

  -- from what it makes before the free places are granted
  arrives : (count : ℕ) (left : Option ℕ) (e d' : DeskState O) → Lands e d'
      → Changes (d.limit ≤ e.limit) count left (held_by_others d + e.limit) (held_by_others e + d.limit) (queue d)
      (queue e)
      → Steps count left d d'
  arrives count left e d' lands changes =
      elim lands [
        | inl is ↦
            rw is (record {
              through = queue e;
              changes = changes;
              free = e.limit - places e;
              is_free = omega arith;
              lands = inl refl;
            })
        | inr is ↦
            rw is.0 (record {
              through = queue e;
              changes = changes;
              free = e.limit - places e;
              is_free = omega arith;
              lands = inr (refl, is.1);
            })
      ]

  -- the queue is the same, and so many places fewer are held
  same_queue : (count : ℕ) (e d' : DeskState O) → Lands e d' → queue e ≡ queue d
      → ((t : ℕ) → Waits t d → held_by_others e + count ≤ held_by_others d) → Steps count None d d'
  same_queue count e d' lands same fewer =
      arrives count None e d' lands
      (rw same (unchanged (d.limit ≤ e.limit) count (held_by_others d + e.limit) (held_by_others e + d.limit) (queue d)
      s.once (λ calm t waits. let few = fewer t waits in omega (arith, few, calm))))

  -- and as many places are held
  as_many : (e d' : DeskState O) → d' ≡ e → e.is_open ≡ d.is_open → e.limit ≡ d.limit → queue e ≡ queue d
      → held_by_others e ≡ held_by_others d → Steps 0 None d d'
  as_many e d' is opens limit same held =
      let granted = ap (λ (q : Queue). length q.granted) same in
      same_queue 0 e d' (inr (
        is,
        λ opened some.
            ap (λ (q : Queue). q.waiting) same
            ∙ s.nobody_waits (sym opens ∙ opened) (omega (arith, some, limit, held, granted)),
      )) same (λ t waits. omega (arith, held))

  same : (d' : DeskState O) → d' ≡ d → Steps 0 None d d'
  same d' is = as_many d d' is refl refl refl refl

  -- one place fewer is held, and what is free is granted
  frees : (e d' : DeskState O) → d' ≡ settled e → queue e ≡ queue d → held_by_others e + 1 ≤ held_by_others d
      → Steps 1 None d d'
  frees e d' is same fewer = same_queue 1 e d' (inl is) same (λ t waits. fewer)

  -- a free place is taken, for which nobody waits
  takes_free : (e d' : DeskState O) → d' ≡ e → d.is_open ≡ true → places d < d.limit → queue e ≡ queue d
      → Steps 0 None d d'
  takes_free e d' is opens free same =
      same_queue 0 e d' (inr (
        is,
        λ opened some. ap (λ (q : Queue). q.waiting) same ∙ s.nobody_waits opens (omega (arith, free)),
      )) same (λ t waits. absurd (none_waits t opens free waits))

  -- one leaves the queue, with so many places fewer
  leaves : (count ticket : ℕ) (e d' : DeskState O) → Lands e d' → queue e ≡ without ticket (queue d)
      → places e + count ≤ places d → Steps count (Some ticket) d d'
  leaves count ticket e d' lands is fewer =
      let granted = ap (λ (q : Queue). length q.granted) is in
      arrives count (Some ticket) e d' lands
      (rw is (one_leaves (d.limit ≤ e.limit) count (held_by_others d + e.limit) (held_by_others e + d.limit) (queue d)
      s.once ticket (λ calm. omega (arith, fewer, calm, granted))))

  -- one joins it, where no place is free
  joins : (ticket : ℕ) (d' : DeskState O) → d.limit ≤ places d → is_listed ticket d ≡ false
      → d' ≡ record d { waiting = d.waiting ++ ticket ∷ [] } → Steps 0 None d d'
  joins ticket d' full fresh is =
      arrives 0 None (record d { waiting = d.waiting ++ ticket ∷ [] }) d'
      (inr (is, λ opens some. absurd (omega (arith, some, full))))
      (one_joins (d.limit ≤ d.limit) 0 (held_by_others d + d.limit) (held_by_others d + d.limit) (queue d) s.once
      ticket fresh (λ calm. omega arith))

  -- a new get is served while a place is free
  enters : (object : Option O) (reply : Reply) (d' : DeskState O) → d.is_open ≡ true → places d < d.limit
      → Serves d None object reply d' → Steps 0 None d d'
  enters (Some slot) (Object left) d' opens free h =
      takes_free _ d' h.2 opens free refl
  enters None Going d' opens free h = takes_free _ d' h.2 opens free refl
  enters None Create d' opens free h = takes_free _ d' h.2 opens free refl
  enters None Exhausted d' opens free h = same_queue 0 d d' (inl h.2) refl (λ t waits. omega arith)
  enters _ _ d' opens free h = absurd h

  -- one in the queue that was granted a place takes it along
  goes : (ticket : ℕ) (e d' : DeskState O) → has_number ticket d.granted ≡ true → d' ≡ e → e.is_open ≡ d.is_open
      → e.limit ≡ d.limit → queue e ≡ without ticket (queue d)
      → places e ≡ length (without_number ticket d.granted) + 1 + held_by_others d → Steps 0 (Some ticket) d d'
  goes ticket e d' has is opens limit gone held =
      let fewer = without_number-fewer ticket d.granted has in
      let one = without_number-one ticket d.granted (IsOnce-front d.granted d.waiting s.once) in
      leaves 0 ticket e d' (inr (
        is,
        λ opened some.
            ap (λ (q : Queue). q.waiting) gone ∙ ap (without_number ticket)
            (s.nobody_waits (sym opens ∙ opened) (omega (arith, some, one, held, limit))),
      )) gone (omega (arith, fewer, held))

  -- and is served
  asks : (ticket : ℕ) (expired : Bool) (object : Option O) (reply : Reply) (d' : DeskState O)
      → has_number ticket d.granted ≡ true → Serves (unqueued ticket d) None object reply d'
      → Steps (let_go (Ask ticket expired) reply) (Some ticket) d d'
  asks ticket expired (Some slot) (Object left) d' has h =
      goes ticket _ d' has h.2 refl refl refl (omega arith)
  asks ticket expired None Going d' has h = goes ticket _ d' has h.2 refl refl refl (omega arith)
  asks ticket expired None Create d' has h = goes ticket _ d' has h.2 refl refl refl (omega arith)
  asks ticket expired None Exhausted d' has h =
      let fewer = without_number-fewer ticket d.granted has in
      leaves 1 ticket (unqueued ticket d) d' (inl h.2) refl (omega (arith, fewer))
  asks ticket expired _ _ d' has h = absurd h

  -- one that holds a place and nothing else is served
  goes_on : (allowance : Option ℕ) (object : Option O) (reply : Reply) (d' : DeskState O) → 0 < d.going
      → Serves (record d { going = d.going - 1 }) allowance object reply d'
      → Steps (let_go (Again allowance) reply) None d d'
  goes_on allowance (Some slot) (Object left) d' some h =
      as_many _ d' h.2 refl refl refl (omega (arith, some))
  goes_on allowance None Going d' some h = as_many _ d' h.2 refl refl refl (omega (arith, some))
  goes_on allowance None Create d' some h = as_many _ d' h.2 refl refl refl (omega (arith, some))
  goes_on allowance None Exhausted d' some h =
      frees (record d { going = d.going - 1 }) d' h.2 refl (omega (arith, some))
  goes_on allowance _ _ d' some h = absurd h

  -- Each step of a get or an object. Only one that waits or was granted a place leaves the queue.
  passes : (step : Step) (object : Option O) (reply : Reply) (d' : DeskState O) → Does d step object reply d'
      → Steps (let_go step reply) (leaver step reply) d d'
  passes (Enter wait) None Closed d' h = same d' h.1
  passes (Enter wait) None Full d' h = same d' h.3
  passes (Enter wait) None Crowded d' h = same d' h.4
  passes (Enter wait) None (Waiting ticket) d' h = joins ticket d' h.1 h.4 h.5
  passes (Enter wait) None OutOfMemory d' h = same d' h.4
  passes (Enter wait) object reply d' h = enters object reply d' h.0 h.1 h.2
  passes (Ask ticket expired) None Unknown d' h = same d' h.1
  passes (Ask ticket expired) None Closed d' h =
      leaves 0 ticket (unqueued ticket d) d' (inr (h.2, λ opens some. let shut = h.0 in absurd cc)) refl
      (omega (arith, without_number-shorter ticket d.granted))
  passes (Ask ticket expired) None Expired d' h =
      let same = ap length (without_number-same ticket d.granted h.1) in
      leaves 0 ticket (unqueued ticket d) d' (inr (
        h.4,
        λ opens some. ap (without_number ticket) (s.nobody_waits opens (omega (arith, some, same))),
      )) refl (omega (arith, without_number-shorter ticket d.granted))
  passes (Ask ticket expired) None (Waiting again) d' h = same d' h.5
  passes (Ask ticket expired) (Some slot) (Object left) d' h = asks ticket expired (Some slot) (Object left) d' h.1 h.2
  passes (Ask ticket expired) None Going d' h = asks ticket expired None Going d' h.1 h.2
  passes (Ask ticket expired) None Create d' h = asks ticket expired None Create d' h.1 h.2
  passes (Ask ticket expired) None Exhausted d' h = asks ticket expired None Exhausted d' h.1 h.2
  passes (Ask ticket expired) _ _ d' h = absurd h.2
  passes (Again allowance) None Unknown d' h = same d' h.1
  passes (Again allowance) object reply d' h = goes_on allowance object reply d' h.0 h.1
  passes Discard None Done d' h = let some = h.0 in as_many _ d' h.1 refl refl refl (omega (arith, some))
  passes Discard None Unknown d' h = same d' h.1
  passes Created None Unknown d' h = same d' h.1
  passes Created None (Number number) d' h =
      let some = h.0 in as_many _ d' h.2 refl refl refl (omega (arith, some))
  passes Failed None Done d' h =
      frees (record d { creations = d.creations - 1 }) d' h.1 refl (let some = h.0 in omega (arith, some))
  passes Failed None Unknown d' h = same d' h.1
  passes Refused None Done d' h =
      frees (record d { outside = d.outside - 1 }) d' h.1 refl (let some = h.0 in omega (arith, some))
  passes Refused None Unknown d' h = same d' h.1
  passes Back (Some slot) Unknown d' h = same d' h.1
  passes Back (Some slot) Dropped d' h =
      frees (record d { outside = d.outside - 1 }) d' h.2 refl (let some = h.0 in omega (arith, some))
  passes Back (Some slot) Detach d' h =
      frees (record d { outside = d.outside - 1 }) d' h.3 refl (let some = h.0 in omega (arith, some))
  passes Back (Some slot) Kept d' h =
      frees (record d { idle = d.idle ++ slot ∷ []; outside = d.outside - 1 }) d' h.3 refl
      (let some = h.0 in omega (arith, some))
  passes Take None Unknown d' h = same d' h.1
  passes Take None (Taken detach) d' h =
      frees (record d { outside = d.outside - 1 }) d' h.2 refl (let some = h.0 in omega (arith, some))
  passes (Withdraw ticket) None Unknown d' h = same d' h.1
  passes (Withdraw ticket) None Done d' h =
      leaves 0 ticket (unqueued ticket d) d' (inl h.1) refl
      (omega (arith, without_number-shorter ticket d.granted))
  passes (Cancel held.Place) None Done d' h =
      frees (record d { going = d.going - 1 }) d' h.1 refl (let some = h.0 in omega (arith, some))
  passes (Cancel held.Place) None Unknown d' h = same d' h.1
  passes (Cancel held.Creation) None Done d' h =
      frees (record d { creations = d.creations - 1 }) d' h.1 refl (let some = h.0 in omega (arith, some))
  passes (Cancel held.Creation) None Unknown d' h = same d' h.1
  passes (Cancel held.Object) None Done d' h =
      frees (record d { outside = d.outside - 1 }) d' h.1 refl (let some = h.0 in omega (arith, some))
  passes (Cancel held.Object) None Unknown d' h = same d' h.1
  passes _ _ _ d' h = absurd h

  -- it gets another limit, if it is open
  resizes : (is_open : Bool) (limit : ℕ) (d' : DeskState O) → d' ≡ (if is_open then resized limit d else d)
      → Steps 0 None d d'
  resizes true limit d' h =
      same_queue 0 (record d { limit = limit; reserve = max d.reserve limit; idle = drop (given_up limit d) d.idle }) d'
      (inl h) refl (λ t waits. omega arith)
  resizes false limit d' h = same d' h

  -- each step of the owner
  owner_passes : (step : OwnerStep) (reply : OwnerReply) (d' : DeskState O) → DoesForOwner d step reply d'
      → Steps 0 None d d'
  owner_passes owner.Status (owner_reply.Stands status) d' h = same d' h.1
  owner_passes (owner.Resize limit) owner_reply.Done d' h = resizes d.is_open limit d' h
  owner_passes (owner.Resize limit) owner_reply.OutOfMemory d' h = same d' h.2
  owner_passes owner.Close owner_reply.Done d' h =
      same_queue 0 (record d { limit = 0; is_open = false; idle = [] }) d' (inr (h, λ opens some. cc)) refl
      (λ t waits. omega arith)
  owner_passes owner.CloneHandle owner_reply.Done d' h = as_many _ d' h.1 refl refl refl refl
  owner_passes owner.CloneHandle owner_reply.NoHandle d' h = same d' h.1
  owner_passes owner.DropHandle owner_reply.Done d' h = as_many _ d' h.1 refl refl refl refl
  owner_passes owner.DropHandle owner_reply.NoHandle d' h = same d' h.1
  owner_passes owner.Upgrade owner_reply.Done d' h = as_many _ d' h.1 refl refl refl refl
  owner_passes owner.Upgrade owner_reply.NoHandle d' h = same d' h.1
  owner_passes _ _ d' h = absurd h

-- each entry of a journal
entry_passes : (e : Entry) (d d' : DeskState ℕ) → IsOrderly d → IsStep d e d'
    → Steps (let_go_by e) (leaver_by e) d d'
entry_passes (Made step object reply) d d' s h = passes d s step object reply d' h
entry_passes (Owner step reply) d d' s h = owner_passes d s step reply d' h
entry_passes (Retain (Ok removed)) d d' s h = as_many d s _ d' h.2 refl refl refl refl
entry_passes (Retain (Err refused)) d d' s h = same d s d' h.1

-- what follows from it
module _ (e : Entry) (d d' : DeskState ℕ) (s : IsOrderly d) (h : IsStep d e d') where
  steps : Steps (let_go_by e) (leaver_by e) d d'
  steps = entry_passes e d d' s h

  orderly : IsOrderly d'
  orderly =
      passes_served (d.limit ≤ d'.limit) (let_go_by e) (leaver_by e) d.limit (held_by_others d) (queue d) d'.is_open
      d'.limit (held_by_others d') (queue d') steps (d'.limit - places d') (omega arith)

  in_order : KeepsOrder (members (queue d)) (members (queue d'))
  in_order =
      passes_order (d.limit ≤ d'.limit) (let_go_by e) (leaver_by e) d.limit (held_by_others d) (queue d) d'.is_open
      d'.limit (held_by_others d') (queue d') steps

  stays_queued : (t : ℕ) → IsOther (leaver_by e) t → IsQueued t d → IsQueued t d'
  stays_queued =
      passes_queued (d.limit ≤ d'.limit) (let_go_by e) (leaver_by e) d.limit (held_by_others d) (queue d) d'.is_open
      d'.limit (held_by_others d') (queue d') steps

  stays_granted : (t : ℕ) → IsOther (leaver_by e) t → IsGranted t d → IsGranted t d'
  stays_granted =
      passes_granted (d.limit ≤ d'.limit) (let_go_by e) (leaver_by e) d.limit (held_by_others d) (queue d) d'.is_open
      d'.limit (held_by_others d') (queue d') steps

  comes_nearer : (t : ℕ) → d.limit ≤ d'.limit → d.is_open ≡ true → d'.is_open ≡ true → IsOther (leaver_by e) t
      → Waits t d → Nears t (let_go_by e) d d'
  comes_nearer t calm opens opens' other waits =
      elim (passes_nears (d.limit ≤ d'.limit) (let_go_by e) (leaver_by e) d.limit (held_by_others d) (queue d)
      d'.is_open d'.limit (held_by_others d') (queue d') steps calm d.is_open (d.limit - places d) t (omega arith)
      s.nobody_waits opens opens' other waits) [
        | inl near ↦ inl (near.0, omega (arith, near.1))
        | inr granted ↦ inr granted
      ]

pub keeps_order : EachStepKeepsOrder
keeps_order d d' e s h = (orderly e d d' s h, in_order e d d' s h)

-- who leaves is named
module _ (t : ℕ) where
  is_other : (ticket : ℕ) → (Some ticket ≡ Some t) ⊎ IsOther (Some ticket) t
  is_other ticket = elim (cases_Bool (ticket == t)) [
    | inl same ↦ inl (ap Some (eqb-true ticket t same))
    | inr other ↦ inr other
  ]

  leaves_none : (step : Step) (reply : Reply) → (named step ≡ Some t) ⊎ IsOther (leaver step reply) t
  leaves_none (Ask ticket expired) Unknown = inr tt
  leaves_none (Ask ticket expired) (Waiting same) = inr tt
  leaves_none (Ask ticket expired) _ = is_other ticket
  leaves_none (Withdraw ticket) Done = is_other ticket
  leaves_none (Withdraw ticket) _ = inr tt
  leaves_none _ _ = inr tt

  other_or_named : (e : Entry) → (named_by e ≡ Some t) ⊎ IsOther (leaver_by e) t
  other_or_named (Made step object reply) = leaves_none step reply
  other_or_named (Owner step reply) = inr tt
  other_or_named (Retain result) = inr tt

pub queue_keeps : EachStaysQueued
queue_keeps t d d' e s h queued = elim (other_or_named t e) [
  | inl named ↦ inr named
  | inr other ↦ inl (stays_queued e d d' s h t other queued)
]

pub place_keeps : EachKeepsItsPlace
place_keeps t d d' e s h granted = elim (other_or_named t e) [
  | inl named ↦ inr named
  | inr other ↦ inl (stays_granted e d d' s h t other granted)
]

-- One that waits, and does not give up, is not the one that leaves: that one was granted a place.
module _ {O : Type 0} (t : ℕ) (d d' : DeskState O) (s : IsOrderly d) (opens : d.is_open ≡ true)
    (waits : Waits t d) where
  asker_is_other : (ticket : ℕ) → has_number ticket d.granted ≡ true → (ticket == t) ≡ false
  asker_is_other ticket has =
      elim (cases_Bool (ticket == t)) [
        | inl is ↦
            let mine : has_number t d.granted ≡ true = rw (eqb-true ticket t is) at has in
            let gone : has_number t d.waiting ≡ false = apart t d.granted d.waiting s.once mine in absurd cc
        | inr other ↦ other
      ]

  other : (step : Step) (object : Option O) (reply : Reply) → gives_up t step ≡ false → Does d step object reply d'
      → IsOther (leaver step reply) t
  other (Ask ticket expired) None Unknown stays h = tt
  other (Ask ticket expired) None (Waiting again) stays h = tt
  other (Ask ticket expired) None Closed stays h = let shut = h.0 in absurd cc
  other (Ask ticket expired) None Expired stays h = rw h.3 at stays
  other (Ask ticket expired) (Some slot) (Object left) stays h = asker_is_other ticket h.1
  other (Ask ticket expired) None Going stays h = asker_is_other ticket h.1
  other (Ask ticket expired) None Create stays h = asker_is_other ticket h.1
  other (Ask ticket expired) None Exhausted stays h = asker_is_other ticket h.1
  other (Ask ticket expired) _ _ stays h = absurd h.2
  other (Withdraw ticket) None Done stays h = stays
  other (Withdraw ticket) None Unknown stays h = tt
  other (Withdraw ticket) _ _ stays h = absurd h
  other _ object reply stays h = tt

entry_other : (t : ℕ) (d d' : DeskState ℕ) (e : Entry) → IsOrderly d → d.is_open ≡ true → Waits t d
    → gives_up_by t e ≡ false → IsStep d e d' → IsOther (leaver_by e) t
entry_other t d d' (Made step object reply) s opens waits stays h = other t d d' s opens waits step object reply stays h
entry_other t d d' (Owner step reply) s opens waits stays h = tt
entry_other t d d' (Retain result) s opens waits stays h = tt

pub nears : EachStepNears
nears t d d' e s opens waits calm =
    comes_nearer e d d' s calm.step t calm.limit opens calm.opens
    (entry_other t d d' e s opens waits calm.stays calm.step) waits

pub granted_in_turn : EachIsGrantedInTurn
granted_in_turn t d d' [] s opens waits runs enough = absurd (omega (arith, enough))
granted_in_turn t d d' (e ∷ es) s opens waits runs enough =
    let next = runs.0 in
    let calm = runs.1.0 in
    let orderly = (keeps_order d next e s calm.step).0 in
    elim (nears t d next e s opens waits calm) [
      | inl nearer ↦
          let left : distance t next ≤ let_go_in es = omega (arith, nearer.1, enough) in
          let rest : IsGrantedWithin t next es =
          granted_in_turn t next d' es orderly calm.opens nearer.0 runs.1.1 left in (
            e ∷ rest.0,
            (
              rest.1.0,
              (
                ap (λ (l : List Entry). e ∷ l) rest.1.1.0,
                (rest.1.1.1.0, ((next, (calm.step, rest.1.1.1.1.0)), rest.1.1.1.1.1)),
              ),
            ),
          )
      | inr granted ↦ (e ∷ [], (es, (refl, (next, ((next, (calm.step, refl)), granted)))))
    ]
