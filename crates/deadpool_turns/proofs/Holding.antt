-- What each step makes of the objects and their holders: no number comes to stand twice.
use Rattle.std.proofs.Common.{◌≡◌, ◌⊎◌, ℕ, ◌+◌, ◌-◌, ◌<◌, ◌≤◌, List, [], ◌∷◌, ◌++◌, Bool, true, false, drop, take}
use Rattle.std.proofs.Common.{length, get_or, refl, sym, ap, ◌∙◌, arith, inl, inr, Option, Some, None, Ok, Err}
use Rattle.std.proofs.Common.{zero, suc}
use Rattle.std.specs.Prelude.{◌==◌, if◌then◌else◌}
use Rattle.std.proofs.lemmas.Bool.{cases_Bool, eq-eqb, eqb-true, and_parts}
use Rattle.std.proofs.lemmas.List.{take_all, take_more}
use Rattle.std.proofs.lemmas.Option.{slice_get_within, get_or_from_slice_get}
use Rattle.deadpool_parts.specs.declared.config.QueueMode.{QueueMode}
use Rattle.deadpool_parts.specs.declared.config.QueueMode.TheVariants.{Fifo, Lifo}
use Rattle.deadpool_desk.specs.DeskState.{DeskState, next_idle, other_idle}
use Rattle.deadpool_desk.specs.DeskSteps.{Does, DoesForOwner, given_up, resized}
use Rattle.deadpool_desk.specs.declared.owner_step.OwnerReply.{OwnerReply}
use Rattle.deadpool_desk.specs.declared.owner_step.OwnerReply.TheVariants as owner_reply
use Rattle.deadpool_desk.specs.declared.owner_step.OwnerStep.{OwnerStep}
use Rattle.deadpool_desk.specs.declared.owner_step.OwnerStep.TheVariants as owner
use Rattle.deadpool_desk.specs.declared.step.Held.TheVariants as held
use Rattle.deadpool_desk.specs.declared.step.Reply.{Reply}
use Rattle.deadpool_desk.specs.declared.step.Reply.TheVariants.{Object, Create, Going, Exhausted, Closed, Full, Waiting}
use Rattle.deadpool_desk.specs.declared.step.Reply.TheVariants.{Crowded, OutOfMemory, Expired, Done, Number, Kept}
use Rattle.deadpool_desk.specs.declared.step.Reply.TheVariants.{Detach, Dropped, Taken, Unknown}
use Rattle.deadpool_desk.specs.declared.step.Step.{Step}
use Rattle.deadpool_desk.specs.declared.step.Step.TheVariants.{Enter, Ask, Again, Discard, Created, Failed, Refused}
use Rattle.deadpool_desk.specs.declared.step.Step.TheVariants.{Back, Withdraw, Cancel, Take}
use Rattle.deadpool_journal.specs.Replay.{IsStep}
use Rattle.deadpool_journal.specs.declared.entry.Entry.{Entry}
use Rattle.deadpool_journal.specs.declared.entry.Entry.TheVariants.{Made, Owner, Retain}
use Rattle.deadpool_turns.specs.Holders.{EachRunNumbersOnce, EachHasOneHolder, EachOpensNumberedOnce, HandsOver}
use Rattle.deadpool_turns.specs.Holders.{IsNumberedOnce, Out, Parts, Passes, passing}
use Rattle.deadpool_turns.specs.Holders.{holds, is_held, numbers_of, times, total, without_held}
use Rattle.deadpool_turns.specs.Leaving.{EachNumberGoesForGood, EachStepKeepsObjects, MayTake}
use Rattle.deadpool_turns.proofs.Removing.{times-remaining}

-- how often a number is this one
abbrev one : ℕ → ℕ → ℕ
one x n = if x == n then 1 else 0

times-cons : (n x : ℕ) (xs : List ℕ) → times n (x ∷ xs) ≡ one x n + times n xs
times-cons n x xs = elim (cases_Bool (x == n)) [
  | inl here ↦ rw here (omega arith)
  | inr other ↦ rw other (omega arith)
]

times-append : (n : ℕ) (xs ys : List ℕ) → times n (xs ++ ys) ≡ times n xs + times n ys
times-append n [] ys = omega arith
times-append n (x ∷ xs) ys =
    let rest = times-append n xs ys in omega (arith, rest, times-cons n x (xs ++ ys), times-cons n x xs)

times-drop : (n k : ℕ) (xs : List ℕ) → times n (drop k xs) ≤ times n xs
times-drop n zero xs = omega arith
times-drop n (suc k) [] = omega arith
times-drop n (suc k) (x ∷ xs) = let rest = times-drop n k xs in omega (arith, rest, times-cons n x xs)

-- the object that is served is one of the idle
times-served : (n : ℕ) (mode : QueueMode) (idle : List ℕ) (slot : ℕ) → next_idle mode idle ≡ Some slot
    → times n (other_idle mode idle) + one slot n ≡ times n idle
times-served n Fifo [] slot h = cc
times-served n Fifo (x ∷ xs) slot h =
    let same : x ≡ slot = cc in let more = times-cons n slot xs in rw same (omega (arith, more))
times-served n Lifo idle slot h =
    let last = length idle - 1 in
    let within = slice_get_within idle last slot h in
    let all : take (last + 1) idle ≡ idle = take_all (last + 1) idle (omega (arith, within)) in
    let here : get_or idle last slot ≡ slot = get_or_from_slice_get idle last slot slot h in
    let parts : idle ≡ take last idle ++ slot ∷ [] =
    sym all ∙ take_more idle last slot within ∙ ap (λ x. take last idle ++ x ∷ []) here in
    let sum : times n idle ≡ times n (take last idle) + times n (slot ∷ []) =
    ap (times n) parts ∙ times-append n (take last idle) (slot ∷ []) in
    omega (arith, sum, times-cons n slot [])

-- what is parted with was there
times-parted : (c n k : ℕ) (out : Out) → holds c n out ≡ true
    → times k (numbers_of (without_held c n out)) + one n k ≡ times k (numbers_of out)
times-parted c n k [] h = cc
times-parted c n k (x ∷ xs) h =
    elim (cases_Bool (is_held c n x)) [
      | inl here ↦
          let same : x.1 ≡ n = eqb-true x.1 n (and_parts (x.0 == c) (x.1 == n) here).1 in
          rw (here, same) (omega (arith, times-cons k n (numbers_of xs)))
      | inr other ↦
          let rest = times-parted c n k xs (rw other at h) in
          rw other (omega (
            arith,
            rest,
            times-cons k x.1 (numbers_of (without_held c n xs)),
            times-cons k x.1 (numbers_of xs),
          ))
    ]

-- What a step makes of the numbers that are idle or held, where an object leaves only as `L` says.
record Accounts (L : ℕ → Type 0) (d d' : DeskState ℕ) (out out' : Out) : Type 0 where
  numbered : IsNumberedOnce d out → IsNumberedOnce d' out'
  onward : d.next ≤ d'.next
  back : (n : ℕ) → n < d.next → total n d' out' ≤ total n d out
  stays : (n : ℕ) → (total n d out ≤ total n d' out') ⊎ L n

module _ (L : ℕ → Type 0) (d d' : DeskState ℕ) (out out' : Out) where
  -- no number stands there more often than before
  fewer : d'.next ≡ d.next → ((n : ℕ) → total n d' out' ≤ total n d out)
      → ((n : ℕ) → (total n d out ≤ total n d' out') ⊎ L n) → Accounts L d d' out out'
  fewer next few stays = record {
    numbered = λ was. record {
      once = λ n. omega (arith, few n, was.once n);
      given = λ n new. omega (arith, few n, was.given n (omega (arith, new, next)));
    };
    onward = omega (arith, next);
    back = λ n old. few n;
    stays = stays;
  }

  -- each as often as before
  as_often : d'.next ≡ d.next → ((n : ℕ) → total n d' out' ≡ total n d out) → Accounts L d d' out out'
  as_often next same = fewer next (λ n. omega (arith, same n)) (λ n. inl (omega (arith, same n)))

  -- nothing moves
  still : d'.next ≡ d.next → d'.idle ≡ d.idle → out' ≡ out → Accounts L d d' out out'
  still next idle held = as_often next (λ n. rw (idle, held) refl)

  -- one is given away, and is idle no more than before
  parted : (c n : ℕ) → Parts c n out out' → L n → d'.next ≡ d.next → d'.idle ≡ d.idle → Accounts L d d' out out'
  parted c n p leaves next idle =
      fewer next (λ k. rw (idle, p.1) (let parts = times-parted c n k out p.0 in omega (arith, parts)))
      (λ k. elim (cases_Bool (n == k)) [
        | inl here ↦ inr (rw (← eqb-true n k here) leaves)
        | inr other ↦
            let none : one n k ≡ 0 = rw other refl in
            inl (rw (idle, p.1) (let parts = times-parted c n k out p.0 in omega (arith, parts, none)))
      ])

  -- one of the idle is given
  served : (c slot : ℕ) → next_idle d.mode d.idle ≡ Some slot → out' ≡ (c, slot) ∷ out → d'.next ≡ d.next
      → d'.idle ≡ other_idle d.mode d.idle → Accounts L d d' out out'
  served c slot is held next idle =
      as_often next (λ n. rw (idle, held) (let parts = times-served n d.mode d.idle slot is in
      omega (arith, parts, times-cons n slot (numbers_of out))))

  -- one comes back, and is idle
  kept : (c slot : ℕ) → Parts c slot out out' → d'.next ≡ d.next → d'.idle ≡ d.idle ++ slot ∷ []
      → Accounts L d d' out out'
  kept c slot p next idle =
      as_often next (λ n. rw (idle, p.1) (let parts = times-parted c slot n out p.0 in
      omega (arith, parts, times-append n d.idle (slot ∷ []), times-cons n slot [])))

  -- a new one is held
  created : (c : ℕ) → out' ≡ (c, d.next) ∷ out → d'.next ≡ d.next + 1 → d'.idle ≡ d.idle → Accounts L d d' out out'
  created c held next idle =
      record {
        numbered = λ was. record {
          once = λ n.
              rw (idle, held) (elim (cases_Bool (d.next == n)) [
                | inl here ↦
                    let same : d.next ≡ n = eqb-true d.next n here in
                    let none = was.given n (omega (arith, same)) in rw here (omega (arith, none))
                | inr other ↦ rw other (was.once n)
              ]);
          given = λ n new.
              rw (idle, held) (elim (cases_Bool (d.next == n)) [
                | inl here ↦
                    let same : d.next ≡ n = eqb-true d.next n here in absurd (omega (arith, same, new, next))
                | inr other ↦ rw other (was.given n (omega (arith, new, next)))
              ]);
        };
        onward = omega (arith, next);
        back = λ n old.
            rw (idle, held) (elim (cases_Bool (d.next == n)) [
              | inl here ↦ let same : d.next ≡ n = eqb-true d.next n here in absurd (omega (arith, same, old))
              | inr other ↦ rw other (omega arith)
            ]);
        stays = λ n. inl (rw (idle, held) (let more = times-cons n d.next (numbers_of out) in omega (arith, more)));
      }

idle_of : {d d' : DeskState ℕ} → d' ≡ d → d'.idle ≡ d.idle
idle_of is = ap (λ (x : DeskState ℕ). x.idle) is

next_of : {d d' : DeskState ℕ} → d' ≡ d → d'.next ≡ d.next
next_of is = ap (λ (x : DeskState ℕ). x.next) is

some_or_none : (k : ℕ) → (k ≡ 0) ⊎ (1 ≤ k)
some_or_none zero = inl refl
some_or_none (suc k) = inr (omega arith)

module _ (d d' : DeskState ℕ) (out out' : Out) where
  -- to a state with the same objects
  same : {L : ℕ → Type 0} (e : DeskState ℕ) → d' ≡ e → e.next ≡ d.next → e.idle ≡ d.idle → out' ≡ out
      → Accounts L d d' out out'
  same e is next idle held = still _ d d' out out' (next_of is ∙ next) (idle_of is ∙ idle) held

  away : {L : ℕ → Type 0} (c n : ℕ) (e : DeskState ℕ) → d' ≡ e → e.next ≡ d.next → e.idle ≡ d.idle
      → Parts c n out out' → L n → Accounts L d d' out out'
  away c n e is next idle p leaves = parted _ d d' out out' c n p leaves (next_of is ∙ next) (idle_of is ∙ idle)

  given : {L : ℕ → Type 0} (c slot : ℕ) (e : DeskState ℕ) → d' ≡ e → e.next ≡ d.next
      → e.idle ≡ other_idle d.mode d.idle → next_idle d.mode d.idle ≡ Some slot → out' ≡ (c, slot) ∷ out
      → Accounts L d d' out out'
  given c slot e is next idle some held =
      served _ d d' out out' c slot some held (next_of is ∙ next) (idle_of is ∙ idle)

  numbered : (c : ℕ) (step : Step) (object : Option ℕ) (reply : Reply) → Does d step object reply d'
      → Passes c (passing step object reply) out out'
      → Accounts (λ n. MayTake c (Made step object reply) n d out) d d' out out'
  numbered c (Enter wait) (Some slot) (Object left) h k = given c slot _ h.2.2 refl refl h.2.0 k
  numbered c (Enter wait) None Closed h k = same _ h.1 refl refl k
  numbered c (Enter wait) None Full h k = same _ h.3 refl refl k
  numbered c (Enter wait) None Crowded h k = same _ h.4 refl refl k
  numbered c (Enter wait) None (Waiting ticket) h k = same _ h.5 refl refl k
  numbered c (Enter wait) None OutOfMemory h k = same _ h.4 refl refl k
  numbered c (Enter wait) None Going h k = same _ h.2.2 refl refl k
  numbered c (Enter wait) None Create h k = same _ h.2.2 refl refl k
  numbered c (Enter wait) None Exhausted h k = same _ h.2.2 refl refl k
  numbered c (Enter wait) _ _ h k = absurd h.2
  numbered c (Ask ticket expired) (Some slot) (Object left) h k = given c slot _ h.2.2 refl refl h.2.0 k
  numbered c (Ask ticket expired) None Unknown h k = same _ h.1 refl refl k
  numbered c (Ask ticket expired) None Closed h k = same _ h.2 refl refl k
  numbered c (Ask ticket expired) None Expired h k = same _ h.4 refl refl k
  numbered c (Ask ticket expired) None (Waiting again) h k = same _ h.5 refl refl k
  numbered c (Ask ticket expired) None Going h k = same _ h.2.2 refl refl k
  numbered c (Ask ticket expired) None Create h k = same _ h.2.2 refl refl k
  numbered c (Ask ticket expired) None Exhausted h k = same _ h.2.2 refl refl k
  numbered c (Ask ticket expired) _ _ h k = absurd h.2
  numbered c (Again allowance) (Some slot) (Object left) h k = given c slot _ h.1.2 refl refl h.1.0 k
  numbered c (Again allowance) None Unknown h k = same _ h.1 refl refl k
  numbered c (Again allowance) None Going h k = same _ h.1.2 refl refl k
  numbered c (Again allowance) None Create h k = same _ h.1.2 refl refl k
  numbered c (Again allowance) None Exhausted h k = same _ h.1.2 refl refl k
  numbered c (Again allowance) _ _ h k = absurd h.1
  numbered c Discard None Done h k = away c k.0 _ h.1 refl refl k.1 (refl, k.1.0)
  numbered c Discard None Unknown h k = same _ h.1 refl refl k
  numbered c Created None Unknown h k = same _ h.1 refl refl k
  numbered c Created None (Number number) h k =
      let next = h.1 in
      created _ d d' out out' c (rw next at k) (next_of h.2) (idle_of h.2)
  numbered c Failed None Done h k = same _ h.1 refl refl k
  numbered c Failed None Unknown h k = same _ h.1 refl refl k
  numbered c Refused None Done h k = away c k.0 _ h.1 refl refl k.1 (refl, k.1.0)
  numbered c Refused None Unknown h k = same _ h.1 refl refl k
  numbered c Back (Some slot) Unknown h k = same _ h.1 refl refl k
  numbered c Back (Some slot) Dropped h k = away c slot _ h.2 refl refl k (refl, k.0)
  numbered c Back (Some slot) Detach h k = away c slot _ h.3 refl refl k (refl, k.0)
  numbered c Back (Some slot) Kept h k = kept _ d d' out out' c slot k (next_of h.3) (idle_of h.3)
  numbered c Take None Unknown h k = same _ h.1 refl refl k
  numbered c Take None (Taken detach) h k = away c k.0 _ h.2 refl refl k.1 (refl, k.1.0)
  numbered c (Withdraw ticket) None Unknown h k = same _ h.1 refl refl k
  numbered c (Withdraw ticket) None Done h k = same _ h.1 refl refl k
  numbered c (Cancel held.Place) None Done h k = same _ h.1 refl refl k
  numbered c (Cancel held.Place) None Unknown h k = same _ h.1 refl refl k
  numbered c (Cancel held.Creation) None Done h k = same _ h.1 refl refl k
  numbered c (Cancel held.Creation) None Unknown h k = same _ h.1 refl refl k
  numbered c (Cancel held.Object) None Done h k = away c k.0 _ h.1 refl refl k.1 (refl, k.1.0)
  numbered c (Cancel held.Object) None Unknown h k = same _ h.1 refl refl k
  numbered c _ _ _ h k = absurd h

  -- fewer are idle
  idle_fewer : {L : ℕ → Type 0} (e : DeskState ℕ) → d' ≡ e → e.next ≡ d.next
      → ((n : ℕ) → times n e.idle ≤ times n d.idle) → out' ≡ out → ((n : ℕ) → 1 ≤ times n d.idle → L n)
      → Accounts L d d' out out'
  idle_fewer e is next few held leaves =
      fewer _ d d' out out' (next_of is ∙ next) (λ n. rw (is, held) (omega (arith, few n)))
      (λ n. elim (some_or_none (times n d.idle)) [
        | inl none ↦ inl (rw held (omega (arith, none)))
        | inr some ↦ inr (leaves n some)
      ])

  resizes : (c : ℕ) (is_open : Bool) (limit : ℕ) → d' ≡ (if is_open then resized limit d else d) → out' ≡ out
      → Accounts (λ n. MayTake c (Owner (owner.Resize limit) owner_reply.Done) n d out) d d' out out'
  resizes c true limit h k =
      idle_fewer (resized limit d) h refl (λ n. times-drop n (given_up limit d) d.idle) k (λ n some. (refl, some))
  resizes c false limit h k = same d h refl refl k

  unhandled : (last : Bool) (n : ℕ) → times n (if last then [] else d.idle) ≤ times n d.idle
  unhandled true n = omega arith
  unhandled false n = omega arith

  owner_numbered : (c : ℕ) (step : OwnerStep) (reply : OwnerReply) → DoesForOwner d step reply d' → out' ≡ out
      → Accounts (λ n. MayTake c (Owner step reply) n d out) d d' out out'
  owner_numbered c owner.Status (owner_reply.Stands status) h k = same _ h.1 refl refl k
  owner_numbered c (owner.Resize limit) owner_reply.Done h k = resizes c d.is_open limit h k
  owner_numbered c (owner.Resize limit) owner_reply.OutOfMemory h k = same _ h.2 refl refl k
  owner_numbered c owner.Close owner_reply.Done h k = idle_fewer _ h refl (λ n. omega arith) k (λ n some. (refl, some))
  owner_numbered c owner.CloneHandle owner_reply.Done h k = same _ h.1 refl refl k
  owner_numbered c owner.CloneHandle owner_reply.NoHandle h k = same _ h.1 refl refl k
  owner_numbered c owner.DropHandle owner_reply.Done h k =
      idle_fewer _ h.1 refl (λ n. unhandled _ n) k (λ n some. (refl, some))
  owner_numbered c owner.DropHandle owner_reply.NoHandle h k = same _ h.1 refl refl k
  owner_numbered c owner.Upgrade owner_reply.Done h k = same _ h.1 refl refl k
  owner_numbered c owner.Upgrade owner_reply.NoHandle h k = same _ h.1 refl refl k
  owner_numbered c _ _ h k = absurd h

entry_numbered : (c : ℕ) (e : Entry) (d d' : DeskState ℕ) (out out' : Out) → IsStep d e d' → HandsOver c e out out'
    → Accounts (λ n. MayTake c e n d out) d d' out out'
entry_numbered c (Made step object reply) d d' out out' h k = numbered d d' out out' c step object reply h k
entry_numbered c (Owner step reply) d d' out out' h k = owner_numbered d d' out out' c step reply h k
entry_numbered c (Retain (Ok removed)) d d' out out' h k =
    idle_fewer d d' out out' _ h.2 refl (λ n. times-remaining n 0 removed d.idle) k (λ n some. some)
entry_numbered c (Retain (Err refused)) d d' out out' h k = same d d' out out' d h.1 refl refl k

pub opens_once : EachOpensNumberedOnce
opens_once limit first min_idle mode most = record { once = λ n. omega arith; given = λ n new. omega arith }

pub numbers_once : EachRunNumbersOnce
numbers_once d d' out out' [] was runs = rw (runs.0, runs.1) was
numbers_once d d' out out' ((c, e) ∷ log) was ((next, (step, later)), (after, (hands, rest))) =
    numbers_once next d' after out' log ((entry_numbered c e d next out after step hands).numbered was) (later, rest)

pub keeps_objects : EachStepKeepsObjects
keeps_objects d d' out out' holder n e step hands some =
    elim ((entry_numbered holder e d d' out out' step hands).stays n) [
      | inl stays ↦ inl (omega (arith, stays, some))
      | inr leaves ↦ inr leaves
    ]

pub goes_for_good : EachNumberGoesForGood
goes_for_good d d' out out' [] n runs old none = rw (runs.0, runs.1) none
goes_for_good d d' out out' ((c, e) ∷ log) n ((next, (step, later)), (after, (hands, rest))) old none =
    let moved = entry_numbered c e d next out after step hands in
    goes_for_good next d' after out' log n (later, rest) (omega (arith, old, moved.onward))
    (omega (arith, none, moved.back n old))

-- who holds it, it stands there
held_times : (c n : ℕ) (out : Out) → holds c n out ≡ true → 1 ≤ times n (numbers_of out)
held_times c n out h =
    let parts = times-parted c n n out h in
    let self : one n n ≡ 1 = rw (eq-eqb n n refl) refl in omega (arith, parts, self)

-- one that stands there once has one holder
one_holder : (a b n : ℕ) (out : Out) → holds a n out ≡ true → holds b n out ≡ true → times n (numbers_of out) ≤ 1
    → a ≡ b
one_holder a b n [] first second few = cc
one_holder a b n (x ∷ xs) first second few =
    let all = times-cons n x.1 (numbers_of xs) in
    elim (cases_Bool (is_held a n x)) [
      | inl first_here ↦
          let mine = and_parts (x.0 == a) (x.1 == n) first_here in
          let here : one x.1 n ≡ 1 = rw mine.1 refl in
          elim (cases_Bool (is_held b n x)) [
            | inl second_here ↦
                sym (eqb-true x.0 a mine.0) ∙ eqb-true x.0 b (and_parts (x.0 == b) (x.1 == n) second_here).0
            | inr second_later ↦
                let more = held_times b n xs (rw second_later at second) in
                absurd (omega (arith, more, all, here, few))
          ]
      | inr first_later ↦
          elim (cases_Bool (is_held b n x)) [
            | inl second_here ↦
                let here : one x.1 n ≡ 1 = rw (and_parts (x.0 == b) (x.1 == n) second_here).1 refl in
                let more = held_times a n xs (rw first_later at first) in
                absurd (omega (arith, more, all, here, few))
            | inr second_later ↦
                one_holder a b n xs (rw first_later at first) (rw second_later at second) (omega (arith, all, few))
          ]
    ]

pub one_holds : EachHasOneHolder
one_holds d out a b n was first second =
    let all = was.once n in
    let some = held_times a n out first in (
      one_holder a b n out first second (omega (arith, all)),
      omega (arith, all, some),
    )
