-- Each move leads from a pool that is well to one that is well and succeeds it, and leaves the others as they were,
-- whatever the outside answers.
use Rattle.deadpool_trial.proofs.Basics.{◌≡◌, ◌≢◌, ◌⊎◌, ℕ, ◌+◌, ◌<◌, ◌≤◌, List, map, Bool, true, false, ◌&&◌, refl}
use Rattle.deadpool_trial.proofs.Basics.{sym, ap, ◌∙◌, arith, inl, inr, ◌==◌, Option, Some, None, slice_get}
use Rattle.deadpool_trial.proofs.Basics.{cases_Bool, and_parts, eqb-true, eqb_tells, nil_from_length, has_number}
use Rattle.deadpool_trial.proofs.Basics.{Always, one_if}
use Rattle.deadpool_trial.proofs.Words.{WithinReach, reach, QueueMode, Timeouts, Runtime, HookLists, Pool, Party}
use Rattle.deadpool_trial.proofs.Words.{bounded, opened, one_step, PoolInvariant, is_queued}
use Rattle.deadpool_trial.proofs.Words.{numbers, IsNumbered, RunInvariant, CountsOn}
use Rattle.deadpool_trial.proofs.Words.{Succeeds, sets_limit, named, may_leave, OthersStayQueued, OthersStand, Slot}
use Rattle.deadpool_trial.proofs.Words.{Move, Reply}
use Rattle.deadpool_trial.proofs.NumberCounts.{times, times-none, times-some, times-once, once-times, held}
use Rattle.deadpool_trial.proofs.NumberCounts.{has_number-held}
use Rattle.deadpool_trial.proofs.Computations.{Always-more}
use Rattle.deadpool_trial.proofs.QueuesAndPlaces.{Follows-lawful, Follows-reach}
use Rattle.deadpool_trial.proofs.NumbersAndOrder.{Passes, count, times-numbers}
use Rattle.deadpool_trial.proofs.AllMoves.{Moved, moved_has}

-- a test that counts holds
one_true : (b : Bool) → 1 ≤ one_if b → b ≡ true
one_true true h = refl
one_true false h = absurd (omega arith)

module _ {V C R S F A : Type 0} (sets : Bool) (name : Option ℕ) (leaving : List (Slot V)) (p q : Pool V C R S F A)
    (k : IsNumbered p) (s : Passes sets name leaving p q) where
  -- a number that comes is the next one
  new_is_next : (n : ℕ) → has_number n (numbers q) ≡ true → has_number n (numbers p) ≡ false
      → (n ≡ p.next) × (q.next ≡ p.next + 1)
  new_is_next n there before =
      let none = times-none n (numbers p) before in
      let now = times-numbers n q in
      let then = times-numbers n p in
      let parts = and_parts s.grows (p.next == n)
      (one_true (s.grows && (p.next == n))
      (omega (arith, times-some n (numbers q) there, none, now, then, s.few n))) in
      (sym (eqb-true p.next n parts.1), s.next ∙ ap (λ b. p.next + one_if b) parts.0)

  at_most_one : (n : ℕ) → times n (numbers q) ≤ 1
  at_most_one n =
      let then = times-numbers n p in
      let few = s.few n in
      elim (cases_Bool (s.grows && (p.next == n))) [
        | inl new ↦
            let same : p.next ≡ n = eqb-true p.next n (and_parts s.grows (p.next == n) new).1 in
            let one : one_if (s.grows && (p.next == n)) ≡ 1 = ap one_if new in
            elim (cases_Bool (has_number n (numbers p))) [
              | inl there ↦ let within = k.given n there in absurd (omega (arith, within, same))
              | inr gone ↦ let none = times-none n (numbers p) gone in
                  omega (arith, none, times-numbers n q, then, few, one)
            ]
        | inr old ↦ let zero : one_if (s.grows && (p.next == n)) ≡ 0 = ap one_if old in
            omega (arith, times-once n (numbers p) k.once, times-numbers n q, then, few, zero)
      ]

  -- only numbers that were given stand there
  all_given : (n : ℕ) → has_number n (numbers q) ≡ true → (q.first ≤ n) × (n < q.next)
  all_given n there =
      elim (cases_Bool (has_number n (numbers p))) [
        | inl before ↦ let within = k.given n before in (omega (arith, within, s.first), omega (arith, within, s.next))
        | inr gone ↦ let new = new_is_next n there gone in let rising = k.rising in
            (omega (arith, new, s.first, rising), omega (arith, new))
      ]

  numbered : IsNumbered q
  numbered = let first = s.first in let next = s.next in let rising = k.rising in
      record {
        once = once-times (numbers q) at_most_one;
        given = all_given;
        rising = omega (arith, first, next, rising);
      }

  -- from p on the numbers rise
  counts_on : CountsOn p q
  counts_on = let next = s.next in record { first = s.first; next = omega (arith, next); new = new_is_next }

-- a name is of the number, or of none or another
is_name : (name : Option ℕ) (n : ℕ) → (name ≡ Some n) ⊎ (name ≢ Some n)
is_name None n = inr (λ e. cc)
is_name (Some k) n = elim (eqb_tells k n) [ inl same ↦ inl (ap Some same.1) | inr other ↦ inr (λ e. other.1 cc) ]

module _ {V C R S F A : Type 0} where
  -- if the others are as they were, those that were queued are
  pub others_stay_queued : (m : Move V) (p q : Pool V C R S F A) → PoolInvariant p → PoolInvariant q → OthersStand m p q
      → OthersStayQueued m p q
  others_stay_queued m p q l k others n there gone =
      elim (is_name (named m) n) [
        | inl this ↦ this
        | inr other ↦ absurd (still (slice_get p.parties n) refl other)
      ]
    where
      still : (found : Option (Option (Party V C R S))) → slice_get p.parties n ≡ found → named m ≢ Some n → ⊥
      still None e other =
          let before : is_queued (slice_get p.parties n) ≡ true = sym (l.marks n) ∙ there in
          let none : is_queued (slice_get p.parties n) ≡ false = ap is_queued e in cc
      still (Some party) e other =
          let before : is_queued (slice_get p.parties n) ≡ true = sym (l.marks n) ∙ there in
          let after : is_queued (slice_get q.parties n) ≡ false = sym (k.marks n) ∙ gone in
          let same : slice_get q.parties n ≡ slice_get p.parties n = others n party other e ∙ sym e in cc

  -- if no more leave than some of these, another's number stays
  pub others_stay : (leaving : List (Slot V)) (p q : Pool V C R S F A)
      → ((n : ℕ) → count n p ≤ count n q + held n leaving) → (n : ℕ) → has_number n (numbers p) ≡ true
      → has_number n (numbers q) ≡ false
      → has_number n (map (λ slot. slot.number) leaving) ≡ true
  others_stay leaving p q stay n there gone =
      has_number-held n leaving
      (omega (
        arith,
        times-some n (numbers p) there,
        times-none n (numbers q) gone,
        times-numbers n p,
        times-numbers n q,
        stay n,
      ))

  -- a step that has so much leads from a pool that is well to one that is well and succeeds it
  passes_well : (sets : Bool) (name : Option ℕ) (leaving : List (Slot V)) (p q : Pool V C R S F A) → RunInvariant p
      → PoolInvariant q → Passes sets name leaving p q → RunInvariant q × Succeeds p q
  passes_well sets name leaving p q w l s =
      let few = s.few_idle w.few_idle in (
        record {
          lawful = l;
          few_idle = few;
          closed = λ shut. let none : q.limit ≡ 0 = s.closed (λ before. (w.closed before).0) shut in
              (none, nil_from_length q.idle (omega (arith, few, none)));
          numbered = numbered sets name leaving p q w.numbered s;
        },
        record { counted = counts_on sets name leaving p q w.numbered s; queued = s.order },
      )

  pub opened_well : (max_waiting : Option ℕ) (limit : ℕ) (mode : QueueMode) (runtime : Option Runtime)
      (hooks : HookLists F A) (timeouts : Timeouts) (first most min_idle : ℕ)
      → RunInvariant (bounded max_waiting
      (opened {V = V} {C = C} {R = R} {S = S} limit mode runtime hooks timeouts first most min_idle))
  opened_well max_waiting limit mode runtime hooks timeouts first most min_idle = record {
    lawful = record { once = tt; marks = λ n. refl; nobody_waits = λ opens free. refl; few_waiting = omega arith };
    few_idle = omega arith;
    closed = λ shut. cc;
    numbered = record { once = tt; given = λ n h. cc; rising = omega arith };
  }

module _ {V E C R S F A : Type 0} where
  -- the pool after a step is well, succeeds p, and is within its reach
  abbrev pub WellAfter : Pool V C R S F A → Reply V E × Pool V C R S F A → Type 0
  WellAfter p x = RunInvariant x.1 × Succeeds p x.1 × WithinReach p x.1

  -- what a move has leads from a pool that is well to such a one
  pub well_after : (m : Move V) (p : Pool V C R S F A) (x : Reply V E × Pool V C R S F A) → RunInvariant p → Moved p m x
      → WellAfter p x
  well_after m p x w h =
      let all = passes_well (sets_limit m) (named m) (may_leave m p) p x.1 w (Follows-lawful (reach p) x.1 h.0) h.1 in
      (all.0, all.1, Follows-reach (reach p) x.1 h.0)

module _ {V C R S F A : Type 0} (E : Type 0) where
  -- a pool that is well stays so by any move
  pub moved_well : (m : Move V) (p : Pool V C R S F A) → RunInvariant p → Always (WellAfter {E = E} p) (one_step m p)
  moved_well m p w =
      Always-more (Moved p m) (WellAfter p) (λ x h. well_after m p x w h) (one_step m p) (moved_has E p w.lawful m)
