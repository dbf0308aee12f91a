-- In a lawful pool no party stands in two lists.
use Rattle.deadpool_trial.proofs.Basics.{◌≡◌, ℕ, ◌+◌, ◌<◌, ◌≤◌, suc, zero, List, [], ◌∷◌, ◌++◌, Bool, true, false}
use Rattle.deadpool_trial.proofs.Basics.{refl, sym, ap, ◌∙◌, arith, inl, inr, Option, Some, None, slice_get, is_some}
use Rattle.deadpool_trial.proofs.Basics.{◌==◌, cases_Bool, ne_eqb, has_number, one_if}
use Rattle.deadpool_trial.proofs.Words.{Pool, Party, Standing, unpolled, goes, creates, prepared_at, is_going}
use Rattle.deadpool_trial.proofs.Words.{is_creating, PoolInvariant, queue, waits_at}
use Rattle.deadpool_trial.proofs.Words.{is_queued, places_from, is_preparing}
use Rattle.deadpool_trial.proofs.Words.{listed, IsListedOnce}
use Rattle.deadpool_trial.proofs.NumberCounts.{times, times-cons, times-append, times-none, times-once, once-times}

module _ {X : Type 0} (f : X → Bool) where
  -- what may be there passes the test
  abbrev passes : Option X → Bool
  passes None = false
  passes (Some x) = f x

  -- no place is before the first
  times-before : (xs : List X) (first n : ℕ) → n < first → times n (places_from first f xs) ≡ 0
  times-before [] first n h = refl
  times-before (x ∷ xs) first n h =
      let rest = times-before xs (first + 1) n (omega arith) in
      let other : (first == n) ≡ false = ne_eqb first n (λ e. omega (arith, e)) in
      elim (cases_Bool (f x)) [ inl here ↦ rw (here, other) rest | inr gone ↦ rw gone rest ]

  -- a place stands there once if what is there passes the test, and not at all elsewhere
  times-places : (xs : List X) (first k n : ℕ) → n ≡ first + k
      → times n (places_from first f xs) ≤ one_if (passes (slice_get xs k))
  times-places [] first k n e = omega arith
  times-places (x ∷ xs) first zero n e =
      let rest = times-before xs (first + 1) n (omega arith) in
      elim (cases_Bool (f x)) [
        | inl here ↦ let one : one_if (first == n) ≤ 1 = one_at_most (first == n) in
            rw here (omega (arith, rest, times-cons n first (places_from (first + 1) f xs), one))
        | inr gone ↦ rw gone (omega (arith, rest))
      ]
    where
      one_at_most : (b : Bool) → one_if b ≤ 1
      one_at_most true = omega arith
      one_at_most false = omega arith
  times-places (x ∷ xs) first (suc k) n e =
      let rest = times-places xs (first + 1) k n (omega arith) in
      let other : (first == n) ≡ false = ne_eqb first n (λ same. omega (arith, same, e)) in
      elim (cases_Bool (f x)) [ inl here ↦ rw (here, other) rest | inr gone ↦ rw gone rest ]

module _ {V C R S : Type 0} where
  -- a party stands in one way
  one_standing : (standing : Standing V C R S)
      → one_if (waits_at standing) + one_if (goes standing) + one_if (creates standing)
      + one_if (is_some (prepared_at standing)) ≤ 1
  one_standing unpolled = omega arith
  one_standing _ = omega arith

  -- also one that may not be there
  one_at : (found : Option (Option (Party V C R S)))
      → one_if (is_queued found) + one_if (passes is_going found) + one_if (passes is_creating found)
      + one_if (passes is_preparing found) ≤ 1
  one_at None = omega arith
  one_at (Some None) = omega arith
  one_at (Some (Some party)) = one_standing party.standing

module _ {V C R S F A : Type 0} (p : Pool V C R S F A) (l : PoolInvariant p) where
  -- who is in the queue is there once, and stands as queued
  times-queue : (n : ℕ) → times n (queue p) ≤ one_if (is_queued (slice_get p.parties n))
  times-queue n =
      elim (cases_Bool (has_number n (queue p))) [
        | inl there ↦ let once = times-once n (queue p) l.once in
            let one : one_if (is_queued (slice_get p.parties n)) ≡ 1 = ap one_if (sym (l.marks n) ∙ there) in
            omega (arith, once, one)
        | inr gone ↦ let none = times-none n (queue p) gone in omega (arith, none)
      ]

  -- a party is at most once in all the lists
  times-listed : (n : ℕ) → times n (listed p) ≤ 1
  times-listed n =
      let going_parties = places_from 0 is_going p.parties in
      let creating_parties = places_from 0 is_creating p.parties in
      let preparing_parties = places_from 0 is_preparing p.parties in
      let sum1 = times-append n (p.waiting ++ p.granted) going_parties in
      let sum2 = times-append n (p.waiting ++ p.granted ++ going_parties) creating_parties in
      let sum3 = times-append n (p.waiting ++ p.granted ++ going_parties ++ creating_parties) preparing_parties in
      let goers = times-places is_going p.parties 0 n n (omega arith) in
      let creators = times-places is_creating p.parties 0 n n (omega arith) in
      let preparers = times-places is_preparing p.parties 0 n n (omega arith) in
      let one = one_at (slice_get p.parties n) in
      omega (
        arith,
        times-append n p.waiting p.granted,
        sum1,
        sum2,
        sum3,
        times-append n p.granted p.waiting,
        times-queue n,
        goers,
        creators,
        preparers,
        one,
      )

  -- no party is in two of them
  pub listed_once : IsListedOnce p
  listed_once = once-times (listed p) times-listed
