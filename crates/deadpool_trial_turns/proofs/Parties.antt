-- One in the queue, as a party makes an advance or is cancelled, itself or another: if it waits then it waited before,
-- and had no fewer ahead of it.
use Rattle.deadpool_trial.proofs.Basics.{◌≡◌, ℕ, ◌++◌, [], ◌∷◌, Bool, true, false, not, ◌&&◌, ◌==◌, nat_lt, nat_le}
use Rattle.deadpool_trial.proofs.Basics.{length}
use Rattle.deadpool_trial.proofs.Basics.{refl, drop, Option, Some, None, Result, Ok, Err, Return, Always}
use Rattle.deadpool_trial.proofs.Basics.{Always-bind, cond_both, has_number, without_number, IsOnce, IsOnce-without}
use Rattle.deadpool_trial.proofs.Basics.{largest_usize, unwrap_or, is_none, slice_get, eqb-true, cases_Bool, inl, inr}
use Rattle.deadpool_trial.proofs.Words.{PoolInvariant, queue, created, reviewed, checked, advance_at, enter}
use Rattle.deadpool_trial.proofs.Words.{inquire, joined, go_on_creating, cancel_with, Pool, unpolled}
use Rattle.deadpool_trial.proofs.Words.{queued, going, Standing, creating, recycling, checking, finished}
use Rattle.deadpool_trial.proofs.Words.{creating_count, fail, removed, serve_from, next_idle, Asking}
use Rattle.deadpool_trial.proofs.Words.{create, prepare, post_create, Position, Preparation, Prepared, Verdict, Slot}
use Rattle.deadpool_trial.proofs.Words.{deadline_after, is_reached, lacks_runtime, is_positive, Timeouts, PoolError}
use Rattle.deadpool_trial.proofs.Words.{Timeout, Backend, NoRuntimeSpecified, PostCreateHook, Closed, OutOfMemory}
use Rattle.deadpool_trial.proofs.Words.{Crowded, Moment, Poll, places}
use Rattle.deadpool_trial.specs.declared.moves.Reply.{Reply}
use Rattle.deadpool_trial.specs.declared.moves.Reply.TheVariants as reply
use Rattle.futures.specs.declared.task.Poll.TheVariants as poll
use Rattle.deadpool_parts.specs.declared.errors.TimeoutType.TheVariants as phase
use Rattle.deadpool_managed.specs.declared.calls.Verdict.TheVariants as verdict
use Rattle.deadpool_managed.specs.Stages as prepared
use Rattle.deadpool_trial.proofs.QueuesAndPlaces.{not_queued, standing_at}
use Rattle.deadpool_trial_turns.proofs.Waiting.{Comes, comes_dropped, comes_pushed, comes_same}
use Rattle.deadpool_trial_turns.proofs.Waiting.{comes_without}
use Rattle.std.proofs.Common.{List, arith, ◌+◌}

-- those that wait are in the queue once
pub once_waiting : (granted waiting : List ℕ) → IsOnce (granted ++ waiting) → IsOnce waiting
once_waiting [] waiting once = once
once_waiting (x ∷ granted) waiting once = once_waiting granted waiting once.1

-- the one in the queue is n, the one that makes the advance is m
module _ {V C R S F A : Type 0} (E : Type 0) (n m : ℕ) (timeouts : Timeouts) (p : Pool V C R S F A)
    (l : PoolInvariant p) (there : has_number n (queue p) ≡ true) where
  abbrev pub Behind : Reply V E × Pool V C R S F A → Type 0
  Behind x = Comes 0 n p.waiting x.1.waiting

  once : IsOnce p.waiting
  once = once_waiting p.granted p.waiting l.once

  -- some that wait go, and one with them
  leaves : (k : ℕ) (ws : List ℕ) → IsOnce ws → Comes 0 n p.waiting ws
      → Comes 0 n p.waiting (drop k (without_number m ws))
  leaves k ws is_once comes waits =
      let gone = comes_dropped n k (without_number m ws) (IsOnce-without m ws is_once) waits in
      let before = comes_without n m ws gone.0 in
      let first = comes before.0 in
      (first.0, omega (arith, first.1, before.1, gone.1))

  fails : (standing : Standing V C R S) (cause : PoolError E)
      → Behind (fail m (standing_at timeouts standing) cause p)
  fails standing cause = leaves _ p.waiting once (comes_same n p.waiting)

  gone : Behind (reply.Cancelled, removed m p)
  gone = leaves _ p.waiting once (comes_same n p.waiting)

  -- one that holds a place is served, from a pool in which they wait so
  served : (standing : Standing V C R S) (granted waiting : List ℕ) → IsOnce waiting → Comes 0 n p.waiting waiting
      → (found : Option (Slot V)) (allowed : ℕ)
      → Behind (serve_from found allowed m (standing_at timeouts standing)
      (record p { granted = granted; waiting = waiting }))
  served standing granted waiting is_once comes (Some slot) allowed =
      cond_both (nat_lt 0 allowed) _ _ Behind (λ some. comes) (λ none. comes)
  served standing granted waiting is_once comes None allowed =
      cond_both (nat_lt (p.next + creating_count p) largest_usize) _ _ Behind (λ few. comes)
      (λ full. leaves _ waiting is_once comes)

  -- one that is not in the queue joins it
  joins : (deadline : Option Moment) (found : Bool)
      → slice_get p.parties m ≡ Some (Some (standing_at timeouts unpolled))
      → Behind (joined m (standing_at timeouts unpolled) deadline p found)
  joins deadline true h =
      let out_of_it = not_queued m (standing_at timeouts unpolled) p l.marks h refl in
      let other : (m == n) ≡ false = elim (cases_Bool (m == n)) [
        | inl same ↦ absurd (let in_it : has_number m (queue p) ≡ true = rw (eqb-true m n same) there in cc)
        | inr other ↦ other
      ] in
      comes_pushed n m p.waiting other
  joins deadline false h = fails unpolled OutOfMemory

  -- by what came of a preparation
  prepares : (preparation : Preparation V R S) (allowance : Option ℕ) (x : Prepared V R S)
      → Always Behind (reviewed m (standing_at timeouts (recycling preparation allowance)) allowance p x)
  prepares preparation allowance (prepared.Accepted slot) = comes_same n p.waiting
  prepares preparation allowance (prepared.Pending next) = comes_same n p.waiting
  prepares preparation allowance (prepared.GivenUp slot) = λ left. comes_same n p.waiting

  -- by what came of the hooks that see a new object
  checks : (slot : Slot V) (at : Position S) (x : Verdict S E × V)
      → Always Behind (checked m (standing_at timeouts (checking slot at)) slot p x)
  checks slot at (verdict.Accepted, v) = comes_same n p.waiting
  checks slot at (verdict.Pending next, v) = comes_same n p.waiting
  checks slot at (verdict.Refused cause, v) = λ left. fails (checking slot at) (PostCreateHook cause)

  pub cancelled : (object : Option (Slot V)) → Always Behind (cancel_with object m p)
  cancelled (Some slot) = λ left. gone
  cancelled None = gone

  module _ (now : Moment) where
    enters : slice_get p.parties m ≡ Some (Some (standing_at timeouts unpolled))
        → Always Behind (enter m (standing_at timeouts unpolled) now p)
    enters h =
        let P : Asking V E C R S F A (Reply V E × Pool V C R S F A) → Type 0 = Always Behind in
        cond_both (is_positive timeouts.wait && is_none p.runtime) _ _ P (λ lacks. fails unpolled NoRuntimeSpecified)
        (λ serves.
        cond_both (not p.is_open) _ _ P (λ closed. fails unpolled Closed) (λ opens.
        cond_both (nat_lt (places p) p.limit) _ _ P
        (λ few. served unpolled p.granted p.waiting once (comes_same n p.waiting) (next_idle p.mode p.idle)
        (length p.idle))
        (λ full.
        cond_both (is_reached (deadline_after now timeouts.wait) now) _ _ P
        (λ late. fails unpolled (Timeout phase.Wait)) (λ early.
        cond_both (nat_le p.max_waiting (length p.waiting)) _ _ P (λ crowded. fails unpolled Crowded)
        (λ roomy found. joins (deadline_after now timeouts.wait) found h)))))

    inquires : (deadline : Option Moment) → Behind (inquire m (standing_at timeouts (queued deadline)) now deadline p)
    inquires deadline =
        cond_both (not p.is_open) _ _ Behind (λ closed. fails (queued deadline) Closed) (λ opens.
        cond_both (has_number m p.granted) _ _ Behind
        (λ granted. served (queued deadline) (without_number m p.granted) (without_number m p.waiting)
        (IsOnce-without m p.waiting once) (comes_without n m p.waiting) (next_idle p.mode p.idle) (length p.idle))
        (λ waits.
        cond_both (is_reached deadline now) _ _ Behind (λ late. fails (queued deadline) (Timeout phase.Wait))
        (λ early. comes_same n p.waiting)))

    creates : (begun : Option C) (before deadline : Option Moment) (x : Poll (Result V E) × C)
        → Behind (created m (standing_at timeouts (creating begun before)) now deadline p x)
    creates begun before deadline (poll.Ready (Ok value), c) = comes_same n p.waiting
    creates begun before deadline (poll.Ready (Err cause), c) = fails (creating begun before) (Backend cause)
    creates begun before deadline (poll.Pending, c) =
        cond_both (is_reached deadline now) _ _ Behind (λ late. fails (creating begun before) (Timeout phase.Create))
        (λ early. comes_same n p.waiting)

    goes_on_creating : (begun : Option C) (deadline : Option Moment)
        → Always Behind (go_on_creating m (standing_at timeouts (creating begun deadline)) now begun deadline p)
    goes_on_creating (Some c) deadline =
        Always-bind Behind (create {R = R} {S = S} {F = F} {A = A} (Some c))
        (λ x. Return (created m (standing_at timeouts (creating (Some c) deadline)) now deadline p x))
        (λ x. creates (Some c) deadline deadline x)
    goes_on_creating None deadline =
        let after = deadline_after now timeouts.create in
        let P : Asking V E C R S F A (Reply V E × Pool V C R S F A) → Type 0 = Always Behind in
        cond_both (lacks_runtime p.runtime timeouts.create) _ _ P
        (λ lacks. fails (creating None deadline) NoRuntimeSpecified)
        (λ serves. Always-bind Behind (create {R = R} {S = S} {F = F} {A = A} None)
        (λ x. Return (created m (standing_at timeouts (creating None deadline)) now after p x))
        (λ x. creates None deadline after x))

    -- an advance, by the standing of the party
    pub advanced : (old : Standing V C R S) → slice_get p.parties m ≡ Some (Some (standing_at timeouts old))
        → Always Behind (advance_at old m (standing_at timeouts old) now p)
    advanced unpolled h = enters h
    advanced (queued deadline) h = inquires deadline
    advanced (going allowance) h =
        served (going allowance) p.granted p.waiting once (comes_same n p.waiting) (next_idle p.mode p.idle)
        (unwrap_or allowance (length p.idle))
    advanced (creating begun deadline) h = goes_on_creating begun deadline
    advanced (recycling preparation allowance) h =
        Always-bind Behind (prepare now p.runtime timeouts.recycle p.hooks preparation)
        (λ x. reviewed m (standing_at timeouts (recycling preparation allowance)) allowance p x)
        (λ x. prepares preparation allowance x)
    advanced (checking slot at) h =
        Always-bind Behind (post_create p.hooks slot at)
        (λ x. checked m (standing_at timeouts (checking slot at)) slot p x) (λ x. checks slot at x)
    advanced finished h = comes_same n p.waiting
