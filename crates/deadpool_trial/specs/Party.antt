-- What one advance of a party does, by where it stands, and what its cancelling does.
use Rattle.std.specs.Prelude.{ℕ, ◌+◌, Bool, true, false, [], ◌∷◌, ◌++◌, Option, Some, None, Result, Ok, Err}
use Rattle.std.specs.Prelude.{if◌then◌else◌, length, nat_lt, nat_le, not}
use Rattle.futures.specs.declared.task.Poll.{Poll}
use Rattle.futures.specs.declared.task.Poll.TheVariants as poll
use Rattle.deadpool_parts.specs.Moments.{deadline_after, is_reached, lacks_runtime, cannot_wait}
use Rattle.deadpool_gate.specs.Numbers.{has_number}
use Rattle.deadpool_parts.specs.Program.{Return, ask, ◌>>=◌}
use Rattle.deadpool_parts.specs.declared.moment.Moment.{Moment}
use Rattle.deadpool_parts.specs.declared.errors.PoolError.TheVariants.{Timeout, Backend, Closed, NoRuntimeSpecified}
use Rattle.deadpool_parts.specs.declared.errors.PoolError.TheVariants.{PostCreateHook, Crowded, OutOfMemory}
use Rattle.deadpool_parts.specs.declared.errors.TimeoutType.TheVariants as phase
use Rattle.deadpool_managed.specs.Calls.{start}
use Rattle.deadpool_managed.specs.Metrics.{new_metrics}
use Rattle.deadpool_managed.specs.Outside.{Asking, Detach, Reserve}
use Rattle.deadpool_managed.specs.Prepare.{create, prepare, post_create, with_value}
use Rattle.deadpool_trial.specs.Pool.{Pool, Party, Standing, unpolled, queued, going, creating, recycling, checking}
use Rattle.deadpool_trial.specs.Pool.{finished, prepared_at, places}
use Rattle.deadpool_trial.specs.Steps.{to, unqueued, removed, fail, rest, go_on, serve, with_slot}
use Rattle.deadpool_managed.specs.Slots.{Slot}
use Rattle.deadpool_managed.specs.declared.calls.Verdict.{Verdict}
use Rattle.deadpool_managed.specs.declared.calls.Verdict.TheVariants as verdict
use Rattle.deadpool_managed.specs.Stages.{Prepared}
use Rattle.deadpool_managed.specs.Stages as prepared
use Rattle.deadpool_trial.specs.declared.moves.Reply.{Reply}
use Rattle.deadpool_trial.specs.declared.moves.Reply.TheVariants.{Pending, Object, Cancelled}

module _ {V E C R S F A : Type 0} where
  -- the entry into the queue, if memory was found for it
  abbrev pub joined : ℕ → Party V C R S → Option Moment → Pool V C R S F A → Bool → Reply V E × Pool V C R S F A
  joined n party deadline p true = rest n party (queued deadline) (record p { waiting = p.waiting ++ n ∷ [] })
  joined n party deadline p false = fail n party OutOfMemory p

  -- the first poll of a party
  abbrev pub enter : ℕ → Party V C R S → Moment → Pool V C R S F A → Asking V E C R S F A (Reply V E × Pool V C R S F A)
  enter n party now p =
      let deadline = deadline_after now party.timeouts.wait in
      if cannot_wait p.runtime party.timeouts.wait then Return (fail n party NoRuntimeSpecified p)
      else if not p.is_open then Return (fail n party Closed p)
      else if nat_lt (places p) p.limit then Return (serve n party None p)
      else if is_reached deadline now then Return (fail n party (Timeout phase.Wait) p)
      else if nat_le p.max_waiting (length p.waiting) then Return (fail n party Crowded p)
      else (ask Reserve >>= λ found. Return (joined n party deadline p found))

  -- a later poll of a party that waits or was granted a place
  abbrev pub inquire : ℕ → Party V C R S → Moment → Option Moment → Pool V C R S F A → Reply V E × Pool V C R S F A
  inquire n party now deadline p =
      if not p.is_open then fail n party Closed p
      else if has_number n p.granted then serve n party None (unqueued n p)
      else if is_reached deadline now then fail n party (Timeout phase.Wait) p
      else rest n party (queued deadline) p

  -- the object is handed out, and the party has ended
  abbrev pub hand_out : ℕ → Party V C R S → Slot V → Pool V C R S F A → Reply V E × Pool V C R S F A
  hand_out n party slot p = (Object slot.number, to n party finished (record p { out = with_slot slot p.out }))

  -- what follows on a preparation: an object that is given up leaves the party with its place
  abbrev pub reviewed : ℕ → Party V C R S → Option ℕ → Pool V C R S F A → Prepared V R S
      → Asking V E C R S F A (Reply V E × Pool V C R S F A)
  reviewed n party allowance p (prepared.Accepted slot) = Return (hand_out n party slot p)
  reviewed n party allowance p (prepared.Pending preparation) = Return (rest n party (recycling preparation None) p)
  reviewed n party allowance p (prepared.GivenUp slot) =
      ask (Detach slot.value.value) >>= λ left. Return (go_on n party (going allowance) p)

  -- what follows on the hooks that see a new object
  abbrev pub checked : ℕ → Party V C R S → Slot V → Pool V C R S F A → Verdict S E × V
      → Asking V E C R S F A (Reply V E × Pool V C R S F A)
  checked n party slot p (verdict.Accepted, v) = Return (hand_out n party (with_value v slot) p)
  checked n party slot p (verdict.Pending at, v) = Return (rest n party (checking (with_value v slot) at) p)
  checked n party slot p (verdict.Refused cause, v) =
      ask (Detach v) >>= λ left. Return (fail n party (PostCreateHook cause) p)

  -- what follows on a creation's answer: a new object has the next number
  abbrev pub created : ℕ → Party V C R S → Moment → Option Moment → Pool V C R S F A → Poll (Result V E) × C
      → Reply V E × Pool V C R S F A
  created n party now deadline p (poll.Ready (Ok value), c) =
      go_on n party (checking record {
        number = p.next;
        value = record { value = value; metrics = new_metrics now };
      } start) (record p { next = p.next + 1 })
  created n party now deadline p (poll.Ready (Err cause), c) = fail n party (Backend cause) p
  created n party now deadline p (poll.Pending, c) =
      if is_reached deadline now then fail n party (Timeout phase.Create) p else rest n party
      (creating (Some c) deadline) p

  -- A creation that is not begun begins now. A timeout without a runtime ends the get, and nothing is asked.
  abbrev pub go_on_creating : ℕ → Party V C R S → Moment → Option C → Option Moment → Pool V C R S F A
      → Asking V E C R S F A (Reply V E × Pool V C R S F A)
  go_on_creating n party now (Some c) deadline p = create (Some c) >>= λ x. Return (created n party now deadline p x)
  go_on_creating n party now None deadline p =
      if lacks_runtime p.runtime party.timeouts.create then Return (fail n party NoRuntimeSpecified p)
      else (create None >>= λ x. Return (created n party now (deadline_after now party.timeouts.create) p x))

  -- one advance, by where the party stands
  abbrev pub advance_at : Standing V C R S → ℕ → Party V C R S → Moment → Pool V C R S F A
      → Asking V E C R S F A (Reply V E × Pool V C R S F A)
  advance_at unpolled n party now p = enter n party now p
  advance_at (queued deadline) n party now p = Return (inquire n party now deadline p)
  advance_at (going allowance) n party now p = Return (serve n party allowance p)
  advance_at (creating begun deadline) n party now p = go_on_creating n party now begun deadline p
  advance_at (recycling preparation allowance) n party now p =
      prepare now p.runtime party.timeouts.recycle p.hooks preparation >>= λ x. reviewed n party allowance p x
  advance_at (checking slot at) n party now p = post_create p.hooks slot at >>= λ x. checked n party slot p x
  advance_at finished n party now p = Return (Pending, p)

  abbrev pub advance : ℕ → Moment → Party V C R S → Pool V C R S F A
      → Asking V E C R S F A (Reply V E × Pool V C R S F A)
  advance n now party p = advance_at party.standing n party now p

  -- what the party held is given back, and the object that it prepared is given up
  abbrev pub cancel_with : Option (Slot V) → ℕ → Pool V C R S F A → Asking V E C R S F A (Reply V E × Pool V C R S F A)
  cancel_with (Some slot) n p = ask (Detach slot.value.value) >>= λ left. Return (Cancelled, removed n p)
  cancel_with None n p = Return (Cancelled, removed n p)

  abbrev pub cancel : ℕ → Party V C R S → Pool V C R S F A → Asking V E C R S F A (Reply V E × Pool V C R S F A)
  cancel n party p = cancel_with (prepared_at party.standing) n p
