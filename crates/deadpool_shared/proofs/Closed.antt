-- A pool that its caller has closed is closed: whatever came between, no step opens it again.
use Rattle.std.proofs.Common.{◌≡◌, ◌≢◌, ℕ, ◌==◌, Bool, true, false, List, [], ◌∷◌, ◌++◌, Option, Some, None, inl, inr}
use Rattle.std.proofs.Common.{refl, ap, subst}
use Rattle.std.specs.Bool.{⊤}
use Rattle.std.proofs.lemmas.Bool.{cases_Bool}
use Rattle.std.specs.Prelude.{filter, map, Ok, Err}
use Rattle.futures.specs.declared.task.Poll.{Poll}
use Rattle.futures.specs.declared.task.Poll.TheVariants.{Ready, Pending}
use Rattle.deadpool_chronicle.specs.History.{Knowing, calls_by}
use Rattle.deadpool_desk.proofs.Closing.{step_shrinks}
use Rattle.deadpool_desk.specs.DeskState.{DeskState}
use Rattle.deadpool_desk.specs.DeskSteps.{DoesForOwner}
use Rattle.deadpool_desk.specs.declared.owner_step.OwnerReply.{OwnerReply}
use Rattle.deadpool_desk.specs.declared.owner_step.OwnerReply.TheVariants as owner_reply
use Rattle.deadpool_desk.specs.declared.owner_step.OwnerStep.{OwnerStep}
use Rattle.deadpool_desk.specs.declared.owner_step.OwnerStep.TheVariants as owner
use Rattle.deadpool_history.specs.History.{History, IsHistoryOf, LeadsTo, entries_of}
use Rattle.deadpool_history.specs.declared.line.Line.{Line}
use Rattle.deadpool_history.specs.declared.line.Line.TheVariants.{Opening, Next, Told, Ending}
use Rattle.deadpool_journal.proofs.Balance.{runs}
use Rattle.deadpool_journal.specs.ByNumber.{numbered}
use Rattle.deadpool_journal.specs.Journaling.{Journaling, opening}
use Rattle.deadpool_journal.specs.Replay.{IsStep, Runs}
use Rattle.deadpool_journal.specs.Tally.{no_tally}
use Rattle.deadpool_journal.specs.declared.entry.Entry.{Entry}
use Rattle.deadpool_journal.specs.declared.entry.Entry.TheVariants.{Made, Owner, Retain}
use Rattle.deadpool_lock.specs.declared.ended.DrainError.{DrainError}
use Rattle.deadpool_parts.specs.declared.status.Status.{Status}
use Rattle.deadpool_shared.specs.Drains.{DrainsAndTells, HasClosed, HasEnded, IsCloser, NoneCloses}
use Rattle.std.specs.Prelude.{Result}

abbrev close : Entry
close = Owner owner.Close owner_reply.Done

owner_closed : (d d' : DeskState ℕ) (step : OwnerStep) (reply : OwnerReply) → d.is_open ≡ false
    → DoesForOwner d step reply d' → d'.is_open ≡ false
owner_closed d d' owner.Status (owner_reply.Stands status) shut h = rw h.1 shut
owner_closed d d' (owner.Resize limit) owner_reply.Done shut h = rw (h, shut) refl
owner_closed d d' (owner.Resize limit) owner_reply.OutOfMemory shut h = rw h.2 shut
owner_closed d d' owner.Close owner_reply.Done shut h = rw h refl
owner_closed d d' owner.CloneHandle owner_reply.Done shut h = rw h.1 shut
owner_closed d d' owner.CloneHandle owner_reply.NoHandle shut h = rw h.1 shut
owner_closed d d' owner.DropHandle owner_reply.Done shut h = rw h.1 shut
owner_closed d d' owner.DropHandle owner_reply.NoHandle shut h = rw h.1 shut
owner_closed d d' owner.Upgrade owner_reply.Done shut h = rw h.1 shut
owner_closed d d' owner.Upgrade owner_reply.NoHandle shut h = rw h.1 shut
owner_closed d d' _ _ shut h = absurd h

step_closed : (d d' : DeskState ℕ) (e : Entry) → d.is_open ≡ false → IsStep d e d' → d'.is_open ≡ false
step_closed d d' (Made step object reply) shut h = (step_shrinks d d' step object reply h shut).closed
step_closed d d' (Owner step reply) shut h = owner_closed d d' step reply shut h
step_closed d d' (Retain (Ok removed)) shut h = rw h.2 shut
step_closed d d' (Retain (Err refused)) shut h = rw h.1 shut

stays_closed : (d d' : DeskState ℕ) (es : List Entry) → d.is_open ≡ false → Runs d es d' → d'.is_open ≡ false
stays_closed d d' [] shut h = rw h shut
stays_closed d d' (e ∷ es) shut h = stays_closed h.0 d' es (step_closed d h.0 e shut h.1.0) h.1.1

-- none of these steps closes a pool
abbrev Others : List Entry → Type 0
Others [] = ⊤
Others (e ∷ es) = (e ≢ close) × Others es

-- what a run leaves open, no step of it has closed
none_closes : (d d' : DeskState ℕ) (es : List Entry) → d'.is_open ≡ true → Runs d es d' → Others es
none_closes d d' [] opens h = tt
none_closes d d' (e ∷ es) opens h = (
  λ is.
      let closes : IsStep d close h.0 = subst (λ (f : Entry). IsStep d f h.0) is h.1.0 in
      let shut = stays_closed h.0 d' es (ap (λ (c : DeskState ℕ). c.is_open) closes) h.1.1 in
      let differ : true ≡ false = rw opens at shut in cc,
  none_closes h.0 d' es opens h.1.1,
)

-- so nobody has
nobody_closed : (number : ℕ) (log : History) → Others (entries_of log) → NoneCloses (calls_by number log)
nobody_closed number [] none = tt
nobody_closed number ((by, Next e) ∷ log) none =
    elim (cases_Bool (by == number)) [
      | inl is ↦ rw is ((λ same. none.0 cc), nobody_closed number log none.1)
      | inr is ↦ rw is (nobody_closed number log none.1)
    ]
nobody_closed number ((by, Told ticket) ∷ log) none =
    elim (cases_Bool (by == number)) [
      | inl is ↦ rw is ((λ same. cc), nobody_closed number log none)
      | inr is ↦ rw is (nobody_closed number log none)
    ]
nobody_closed number ((by, Ending drains departing) ∷ log) none =
    elim (cases_Bool (by == number)) [
      | inl is ↦ rw is ((λ same. cc), nobody_closed number log none)
      | inr is ↦ rw is (nobody_closed number log none)
    ]
nobody_closed number ((by, Opening limit mode min_idle max_waiting) ∷ log) none =
    elim (cases_Bool (by == number)) [
      | inl is ↦ rw is ((λ same. cc), nobody_closed number log none)
      | inr is ↦ rw is (nobody_closed number log none)
    ]

-- a pool with a caller that has closed it
pub is_closed : {T : Type 0} (j : Journaling T) (log : History) (c : Knowing Line) → LeadsTo j log
    → calls_by c.number log ≡ c.mine → IsCloser c → j.core.desk.is_open ≡ false
is_closed j log c leads mine closer =
    elim (cases_Bool j.core.desk.is_open) [
      | inl opens ↦
          let run = runs (opening j) (numbered j.core.desk) no_tally j.tally (entries_of leads.0) leads.1.1.0 in
          let none = none_closes (opening j) (numbered j.core.desk) (entries_of leads.0) opens run in
          let others : Others (entries_of log) = rw (leads.1.0.0.1) none in
          absurd (closer (subst (λ (ls : List Line). NoneCloses ls) mine (nobody_closed c.number log others)))
      | inr shut ↦ shut
    ]

-- with one more it still is among them, and so is the one more
still : (lines : List Line) (more : Line) → (NoneCloses lines → ⊥) → NoneCloses (lines ++ more ∷ []) → ⊥
still [] more closes none = closes tt
still (line ∷ lines) more closes none = still lines more (λ others. closes (none.0, others)) none.1

the_last : (lines : List Line) → NoneCloses (lines ++ Next close ∷ []) → ⊥
the_last [] none = none.0 refl
the_last (line ∷ lines) none = the_last lines none.1

-- whoever a poll has closed it for, has closed it after the poll
begins : (is_first : Bool) (c closed : Knowing Line) → (is_first ≡ false → IsCloser c) → HasClosed is_first c closed
    → IsCloser closed
begins true c closed begun h = rw (h.1.2, h.1.0) (the_last c.mine)
begins false c closed begun h =
    let mine : closed.mine ≡ c.mine = ap (λ (k : Knowing Line). k.mine) h.0 in rw mine (begun refl)

ends : (polled : Poll (Result Status DrainError)) (closed called : Knowing Line) → IsCloser closed
    → HasEnded polled closed called → IsCloser called
ends (Ready ended) closed called closer h = rw h.1.2 (still closed.mine (Next h.0) closer)
ends Pending closed called closer h = rw h closer

pub closes : (is_first : Bool) (polled : Poll (Result Status DrainError)) (c c' : Knowing Line)
    → (is_first ≡ false → IsCloser c) → DrainsAndTells is_first polled c c' → IsCloser c'
closes is_first polled c c' begun h =
    let mine : c'.mine ≡ h.0.mine = ap (λ (k : Knowing Line). k.mine) h.1.1.0 in
    let calls = h.1.0 in
    rw mine (ends polled calls.0 h.0 (begins is_first c calls.0 begun calls.1.0) calls.1.1)
