-- A pool that its caller has closed is closed: whatever came between, no step opens it again.
use Rattle.std.proofs.Common.{◌≡◌, ◌≢◌, ℕ, ◌==◌, Bool, true, false, List, [], ◌∷◌, ◌++◌, inl, inr}
use Rattle.std.proofs.Common.{refl, ap, subst, if◌then◌else◌, ◌-◌}
use Rattle.std.specs.Bool.{⊤}
use Rattle.std.proofs.lemmas.Bool.{cases_Bool}
use Rattle.deadpool_chronicle.specs.History.{Knowing, SeesMore, calls_by}
use Rattle.deadpool_gate.specs.Numbers.{most_handles}
use Rattle.deadpool_unmanaged.proofs.Closing.{step_shrinks}
use Rattle.deadpool_unmanaged.specs.State.{State, bounded, opened, settled}
use Rattle.deadpool_unmanaged_history.specs.Closers.{IsCloser, NoneCloses}
use Rattle.deadpool_unmanaged_history.specs.History.{HasCalled, LeadsTo, entries_of}
use Rattle.deadpool_unmanaged_history.specs.declared.line.Line.{Line}
use Rattle.deadpool_unmanaged_history.specs.declared.line.Line.TheVariants.{Opening, Next, Told, Ending}
use Rattle.deadpool_unmanaged_journal.proofs.Balance.{runs}
use Rattle.deadpool_unmanaged_journal.specs.ByName.{silent}
use Rattle.deadpool_unmanaged_journal.specs.Journaling.{Journaling}
use Rattle.deadpool_unmanaged_journal.specs.OwnerSteps.{DoesForOwner}
use Rattle.deadpool_unmanaged_journal.specs.Replay.{IsStep, Runs, Steps}
use Rattle.deadpool_unmanaged_journal.specs.Tally.{no_tally}
use Rattle.deadpool_unmanaged_journal.specs.declared.entry.Entry.{Entry}
use Rattle.deadpool_unmanaged_journal.specs.declared.entry.Entry.TheVariants.{Made, Owner}
use Rattle.deadpool_unmanaged_journal.specs.declared.owner_step.OwnerReply.{OwnerReply}
use Rattle.deadpool_unmanaged_journal.specs.declared.owner_step.OwnerReply.TheVariants as owner_reply
use Rattle.deadpool_unmanaged_journal.specs.declared.owner_step.OwnerStep.{OwnerStep}
use Rattle.deadpool_unmanaged_journal.specs.declared.owner_step.OwnerStep.TheVariants as owner

module _ {T : Type 0} where
  abbrev close : Entry T
  close = Owner owner.Close owner_reply.Done

  either_closed : (b : Bool) (d e : State T) → d.is_open ≡ false → e.is_open ≡ false
      → (if b then d else e).is_open ≡ false
  either_closed true d e one other = one
  either_closed false d e one other = other

  owner_closed : (d d' : State T) (step : OwnerStep) (reply : OwnerReply) → d.is_open ≡ false
      → DoesForOwner d step reply d' → d'.is_open ≡ false
  owner_closed d d' owner.Status (owner_reply.Stands status) shut h = rw h.1 shut
  owner_closed d d' owner.Close owner_reply.Done shut h = rw h refl
  owner_closed d d' owner.CloneHandle owner_reply.Done shut h = rw h.1 shut
  owner_closed d d' owner.CloneHandle owner_reply.NoHandle shut h = rw h.1 shut
  owner_closed d d' owner.DropHandle owner_reply.Done shut h =
      let left = if d.handles == most_handles then most_handles else d.handles - 1 in
      rw h.1 (either_closed (left == 0) (settled (record d { handles = 0; idle = [] })) (record d { handles = left })
      shut shut)
  owner_closed d d' owner.DropHandle owner_reply.NoHandle shut h = rw h.1 shut
  owner_closed d d' owner.Upgrade owner_reply.Done shut h = rw h.1 shut
  owner_closed d d' owner.Upgrade owner_reply.NoHandle shut h = rw h.1 shut
  owner_closed d d' _ _ shut h = absurd h

  made_closed : (m m' : State T) (e : Entry T) → m.is_open ≡ false → Steps m e m' → m'.is_open ≡ false
  made_closed m m' (Made step object reply) shut h = (step_shrinks m m' step object reply h shut).closed
  made_closed m m' (Owner step reply) shut h = owner_closed m m' step reply shut h

  -- of those whom the pool has told nothing is said
  step_closed : (d d' : State T) (e : Entry T) → d.is_open ≡ false → IsStep d e d' → d'.is_open ≡ false
  step_closed d d' e shut h =
      let was : d.is_open ≡ h.0.is_open = ap (λ (s : State T). s.is_open) h.1.1.1 in
      let now : d'.is_open ≡ h.1.0.is_open = ap (λ (s : State T). s.is_open) h.1.1.2 in
      rw now (made_closed h.0 h.1.0 e (rw was at shut) h.1.1.0)

  stays_closed : (d d' : State T) (es : List (Entry T)) → d.is_open ≡ false → Runs d es d' → d'.is_open ≡ false
  stays_closed d d' [] shut h = rw h shut
  stays_closed d d' (e ∷ es) shut h = stays_closed h.0 d' es (step_closed d h.0 e shut h.1.0) h.1.1

  close_closes : (d d' : State T) → IsStep d close d' → d'.is_open ≡ false
  close_closes d d' h =
      let now : d'.is_open ≡ h.1.0.is_open = ap (λ (s : State T). s.is_open) h.1.1.2 in
      rw now (ap (λ (s : State T). s.is_open) h.1.1.0)

  -- none of these steps closes a pool
  abbrev Others : List (Entry T) → Type 0
  Others [] = ⊤
  Others (e ∷ es) = (e ≢ close) × Others es

  -- what a run leaves open, no step of it has closed
  none_closes : (d d' : State T) (es : List (Entry T)) → d'.is_open ≡ true → Runs d es d' → Others es
  none_closes d d' [] opens h = tt
  none_closes d d' (e ∷ es) opens h = (
    λ is.
        let closes : IsStep d close h.0 = subst (λ (f : Entry T). IsStep d f h.0) is h.1.0 in
        let shut = stays_closed h.0 d' es (close_closes d h.0 closes) h.1.1 in
        let differ : true ≡ false = rw opens at shut in cc,
    none_closes h.0 d' es opens h.1.1,
  )

  -- so nobody has
  nobody_closed : (number : ℕ) (log : List (ℕ × Line T)) → Others (entries_of log) → NoneCloses (calls_by number log)
  nobody_closed number [] none = tt
  nobody_closed number ((by, Next e) ∷ log) none =
      elim (cases_Bool (by == number)) [
        | inl is ↦ rw is ((λ same. none.0 cc), nobody_closed number log none.1)
        | inr is ↦ rw is (nobody_closed number log none.1)
      ]
  nobody_closed number ((by, Told wake) ∷ log) none =
      elim (cases_Bool (by == number)) [
        | inl is ↦ rw is ((λ same. cc), nobody_closed number log none)
        | inr is ↦ rw is (nobody_closed number log none)
      ]
  nobody_closed number ((by, Ending drains departing) ∷ log) none =
      elim (cases_Bool (by == number)) [
        | inl is ↦ rw is ((λ same. cc), nobody_closed number log none)
        | inr is ↦ rw is (nobody_closed number log none)
      ]
  nobody_closed number ((by, Opening limit max_waiting) ∷ log) none =
      elim (cases_Bool (by == number)) [
        | inl is ↦ rw is ((λ same. cc), nobody_closed number log none)
        | inr is ↦ rw is (nobody_closed number log none)
      ]

  -- with one more it still is among them, and so is the one more
  still : (lines : List (Line T)) (more : Line T) → (NoneCloses lines → ⊥) → NoneCloses (lines ++ more ∷ []) → ⊥
  still [] more closes none = closes tt
  still (line ∷ lines) more closes none = still lines more (λ others. closes (none.0, others)) none.1

  the_last : (lines : List (Line T)) → NoneCloses (lines ++ Next close ∷ []) → ⊥
  the_last [] none = none.0 refl
  the_last (line ∷ lines) none = the_last lines none.1

  -- whoever closes the pool has closed it, and has done so after more calls, and when it has seen more
  pub closes : (c c' : Knowing (Line T)) → HasCalled (λ x. x ≡ close) c c' → IsCloser c'
  closes c c' h = rw (h.1.2, h.1.0) (the_last c.mine)

  pub closed_before : (e : Entry T) (c c' : Knowing (Line T)) → HasCalled (λ x. x ≡ e) c c' → IsCloser c → IsCloser c'
  closed_before e c c' h closer = rw h.1.2 (still c.mine (Next h.0) closer)

  pub sees_closed : (c c' : Knowing (Line T)) → SeesMore c c' → IsCloser c → IsCloser c'
  sees_closed c c' h closer = let mine : c'.mine ≡ c.mine = ap (λ (k : Knowing (Line T)). k.mine) h.0 in rw mine closer

module _ {T O : Type 0} (name : T → O) where
  -- a pool with a caller that has closed it
  pub is_closed : (j : Journaling T O) (log : List (ℕ × Line T)) (c : Knowing (Line T)) → LeadsTo name j log
      → calls_by c.number log ≡ c.mine → IsCloser c → j.core.pool.is_open ≡ false
  is_closed j log c leads mine closer =
      elim (cases_Bool j.core.pool.is_open) [
        | inl opens ↦
            let first = bounded j.max_waiting (opened j.limit []) in
            let run = runs first (silent j.core.pool) no_tally j.tally (entries_of leads.0) leads.1.1.0 in
            let none = none_closes first (silent j.core.pool) (entries_of leads.0) opens run in
            let others : Others (entries_of log) = rw (leads.1.0.0.1) none in
            absurd (closer (subst (λ (ls : List (Line T)). NoneCloses ls) mine (nobody_closed c.number log others)))
        | inr shut ↦ shut
      ]
