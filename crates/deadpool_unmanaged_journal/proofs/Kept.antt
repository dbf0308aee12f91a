-- A step that is noted keeps a journal true.
use Rattle.deadpool_unmanaged_journal.proofs.Words.{◌≡◌, ℕ, ◌<◌, ◌≤◌, true, false, List, [], ◌∷◌, ◌++◌, length, refl}
use Rattle.deadpool_unmanaged_journal.proofs.Words.{arith}
use Rattle.deadpool_unmanaged_journal.proofs.Words.{inl, inr, length-append, nat_lt, cases_Bool, ltb-true, ltb-false}
use Rattle.deadpool_unmanaged_journal.proofs.Words.{subst, sym, ap, ◌∙◌, Option, State, CoreState, bounded, by_name}
use Rattle.deadpool_unmanaged_journal.proofs.Words.{silent, size, ◌-◌}
use Rattle.deadpool_unmanaged_journal.proofs.Words.{TakesGetWake, TakesAddWake}
use Rattle.deadpool_unmanaged_journal.proofs.Words.{noted, Journaling, opening, JournalInvariant, IsStep, Steps}
use Rattle.deadpool_unmanaged_journal.proofs.Words.{Runs, Entry}
use Rattle.deadpool_unmanaged_journal.specs.Replay.{RunsCounted}
use Rattle.deadpool_unmanaged_journal.specs.Tally.{AreBalanced, counted, no_tally}
use Rattle.deadpool_unmanaged_journal.specs.declared.tally.Tally.{Tally}
use Rattle.deadpool_unmanaged_journal.proofs.Balance.{counts_on, size_named, step_balanced}

-- the books balance before the first step
pub no_tally-balanced : (t : Tally) → t ≡ no_tally → AreBalanced 0 t
no_tally-balanced t is = rw is (λ less. refl)

module _ {O : Type 0} where
  pub Runs-snoc : (d m d' : State O) (es : List (Entry O)) (e : Entry O) → Runs d es m → IsStep m e d'
      → Runs d (es ++ e ∷ []) d'
  Runs-snoc d m d' [] e runs makes = (d', (subst (λ (x : State O). IsStep x e d') runs makes, refl))
  Runs-snoc d m d' (x ∷ es) e runs makes = (runs.0, (runs.1.0, Runs-snoc runs.0 m d' es e runs.1.1 makes))

  -- of those whom the pool has told nothing is said
  pub step_silent : (m m' : State O) (e : Entry O) → Steps m e m' → IsStep (silent m) e (silent m')
  step_silent m m' e steps = (m, (m', (steps, refl, refl)))

module _ {T O : Type 0} (name : T → O) where
  -- what a journal sees of a pool
  abbrev pub seen : CoreState T → State O
  seen core = silent (by_name name core.pool)

  -- what is counted once a step has led there
  abbrev pub tally_after : Journaling T O → CoreState T → Entry O → Tally
  tally_after j core e = counted (size j.core.pool - size core.pool) e j.tally

  -- the state and the journal after a step
  abbrev pub stepped : Journaling T O → CoreState T → Entry O → Journaling T O
  stepped j core e = record j { core = core; log = noted e j.log; tally = tally_after j core e }

  -- the books balance after it
  balanced_after : (j : Journaling T O) (core : CoreState T) (e : Entry O) → JournalInvariant name j
      → IsStep (seen j.core) e (seen core) → AreBalanced (size core.pool) (tally_after j core e)
  balanced_after j core e kept makes =
      let was : AreBalanced (size (seen j.core)) j.tally = rw (size_named name j.core.pool) kept.balances in
      rw (size_named name j.core.pool, size_named name core.pool)
      at (step_balanced (seen j.core) (seen core) e j.tally makes was)

  -- and the entries are counted
  counted_after : (j : Journaling T O) (core : CoreState T) (e : Entry O) → JournalInvariant name j
      → IsStep (seen j.core) e (seen core) → j.log.is_full ≡ false
      → RunsCounted (opening j) no_tally (j.log.entries ++ e ∷ []) (seen core) (tally_after j core e)
  counted_after j core e kept makes not_full =
      let was = kept.counts in
      let same = was.3 not_full in
      counts_on name (opening j) j.core.pool core.pool no_tally j.tally j.log.entries e
      (rw (same.0, same.1) at was.2) makes

  -- there is room for the entry
  step_noted : (j : Journaling T O) (core : CoreState T) (e : Entry O) → JournalInvariant name j
      → IsStep (seen j.core) e (seen core) → length j.log.entries < j.log.most
      → JournalInvariant name (record j {
        core = core;
        log = record j.log { entries = j.log.entries ++ e ∷ [] };
        tally = tally_after j core e;
      })
  step_noted j core e kept makes free =
      let not_full : j.log.is_full ≡ false =
      elim (cases_Bool j.log.is_full) [
        | inl is_full ↦ absurd (let most = kept.full is_full in omega (arith, free, most))
        | inr not ↦ not
      ] in
      let was = kept.steps in
      let longer = length-append j.log.entries (e ∷ []) in
      record {
        steps = (
          seen core,
          Runs-snoc (opening j) was.0 (seen core) j.log.entries e was.1 (rw (was.2 not_full) makes),
          λ _. refl,
        );
        within = omega (arith, longer, free);
        full = λ is_full. absurd (let most = kept.full is_full in omega (arith, free, most));
        counts = (
          seen core,
          tally_after j core e,
          counted_after j core e kept makes not_full,
          λ _. (refl, refl),
        );
        balances = balanced_after j core e kept makes;
      }

  -- or there is none
  step_full : (j : Journaling T O) (core : CoreState T) (e : Entry O) → JournalInvariant name j
      → IsStep (seen j.core) e (seen core)
      → j.log.most ≤ length j.log.entries → JournalInvariant name (record j {
        core = core;
        log = record j.log { is_full = true };
        tally = tally_after j core e;
      })
  step_full j core e kept makes none = record {
    steps = (kept.steps.0, kept.steps.1, λ not_full. cc);
    within = kept.within;
    full = λ is_full. let within = kept.within in omega (arith, none, within);
    counts = (kept.counts.0, kept.counts.1, kept.counts.2, λ not_full. cc);
    balances = balanced_after j core e kept makes;
  }

  pub step_kept : (j : Journaling T O) (core : CoreState T) (e : Entry O) → JournalInvariant name j
      → IsStep (seen j.core) e (seen core) → JournalInvariant name (stepped j core e)
  step_kept j core e kept makes =
      elim (cases_Bool (nat_lt (length j.log.entries) j.log.most)) [
        | inl room ↦ rw room (step_noted j core e kept makes (ltb-true (length j.log.entries) j.log.most room))
        | inr none ↦ rw none (step_full j core e kept makes (ltb-false (length j.log.entries) j.log.most none))
      ]

  -- a pool that has made no step, and gets a bound, opened with it
  pub bounded_kept : (j : Journaling T O) (most : Option ℕ) → JournalInvariant name j → j.log.entries ≡ []
      → j.log.is_full ≡ false → JournalInvariant name (record j {
        core = record j.core { pool = bounded most j.core.pool };
        max_waiting = most;
      })
  bounded_kept j most k none free =
      let runs = rw none at k.steps.1 in
      let same : seen j.core ≡ opening j = sym (k.steps.2 free) ∙ runs in
      let counts = rw none at k.counts.2 in
      let counted_same : j.tally ≡ no_tally = sym (k.counts.3 free).1 ∙ counts.1 in
      record {
        steps = (
          bounded most (opening j),
          rw none refl,
          λ _. sym (ap (bounded most) same),
        );
        within = k.within;
        full = k.full;
        counts = (
          bounded most (opening j),
          j.tally,
          rw none (refl, counted_same),
          λ _. (sym (ap (bounded most) same), refl),
        );
        balances = k.balances;
      }

  -- who is to be woken is no matter of the journal
  told_kept : (j : Journaling T O) (core : CoreState T) → JournalInvariant name j → seen core ≡ seen j.core
      → JournalInvariant name (record j { core = core })
  told_kept j core k same =
      let many : size core.pool ≡ size j.core.pool =
      sym (size_named name core.pool) ∙ ap size same ∙ size_named name j.core.pool in
      record {
        steps = (k.steps.0, k.steps.1, λ free. k.steps.2 free ∙ sym same);
        within = k.within;
        full = k.full;
        counts = (
          k.counts.0,
          k.counts.1,
          k.counts.2,
          λ free. ((k.counts.3 free).0 ∙ sym same, (k.counts.3 free).1),
        );
        balances = rw many k.balances;
      }

  -- so is the room of the queues
  pub same_pool_kept : (j : Journaling T O) (core : CoreState T) → JournalInvariant name j
      → core.pool ≡ j.core.pool → JournalInvariant name (record j { core = core })
  same_pool_kept j core k same = told_kept j core k (ap (λ (d : State T). silent (by_name name d)) same)

  pub told_get_kept : (j : Journaling T O) (core : CoreState T) (named : Option ℕ) → JournalInvariant name j
      → TakesGetWake j.core.pool named core.pool → JournalInvariant name (record j { core = core })
  told_get_kept j core named k told =
      told_kept j core k (ap (λ (d : State T). silent (by_name name d)) told.1)

  pub told_add_kept : (j : Journaling T O) (core : CoreState T) (named : Option ℕ) → JournalInvariant name j
      → TakesAddWake j.core.pool named core.pool → JournalInvariant name (record j { core = core })
  told_add_kept j core named k told =
      told_kept j core k (ap (λ (d : State T). silent (by_name name d)) told.1)
