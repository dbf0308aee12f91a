-- A step that is noted keeps a journal true.
use Rattle.deadpool_journal.proofs.Words.{◌≡◌, ℕ, ◌<◌, ◌≤◌, true, false, List, [], ◌∷◌, ◌++◌, length, refl, arith, inl}
use Rattle.deadpool_journal.proofs.Words.{inr, length-append, nat_lt, cases_Bool, ltb-true, ltb-false, CoreState}
use Rattle.deadpool_journal.proofs.Words.{DeskState, numbered, noted, Journaling, opening}
use Rattle.deadpool_journal.proofs.Words.{JournalInvariant, IsStep, Runs, Entry}
use Rattle.deadpool_journal.proofs.Words.{subst, sym, ap, ◌∙◌, ◌-◌, Option}
use Rattle.deadpool_desk.specs.DeskState.{bounded, size}
use Rattle.deadpool_journal.specs.Replay.{RunsCounted}
use Rattle.deadpool_journal.specs.Tally.{AreBalanced, counted, no_tally}
use Rattle.deadpool_journal.specs.declared.tally.Tally.{Tally}
use Rattle.deadpool_journal.proofs.Balance.{counts_on, size_numbered, step_balanced}

pub Runs-snoc : (d m d' : DeskState ℕ) (es : List Entry) (e : Entry) → Runs d es m → IsStep m e d'
    → Runs d (es ++ e ∷ []) d'
Runs-snoc d m d' [] e runs makes = (d', (subst (λ (x : DeskState ℕ). IsStep x e d') runs makes, refl))
Runs-snoc d m d' (x ∷ es) e runs makes = (runs.0, (runs.1.0, Runs-snoc runs.0 m d' es e runs.1.1 makes))

-- the books balance before the first step
pub no_tally-balanced : (t : Tally) → t ≡ no_tally → AreBalanced 0 t
no_tally-balanced t is = rw is (λ less. refl)

module _ {T : Type 0} where
  -- what is counted once a step has led there
  abbrev pub tally_after : Journaling T → CoreState T → Entry → Tally
  tally_after j core e = counted (size j.core.desk - size core.desk) e j.tally

  -- the state and the journal after a step
  abbrev pub stepped : Journaling T → CoreState T → Entry → Journaling T
  stepped j core e = record j { core = core; log = noted e j.log; tally = tally_after j core e }

  -- the books balance after it
  balanced_after : (j : Journaling T) (core : CoreState T) (e : Entry) → JournalInvariant j
      → IsStep (numbered j.core.desk) e (numbered core.desk) → AreBalanced (size core.desk) (tally_after j core e)
  balanced_after j core e kept makes =
      let was : AreBalanced (size (numbered j.core.desk)) j.tally = rw (size_numbered j.core.desk) kept.balances in
      rw (size_numbered j.core.desk, size_numbered core.desk)
      at (step_balanced (numbered j.core.desk) (numbered core.desk) e j.tally makes was)

  -- and the entries are counted
  counted_after : (j : Journaling T) (core : CoreState T) (e : Entry) → JournalInvariant j
      → IsStep (numbered j.core.desk) e (numbered core.desk) → j.log.is_full ≡ false
      → RunsCounted (opening j) no_tally (j.log.entries ++ e ∷ []) (numbered core.desk) (tally_after j core e)
  counted_after j core e kept makes not_full =
      let was = kept.counts in
      let same = was.3 not_full in
      counts_on (opening j) j.core.desk core.desk no_tally j.tally j.log.entries e (rw (same.0, same.1) at was.2) makes

  -- there is room for the entry
  step_noted : (j : Journaling T) (core : CoreState T) (e : Entry) → JournalInvariant j
      → IsStep (numbered j.core.desk) e (numbered core.desk) → length j.log.entries < j.log.most
      → JournalInvariant (record j {
        core = core;
        log = record j.log { entries = j.log.entries ++ e ∷ [] };
        tally = tally_after j core e;
      })
  step_noted j core e kept makes free =
      let not_full : j.log.is_full ≡ false =
      elim (cases_Bool j.log.is_full) [
        | inl is_full ↦ absurd (let most = kept.full is_full in omega (arith, free, most))
        | inr not ↦ not
      ] in
      let was = kept.steps in
      let longer = length-append j.log.entries (e ∷ []) in
      record {
        steps = (
          numbered core.desk,
          Runs-snoc (opening j) was.0 (numbered core.desk) j.log.entries e was.1 (rw (was.2 not_full) makes),
          λ _. refl,
        );
        within = omega (arith, longer, free);
        full = λ is_full. absurd (let most = kept.full is_full in omega (arith, free, most));
        counts = (
          numbered core.desk,
          tally_after j core e,
          counted_after j core e kept makes not_full,
          λ _. (refl, refl),
        );
        balances = balanced_after j core e kept makes;
      }

  -- or there is none
  pub step_full : (j : Journaling T) (core : CoreState T) (e : Entry) → JournalInvariant j
      → IsStep (numbered j.core.desk) e (numbered core.desk)
      → j.log.most ≤ length j.log.entries → JournalInvariant (record j {
        core = core;
        log = record j.log { is_full = true };
        tally = tally_after j core e;
      })
  step_full j core e kept makes none = record {
    steps = (kept.steps.0, kept.steps.1, λ not_full. cc);
    within = kept.within;
    full = λ is_full. let within = kept.within in omega (arith, none, within);
    counts = (kept.counts.0, kept.counts.1, kept.counts.2, λ not_full. cc);
    balances = balanced_after j core e kept makes;
  }

  pub step_kept : (j : Journaling T) (core : CoreState T) (e : Entry) → JournalInvariant j
      → IsStep (numbered j.core.desk) e (numbered core.desk) → JournalInvariant (stepped j core e)
  step_kept j core e kept makes =
      elim (cases_Bool (nat_lt (length j.log.entries) j.log.most)) [
        | inl room ↦ rw room (step_noted j core e kept makes (ltb-true (length j.log.entries) j.log.most room))
        | inr none ↦ rw none (step_full j core e kept makes (ltb-false (length j.log.entries) j.log.most none))
      ]

  -- a pool that has made no step, and gets a bound, opened with it
  pub bounded_kept : (j : Journaling T) (most : Option ℕ) → JournalInvariant j → j.log.entries ≡ [] → j.log.is_full
      ≡ false
      → JournalInvariant (record j { core = record j.core { desk = bounded most j.core.desk }; max_waiting = most })
  bounded_kept j most k none free =
      let runs = rw none at k.steps.1 in
      let same : numbered j.core.desk ≡ opening j = sym (k.steps.2 free) ∙ runs in
      let counts = rw none at k.counts.2 in
      let counted_same : j.tally ≡ no_tally = sym (k.counts.3 free).1 ∙ counts.1 in
      record {
        steps = (
          bounded most (opening j),
          rw none refl,
          λ _. sym (ap (bounded most) same),
        );
        within = k.within;
        full = k.full;
        counts = (
          bounded most (opening j),
          j.tally,
          rw none (refl, counted_same),
          λ _. (sym (ap (bounded most) same), refl),
        );
        balances = k.balances;
      }
