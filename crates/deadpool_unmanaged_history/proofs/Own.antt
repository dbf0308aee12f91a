-- Each names only the ticket under which it waits, as the history grows.
use Rattle.std.proofs.Common.{◌≡◌, ℕ, List, [], ◌∷◌, ◌++◌, Option, Some, None, ap, inl, inr, refl, subst}
use Rattle.std.specs.Prelude.{IfSome}
use Rattle.deadpool_chronicle.specs.History.{Knowing, SeesMore, calls_by}
use Rattle.deadpool_unmanaged.specs.declared.step.Reply.{Reply}
use Rattle.deadpool_unmanaged.specs.declared.step.Step.{Step}
use Rattle.deadpool_unmanaged_journal.specs.declared.entry.Entry.{Entry}
use Rattle.deadpool_unmanaged_journal.specs.declared.entry.Entry.TheVariants.{Made}
use Rattle.deadpool_unmanaged_history.specs.History.{HasCalled}
use Rattle.deadpool_unmanaged_history.specs.Own.{EachNamesOwn, IsOwnEntry, waits_after, waits_by, waits_from, waits_in}
use Rattle.deadpool_unmanaged_history.specs.declared.line.Line.{Line}
use Rattle.deadpool_unmanaged_history.specs.declared.line.Line.TheVariants.{Opening, Next}
use Rattle.deadpool_unmanaged_history.specs.declared.line.Wake.{Wake}
use Rattle.deadpool_unmanaged_history.proofs.Turns.{last_or_before, nothing_before}

waits_if : (waits : Option Wake) → IfSome waits (λ wake. waits ≡ Some wake)
waits_if (Some wake) = refl
waits_if None = tt

module _ {T : Type 0} where
  pub nobody_names : EachNamesOwn {T = T} []
  nobody_names before after by e is = absurd (nothing_before before after (by, Next e) is)

  -- one line more, and if that is a step, it is its maker's own
  pub names_on : (log : List (ℕ × Line T)) (n : ℕ) (line : Line T)
      → ((e : Entry T) → line ≡ Next e → IsOwnEntry e (calls_by n log))
      → EachNamesOwn log → EachNamesOwn (log ++ (n, line) ∷ [])
  names_on log n line own names before after by e is =
      elim (last_or_before log before after (n, line) (by, Next e) is) [
        | inl (same, last) ↦
            let who : n ≡ by = ap (λ (x : ℕ × Line T). x.0) last in
            rw (← same, ← who) (own e (ap (λ (x : ℕ × Line T). x.1) last))
        | inr (rest, same) ↦ names before rest by e same
      ]

  pub step_names_on : (log : List (ℕ × Line T)) (n : ℕ) (e : Entry T) → IsOwnEntry e (calls_by n log)
      → EachNamesOwn log → EachNamesOwn (log ++ (n, Next e) ∷ [])
  step_names_on log n e own names =
      names_on log n (Next e)
      (λ f is. let same : e ≡ f = cc in subst (λ (x : Entry T). IsOwnEntry x (calls_by n log)) same own) names

  -- a history with nothing but how the pool opened
  pub opens_unowned : (n limit : ℕ) (max_waiting : Option ℕ)
      → EachNamesOwn {T = T} ((n, Opening limit max_waiting) ∷ [])
  opens_unowned n limit max_waiting =
      let line : Line T = Opening limit max_waiting in
      names_on [] n line (λ e is. absurd (let no : line ≡ Next e = is in cc)) nobody_names

  -- the ticket under which a caller waits with one line more
  waits_from-snoc : (waits : Option Wake) (lines : List (Line T)) (line : Line T)
      → waits_from waits (lines ++ line ∷ []) ≡ waits_after line (waits_from waits lines)
  waits_from-snoc waits [] line = refl
  waits_from-snoc waits (first ∷ lines) line = waits_from-snoc (waits_after first waits) lines line

  -- whoever is told to wait does, and still does when it has seen more
  pub told_waits : (step : Step) (object : Option T) (reply : Reply) (c c' : Knowing (Line T))
      → HasCalled (λ x. x ≡ Made step object reply) c c'
      → IfSome (waits_by step reply) (λ wake. waits_in c'.mine ≡ Some wake)
  told_waits step object reply c c' h =
      rw (h.1.2, h.1.0, waits_from-snoc None c.mine (Next (Made step object reply)))
      (waits_if (waits_by step reply))

  pub sees_waits : (c c' : Knowing (Line T)) (wake : Wake) → SeesMore c c' → waits_in c.mine ≡ Some wake
      → waits_in c'.mine ≡ Some wake
  sees_waits c c' wake h waits =
      let mine : c'.mine ≡ c.mine = ap (λ (k : Knowing (Line T)). k.mine) h.0 in rw mine waits
