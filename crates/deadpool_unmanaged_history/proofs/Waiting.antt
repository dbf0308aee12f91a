-- Along a legal history each that waits by its own lines is in its queue, under a ticket that nobody else has.
use Rattle.std.proofs.Common.{◌≡◌, ℕ, List, [], ◌∷◌, ◌++◌, Option, Some, None, true, false, ap, refl, subst, sym}
use Rattle.std.proofs.Common.{◌∙◌, inl, inr, append-nil}
use Rattle.std.specs.Prelude.{◌⊎◌, ◌==◌, if◌then◌else◌}
use Rattle.std.specs.List.{All}
use Rattle.std.proofs.lemmas.Bool.{cases_Bool, eqb-true, eq-eqb, or_right}
use Rattle.std.proofs.lemmas.List.{append_assoc}
use Rattle.std.proofs.lemmas.List.Elements.{All-cons, All-head, All-nil, All-tail}
use Rattle.deadpool_chronicle.specs.History.{Knowing, calls_by}
use Rattle.deadpool_gate.proofs.Numbers.{has_number-append}
use Rattle.deadpool_gate.specs.Numbers.{has_number}
use Rattle.deadpool_gate.specs.Queue.{Queue, is_listed}
use Rattle.deadpool_unmanaged.specs.State.{State, bounded, opened}
use Rattle.deadpool_unmanaged.specs.StateSteps.{Does, with_add, with_get}
use Rattle.deadpool_unmanaged.specs.declared.step.Reply.{Reply}
use Rattle.deadpool_unmanaged.specs.declared.step.Reply.TheVariants.{Waiting, Unknown}
use Rattle.deadpool_unmanaged.specs.declared.step.Step.{Step}
use Rattle.deadpool_unmanaged.specs.declared.step.Step.TheVariants.{GetEnter, GetAsk, GetCancel, AddEnter, AddAsk}
use Rattle.deadpool_unmanaged.specs.declared.step.Step.TheVariants.{AddCancel}
use Rattle.deadpool_unmanaged_journal.specs.ByName.{silent}
use Rattle.deadpool_unmanaged_journal.specs.Replay.{IsStep, Runs, Steps}
use Rattle.deadpool_unmanaged_journal.specs.declared.entry.Entry.{Entry}
use Rattle.deadpool_unmanaged_journal.specs.declared.entry.Entry.TheVariants.{Made, Owner}
use Rattle.deadpool_unmanaged_turns.proofs.InTurn.{keeps_order, reached, stays}
use Rattle.deadpool_unmanaged_turns.specs.Steps.{add_named_by, get_named_by}
use Rattle.deadpool_unmanaged_turns.specs.Turns.{IsOrderly, IsQueued}
use Rattle.deadpool_unmanaged_history.proofs.Leads.{entries_of-next}
use Rattle.deadpool_unmanaged_history.specs.History.{HasCalled, IsLegal, Reaches, entries_of}
use Rattle.deadpool_unmanaged_history.specs.Own.{EachNamesOwn, IsOwnEntry, entry_names, entry_waits, named_by}
use Rattle.deadpool_unmanaged_history.specs.Own.{waits_after}
use Rattle.deadpool_unmanaged_history.specs.Own.{waits_by, waits_from, waits_in}
use Rattle.deadpool_unmanaged_history.specs.Waiting.{EachTicketIsOfOne, EachWaitsInItsQueue, IsIn, IsTicketKnown}
use Rattle.deadpool_unmanaged_history.specs.Waiting.{NoTicketIsUnknown}
use Rattle.deadpool_unmanaged_history.specs.declared.line.Line.{Line}
use Rattle.deadpool_unmanaged_history.specs.declared.line.Line.TheVariants.{Opening, Next, Told, Ending}
use Rattle.deadpool_unmanaged_history.specs.declared.line.Wake.{Wake}
use Rattle.deadpool_unmanaged_history.specs.declared.line.Wake.TheVariants.{Get, Add}

listed : (t : ℕ) (q : Queue) → is_listed t q ≡ true → IsQueued t q
listed t q is = has_number-append t q.granted q.waiting ∙ is

unlisted : (t : ℕ) (q : Queue) → is_listed t q ≡ false → IsQueued t q → ⊥
unlisted t q gone queued =
    let there : is_listed t q ≡ true = sym (has_number-append t q.granted q.waiting) ∙ queued in
    let differ : true ≡ false = sym there ∙ gone in cc

has_pushed : (t : ℕ) (xs : List ℕ) → has_number t (xs ++ t ∷ []) ≡ true
has_pushed t xs =
    let self : has_number t (t ∷ []) ≡ true = rw (eq-eqb t t refl) refl in
    has_number-append t xs (t ∷ []) ∙ or_right (has_number t xs) _ self

pushed : (t : ℕ) (xs ys : List ℕ) → has_number t (xs ++ (ys ++ t ∷ [])) ≡ true
pushed t xs ys = has_number-append t xs (ys ++ t ∷ []) ∙ or_right _ _ (has_pushed t ys)

waiting : (t : ℕ) (q : Queue) → has_number t q.waiting ≡ true → IsQueued t q
waiting t q is = has_number-append t q.granted q.waiting ∙ or_right _ _ is

module _ {T : Type 0} where
  -- Who is told to wait is in its queue: under a new ticket, or under the one that was named.
  abbrev IsTold : Wake → Option Wake → State T → State T → Type 0
  IsTold wake named d d' = IsIn d' wake × ((IsIn d wake → ⊥) ⊎ (named ≡ Some wake))

  module _ (d d' : State T) where
    get_joins : (t : ℕ) → is_listed t d.gets ≡ false → d' ≡ with_get t d → IsTold (Get t) None d d'
    get_joins t fresh is = (rw is (pushed t d.gets.granted d.gets.waiting), inl (unlisted t d.gets fresh))

    add_joins : (t : ℕ) → is_listed t d.adds ≡ false → d' ≡ with_add t d → IsTold (Add t) None d d'
    add_joins t fresh is = (rw is (pushed t d.adds.granted d.adds.waiting), inl (unlisted t d.adds fresh))

    get_stays : (t same : ℕ) → has_number t d.gets.waiting ≡ true → same ≡ t → d' ≡ d
        → IsTold (Get same) (Some (Get t)) d d'
    get_stays t same has is left = rw (left, is) (waiting t d.gets has, inr refl)

    add_stays : (t same : ℕ) → has_number t d.adds.waiting ≡ true → same ≡ t → d' ≡ d
        → IsTold (Add same) (Some (Add t)) d d'
    add_stays t same has is left = rw (left, is) (waiting t d.adds has, inr refl)

    told_as : (step : Step) (v wake : Wake) → IsTold v (named_by step) d d' → Some v ≡ Some wake
        → IsTold wake (named_by step) d d'
    told_as step v wake told is =
        let same : v ≡ wake = cc in subst (λ (w : Wake). IsTold w (named_by step) d d') same told

    told_in : (step : Step) (object : Option T) (reply : Reply) (wake : Wake) → Does d step object reply d'
        → waits_by step reply ≡ Some wake → IsTold wake (named_by step) d d'
    told_in (GetEnter wait) None (Waiting t) wake h is =
        told_as (GetEnter wait) (Get t) wake (get_joins t h.4 h.5) is
    told_in (GetEnter wait) (Some value) (Waiting t) wake h is = absurd h
    told_in (GetAsk ticket expired) None (Waiting same) wake h is =
        told_as (GetAsk ticket expired) (Get same) wake (get_stays ticket same h.2 h.4 h.5) is
    told_in (GetAsk ticket expired) (Some value) (Waiting same) wake h is = absurd h
    told_in (AddEnter wait) (Some value) (Waiting t) wake h is =
        told_as (AddEnter wait) (Add t) wake (add_joins t h.4 h.5) is
    told_in (AddEnter wait) None (Waiting t) wake h is = absurd h
    told_in (AddAsk ticket) (Some value) (Waiting same) wake h is =
        told_as (AddAsk ticket) (Add same) wake (add_stays ticket same h.2 h.3 h.4) is
    told_in (AddAsk ticket) None (Waiting same) wake h is = absurd h
    told_in _ _ _ wake h is = absurd (let none : None ≡ Some wake = is in cc)

    made_told : (e : Entry T) (wake : Wake) → Steps d e d' → entry_waits e ≡ Some wake
        → IsTold wake (entry_names e) d d'
    made_told (Made step object reply) wake h is = told_in step object reply wake h is
    made_told (Owner step reply) wake h is = absurd (let none : None ≡ Some wake = is in cc)

    -- of those whom the pool has told nothing is said
    silent_told : (wake : Wake) (named : Option Wake) → IsTold wake named d d'
        → IsTold wake named (silent d) (silent d')
    silent_told (Get t) named told = told
    silent_told (Add t) named told = told

  entry_told : (d d' : State T) (e : Entry T) (wake : Wake) → IsStep d e d' → entry_waits e ≡ Some wake
      → IsTold wake (entry_names e) d d'
  entry_told d d' e wake h is =
      rw (h.1.1.1, h.1.1.2)
      (silent_told h.0 h.1.0 wake (entry_names e) (made_told h.0 h.1.0 e wake h.1.1.0 is))

  get_named : (t : ℕ) (e : Entry T) → get_named_by e ≡ Some t → entry_names e ≡ Some (Get t)
  get_named t (Made (GetAsk ticket expired) object reply) is = let e : ticket ≡ t = cc in ap (λ (x : ℕ). Some (Get x)) e
  get_named t (Made (GetCancel ticket) object reply) is = let e : ticket ≡ t = cc in ap (λ (x : ℕ). Some (Get x)) e
  get_named t _ is = absurd (let none : None ≡ Some t = is in cc)

  add_named : (t : ℕ) (e : Entry T) → add_named_by e ≡ Some t → entry_names e ≡ Some (Add t)
  add_named t (Made (AddAsk ticket) object reply) is = let e : ticket ≡ t = cc in ap (λ (x : ℕ). Some (Add x)) e
  add_named t (Made (AddCancel ticket) object reply) is = let e : ticket ≡ t = cc in ap (λ (x : ℕ). Some (Add x)) e
  add_named t _ is = absurd (let none : None ≡ Some t = is in cc)

  -- who is in a queue stays there, unless its ticket is named
  stays_in : (wake : Wake) (d d' : State T) (e : Entry T) → IsOrderly d → IsStep d e d' → IsIn d wake
      → IsIn d' wake ⊎ (entry_names e ≡ Some wake)
  stays_in (Get t) d d' e s h has = elim ((stays T t d d' e s h).get has) [
    | inl there ↦ inl there
    | inr named ↦ inr (get_named t e named)
  ]
  stays_in (Add t) d d' e s h has = elim ((stays T t d d' e s h).add has) [
    | inl there ↦ inl there
    | inr named ↦ inr (add_named t e named)
  ]

  -- The ticket under which each waits by its own lines. One line more counts for its maker alone.
  abbrev as_in : List (ℕ × Line T) → ℕ → Option Wake
  as_in log who = waits_in (calls_by who log)

  waits_on : (who by : ℕ) (line : Line T) (waits : Option Wake) (log : List (ℕ × Line T))
      → waits_from waits (calls_by who (log ++ (by, line) ∷ []))
      ≡ (if by == who then waits_after line (waits_from waits (calls_by who log))
      else waits_from waits (calls_by who log))
  waits_on who by line waits [] = elim (cases_Bool (by == who)) [ inl own ↦ rw own refl | inr other ↦ rw other refl ]
  waits_on who by line waits ((m, first) ∷ log) =
      elim (cases_Bool (m == who)) [
        | inl own ↦ rw own (waits_on who by line (waits_after first waits) log)
        | inr other ↦ rw other (waits_on who by line waits log)
      ]

  as_then : (who by : ℕ) (e : Entry T) (log : List (ℕ × Line T))
      → as_in (log ++ (by, Next e) ∷ []) who ≡ (if by == who then entry_waits e else as_in log who)
  as_then who by e log = waits_on who by (Next e) None log

  as_before : (who by : ℕ) (line : Line T) (log : List (ℕ × Line T))
      → ((waits : Option Wake) → waits_after line waits ≡ waits)
      → as_in (log ++ (by, line) ∷ []) who ≡ as_in log who
  as_before who by line log none =
      waits_on who by line None log
      ∙ elim (cases_Bool (by == who)) [ inl own ↦ rw own (none (as_in log who)) | inr other ↦ rw other refl ]

  -- each that waits is in its queue, and nobody else waits under its ticket
  record AreIn (log : List (ℕ × Line T)) (d : State T) : Type 0 where
    queued : (who : ℕ) (wake : Wake) → as_in log who ≡ Some wake → IsIn d wake
    one : (a b : ℕ) (wake : Wake) → as_in log a ≡ Some wake → as_in log b ≡ Some wake → a ≡ b

  module _ (by : ℕ) (e : Entry T) (d d' : State T) (log : List (ℕ × Line T)) (s : IsOrderly d) (h : IsStep d e d')
      (own : IsOwnEntry e (calls_by by log)) (was : AreIn log d) where
    is_named : (wake : Wake) → entry_names e ≡ Some wake → as_in log by ≡ Some wake
    is_named wake is = rw is at own

    other_than : (who : ℕ) (wake : Wake) → (by == who) ≡ false → as_in log who ≡ Some wake
        → entry_names e ≡ Some wake → ⊥
    other_than who wake other is named =
        let same : (by == who) ≡ true = eq-eqb by who (was.one by who wake (is_named wake named) is) in
        let differ : true ≡ false = sym same ∙ other in cc

    queued_after : (who : ℕ) (wake : Wake) → as_in (log ++ (by, Next e) ∷ []) who ≡ Some wake → IsIn d' wake
    queued_after who wake is =
        let after = sym (as_then who by e log) ∙ is in
        elim (cases_Bool (by == who)) [
          | inl mine ↦ (entry_told d d' e wake h (rw mine at after)).0
          | inr other ↦
              let before : as_in log who ≡ Some wake = rw other at after in
              elim (stays_in wake d d' e s h (was.queued who wake before)) [
                | inl there ↦ there
                | inr named ↦ absurd (other_than who wake other before named)
              ]
        ]

    -- under the ticket that one is told, nobody else waits
    alone : (who : ℕ) (wake : Wake) → (by == who) ≡ false → entry_waits e ≡ Some wake → as_in log who ≡ Some wake → ⊥
    alone who wake other is before =
        elim (entry_told d d' e wake h is).1 [
          | inl fresh ↦ fresh (was.queued who wake before)
          | inr named ↦ other_than who wake other before named
        ]

    one_after : (a b : ℕ) (wake : Wake) → as_in (log ++ (by, Next e) ∷ []) a ≡ Some wake
        → as_in (log ++ (by, Next e) ∷ []) b ≡ Some wake → a ≡ b
    one_after a b wake first second =
        let of_a = sym (as_then a by e log) ∙ first in
        let of_b = sym (as_then b by e log) ∙ second in
        elim (cases_Bool (by == a)) [
          | inl a_mine ↦
              elim (cases_Bool (by == b)) [
                | inl b_mine ↦ sym (eqb-true by a a_mine) ∙ eqb-true by b b_mine
                | inr b_other ↦ absurd (alone b wake b_other (rw a_mine at of_a) (rw b_other at of_b))
              ]
          | inr a_other ↦
              elim (cases_Bool (by == b)) [
                | inl b_mine ↦ absurd (alone a wake a_other (rw b_mine at of_b) (rw a_other at of_a))
                | inr b_other ↦ was.one a b wake (rw a_other at of_a) (rw b_other at of_b)
              ]
        ]

    in_after : AreIn (log ++ (by, Next e) ∷ []) d'
    in_after = record { queued = queued_after; one = one_after }

  in_before : (by : ℕ) (line : Line T) (log : List (ℕ × Line T)) (d : State T)
      → ((waits : Option Wake) → waits_after line waits ≡ waits) → AreIn log d → AreIn (log ++ (by, line) ∷ []) d
  in_before by line log d none was = record {
    queued = λ who wake is. was.queued who wake (sym (as_before who by line log none) ∙ is);
    one = λ a b wake first second.
        was.one a b wake (sym (as_before a by line log none) ∙ first) (sym (as_before b by line log none) ∙ second);
  }

  -- the pool knows the ticket that its maker has
  known_step : (by : ℕ) (d d' : State T) (log : List (ℕ × Line T)) (step : Step) (object : Option T) (reply : Reply)
      → Does d step object reply d' → IsOwnEntry (Made step object reply) (calls_by by log) → AreIn log d
      → IsTicketKnown (Made step object reply)
  known_step by d d' log (GetAsk t expired) None Unknown h own was = unlisted t d.gets h.0 (was.queued by (Get t) own)
  known_step by d d' log (GetAsk t expired) (Some value) Unknown h own was = h
  known_step by d d' log (GetCancel t) None Unknown h own was = unlisted t d.gets h.0 (was.queued by (Get t) own)
  known_step by d d' log (GetCancel t) (Some value) Unknown h own was = h
  known_step by d d' log (AddAsk t) (Some value) Unknown h own was = unlisted t d.adds h.0 (was.queued by (Add t) own)
  known_step by d d' log (AddAsk t) None Unknown h own was = h
  known_step by d d' log (AddCancel t) None Unknown h own was = unlisted t d.adds h.0 (was.queued by (Add t) own)
  known_step by d d' log (AddCancel t) (Some value) Unknown h own was = h
  known_step by d d' log _ _ _ h own was = tt

  same_in : (m : State T) (wake : Wake) → IsIn (silent m) wake → IsIn m wake
  same_in m (Get t) has = has
  same_in m (Add t) has = has

  loud : (log : List (ℕ × Line T)) (m : State T) → AreIn log (silent m) → AreIn log m
  loud log m was = record {
    queued = λ who wake is. same_in m wake (was.queued who wake is);
    one = was.one;
  }

  known_made : (by : ℕ) (m m' : State T) (log : List (ℕ × Line T)) (e : Entry T) → Steps m e m'
      → IsOwnEntry e (calls_by by log) → AreIn log m → IsTicketKnown e
  known_made by m m' log (Made step object reply) h own was = known_step by m m' log step object reply h own was
  known_made by m m' log (Owner step reply) h own was = tt

  known_entry : (by : ℕ) (d d' : State T) (log : List (ℕ × Line T)) (e : Entry T) → IsStep d e d'
      → IsOwnEntry e (calls_by by log) → AreIn log d → IsTicketKnown e
  known_entry by d d' log e h own was =
      known_made by h.0 h.1.0 log e h.1.1.0 own (loud log h.0 (rw (h.1.1.1) at was))

  -- one line after the other
  abbrev GoesOn : List (ℕ × Line T) → List (ℕ × Line T) → State T → Type 0
  GoesOn before lines last = All IsTicketKnown (entries_of lines) × AreIn (before ++ lines) last

  one_on : (before lines : List (ℕ × Line T)) (x : ℕ × Line T) → (before ++ x ∷ []) ++ lines ≡ before ++ x ∷ lines
  one_on before lines x = append_assoc before (x ∷ []) lines

  goes_on : (before lines : List (ℕ × Line T)) (d last : State T) → IsOrderly d → AreIn before d
      → Runs d (entries_of lines) last → EachNamesOwn (before ++ lines) → GoesOn before lines last
  goes_on before [] d last s was runs names = (All-nil IsTicketKnown, rw (append-nil before, runs) was)
  goes_on before ((by, Next e) ∷ lines) d last s was (next, (step, later)) names =
      let own = names before lines by e refl in
      let rest = goes_on (before ++ (by, Next e) ∷ []) lines next last (keeps_order T d next e s step).0
      (in_after by e d next before s step own was) later (rw (one_on before lines (by, Next e)) names) in (
        All-cons IsTicketKnown e (entries_of lines) (known_entry by d next before e step own was) rest.0,
        rw (one_on before lines (by, Next e)) at rest.1,
      )
  goes_on before ((by, Told wake) ∷ lines) d last s was runs names =
      let line : Line T = Told wake in
      let rest = goes_on (before ++ (by, line) ∷ []) lines d last s (in_before by line before d (λ w. refl) was) runs
      (rw (one_on before lines (by, line)) names) in
      (rest.0, rw (one_on before lines (by, line)) at rest.1)
  goes_on before ((by, Ending drains departing) ∷ lines) d last s was runs names =
      let line : Line T = Ending drains departing in
      let rest = goes_on (before ++ (by, line) ∷ []) lines d last s (in_before by line before d (λ w. refl) was) runs
      (rw (one_on before lines (by, line)) names) in
      (rest.0, rw (one_on before lines (by, line)) at rest.1)
  goes_on before ((by, Opening limit max_waiting) ∷ lines) d last s was runs names =
      let line : Line T = Opening limit max_waiting in
      let rest = goes_on (before ++ (by, line) ∷ []) lines d last s (in_before by line before d (λ w. refl) was) runs
      (rw (one_on before lines (by, line)) names) in
      (rest.0, rw (one_on before lines (by, line)) at rest.1)

  -- nobody waits before the first line
  nobody_in : (d : State T) → AreIn [] d
  nobody_in d = record {
    queued = λ who wake is. absurd (let none : None ≡ Some wake = is in cc);
    one = λ a b wake first second. absurd (let none : None ≡ Some wake = first in cc);
  }

  reaches_so : (log : List (ℕ × Line T)) (last : State T) → IsLegal log → Reaches log last → GoesOn [] log last
  reaches_so log last legal (limit, (max_waiting, (lines, (is, runs)))) =
      let first : State T = bounded max_waiting (opened limit []) in
      goes_on [] log first last (reached T limit max_waiting [] first refl) (nobody_in first)
      (rw (ap (entries_of {T = T}) is.0.1) runs) legal.2

  pub none_unknown : NoTicketIsUnknown T
  none_unknown log legal = (reaches_so log legal.0.0 legal legal.0.1).0

  pub each_in_queue : EachWaitsInItsQueue T
  each_in_queue log last who wake legal reaches waits = (reaches_so log last legal reaches).1.queued who wake waits

  pub of_one : EachTicketIsOfOne T
  of_one log a b wake legal first second = (reaches_so log legal.0.0 legal legal.0.1).1.one a b wake first second

  -- so no caller names a ticket that the pool does not know
  known_last : (es : List (Entry T)) (e : Entry T) → All IsTicketKnown (es ++ e ∷ []) → IsTicketKnown e
  known_last [] e known = All-head IsTicketKnown e [] known
  known_last (f ∷ es) e known = known_last es e (All-tail IsTicketKnown f (es ++ e ∷ []) known)

  pub knows_named : (e : Entry T) (c c' : Knowing (Line T)) → HasCalled (λ x. x ≡ e) c c' → IsTicketKnown e
  knows_named e c c' h =
      let before = c.seen ++ h.1.1.0 in
      let all = none_unknown c'.seen h.1.5 in
      known_last (entries_of before) e
      (rw (h.1.1.1, entries_of-next before c.number h.0, h.1.0) at all)
