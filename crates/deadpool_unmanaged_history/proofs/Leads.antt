-- One line more leads one step further.
use Rattle.deadpool_unmanaged_history.proofs.Words.{◌≡◌, ◌∙◌, ℕ, List, [], ◌∷◌, ◌++◌, map, Option, Some, None, ap, sym}
use Rattle.deadpool_unmanaged_history.proofs.Words.{map-append, IsPrefix, Calls, Knowing, calls_by, State, CoreState}
use Rattle.deadpool_unmanaged_history.proofs.Words.{bounded}
use Rattle.deadpool_unmanaged_history.proofs.Words.{opened, silent, RunsCounted-snoc, runs, step_silent, Journaling}
use Rattle.deadpool_unmanaged_history.proofs.Words.{Notes, noted, size, counted, no_tally, Tally, IsTallyOf, refl, ◌-◌}
use Rattle.deadpool_unmanaged_history.proofs.Words.{Steps, Entry, Journal, Result, Ok, Err, IfOk, AllocError, HasCalled}
use Rattle.deadpool_unmanaged_history.proofs.Words.{DrainsAreTold, QueuesAreTold, IsBeginning, IsDueAfter}
use Rattle.deadpool_unmanaged_history.proofs.Words.{IsHistoryOf, IsLater, IsLegal}
use Rattle.deadpool_unmanaged_history.proofs.Words.{IsNext, LeadsTo, LeadsWith, Reaches, entries_of, named, Line, Wake}
use Rattle.deadpool_unmanaged_history.proofs.Words.{false, is_drained, Awaited, awaited, awaited_after, awaited_from}
use Rattle.deadpool_unmanaged_history.proofs.Words.{is_drain_due, nobody_awaited}
use Rattle.deadpool_unmanaged_history.proofs.Words.{nat_lt, length, drop, drop_all, take-append-drop, ltb-false}
use Rattle.deadpool_unmanaged_history.proofs.Words.{TakesAddWake, TakesGetWake, All-push, Unnotified, unheard}
use Rattle.deadpool_unmanaged_history.proofs.Words.{unheard_after, unheard_from, unnotified_of, told_by, append-nil}
use Rattle.deadpool_unmanaged_history.proofs.Words.{Bool, true, ◌||◌, is_some, next_due, has_due, due_get, due_add}
use Rattle.deadpool_unmanaged_history.proofs.First.{has_first}
use Rattle.deadpool_unmanaged_history.proofs.Heard.{heard}
use Rattle.deadpool_unmanaged_history.proofs.Own.{names_on, step_names_on}
use Rattle.deadpool_unmanaged_history.proofs.Turns.{tells_on}
use Rattle.deadpool_unmanaged_history.specs.Own.{IsOwnEntry}
use Rattle.deadpool_unmanaged_history.specs.declared.line.Line.TheVariants.{Opening, Next, Told, Ending}
use Rattle.deadpool_unmanaged_history.specs.declared.line.Wake.TheVariants.{Get, Add}
use Rattle.deadpool_unmanaged_journal.specs.declared.entry.Entry.TheVariants.{Made, Owner}

module _ {T : Type 0} where
  entries_of-append : (lines more : List (ℕ × Line T))
      → entries_of (lines ++ more) ≡ entries_of lines ++ entries_of more
  entries_of-append [] more = refl
  entries_of-append ((m, Next f) ∷ lines) more =
      ap (λ (es : List (Entry T)). f ∷ es) (entries_of-append lines more)
  entries_of-append ((m, Told wake) ∷ lines) more = entries_of-append lines more
  entries_of-append ((m, Ending drains departing) ∷ lines) more = entries_of-append lines more
  entries_of-append ((m, Opening limit max_waiting) ∷ lines) more = entries_of-append lines more

  pub entries_of-next : (lines : List (ℕ × Line T)) (n : ℕ) (e : Entry T)
      → entries_of (lines ++ (n, Next e) ∷ []) ≡ entries_of lines ++ e ∷ []
  entries_of-next lines n e = entries_of-append lines ((n, Next e) ∷ [])

  -- a line that is no step
  entries_of-silent : (lines : List (ℕ × Line T)) (n : ℕ) (line : Line T) → entries_of ((n, line) ∷ []) ≡ []
      → entries_of (lines ++ (n, line) ∷ []) ≡ entries_of lines
  entries_of-silent lines n line none =
      entries_of-append lines ((n, line) ∷ []) ∙ ap (λ (es : List (Entry T)). entries_of lines ++ es) none
      ∙ append-nil (entries_of lines)

  unheard-snoc : (before : Unnotified) (log : List (ℕ × Line T)) (n : ℕ) (line : Line T)
      → unheard_from before (log ++ (n, line) ∷ []) ≡ unheard_after line (unheard_from before log)
  unheard-snoc before [] n line = refl
  unheard-snoc before ((m, first) ∷ log) n line = unheard-snoc (unheard_after first before) log n line

  unheard-grows : (log : List (ℕ × Line T)) (n : ℕ) (line : Line T)
      → unheard (log ++ (n, line) ∷ []) ≡ unheard_after line (unheard log)
  unheard-grows log n line = unheard-snoc (record { gets = []; adds = [] }) log n line

  awaited-snoc : (before : Awaited) (log : List (ℕ × Line T)) (n : ℕ) (line : Line T)
      → awaited_from before (log ++ (n, line) ∷ []) ≡ awaited_after line (awaited_from before log)
  awaited-snoc before [] n line = refl
  awaited-snoc before ((m, first) ∷ log) n line = awaited-snoc (awaited_after first before) log n line

  pub awaited_then : (log log' : List (ℕ × Line T)) (n drains departing : ℕ)
      → log' ≡ log ++ (n, Ending drains departing) ∷ []
      → awaited log' ≡ record { drains = drains; departing = departing }
  awaited_then log log' n drains departing is = rw is (awaited-snoc nobody_awaited log n (Ending drains departing))

  -- one line more
  history_grows : (limit : ℕ) (max_waiting : Option ℕ) (lines log : List (ℕ × Line T)) (n : ℕ) (line : Line T)
      → IsLater line → IsHistoryOf limit max_waiting lines log
      → IsHistoryOf limit max_waiting (lines ++ (n, line) ∷ []) (log ++ (n, line) ∷ [])
  history_grows limit max_waiting lines log n line later is = (
    (is.0.0, ap (λ (l : List (ℕ × Line T)). l ++ (n, line) ∷ []) is.0.1),
    All-push (λ (x : ℕ × Line T). IsLater x.1) lines (n, line) is.1 later,
  )

nobody : (named : Option ℕ) → is_some named ≡ false → named ≡ None
nobody None none = refl
nobody (Some t) none = cc

wake_of : {T : Type 0} (w v : Wake) (line : Line T) → line ≡ Told w → line ≡ Told v → w ≡ v
wake_of w v line one other = cc

neither : (one other : Bool) → (one || other) ≡ false → (one ≡ false) × (other ≡ false)
neither true other h = cc
neither false other h = (refl, h)

-- nothing stands after the first, if there are no more
nothing_after : {E : Type 0} (most : ℕ) (es : List E) → nat_lt most (length es) ≡ false → drop most es ≡ []
nothing_after most es none = drop_all most es (ltb-false most (length es) none)

module _ {T O : Type 0} (name : T → O) where
  -- an entry counts the same with the name of its object
  counted_named : (gone : ℕ) (e : Entry T) (t : Tally) → counted gone (named name e) t ≡ counted gone e t
  counted_named gone (Made step object reply) t = refl
  counted_named gone (Owner step reply) t = refl

  -- the entry of a step leads to where the step does
  pub leads_with : (j j' : Journaling T O) (log : List (ℕ × Line T)) (e : Entry T) → Notes (named name e) j j'
      → Steps j.core.pool e j'.core.pool → LeadsTo name j log → LeadsWith name j' log e
  leads_with j j' log e notes made leads =
      let limit : j'.limit ≡ j.limit = ap (λ (k : Journaling T O). k.limit) notes in
      let most : j'.max_waiting ≡ j.max_waiting = ap (λ (k : Journaling T O). k.max_waiting) notes in
      let kept : j'.log ≡ noted (named name e) j.log = ap (λ (k : Journaling T O). k.log) notes in
      let gone = size j.core.pool - size j'.core.pool in
      let tally : j'.tally ≡ counted gone e j.tally =
      ap (λ (k : Journaling T O). k.tally) notes ∙ counted_named gone e j.tally in
      let es = entries_of leads.0 in
      let all : map (named name) (es ++ e ∷ []) ≡ map (named name) es ++ named name e ∷ [] =
      map-append (named name) es (e ∷ []) in
      rw (limit, most, kept, tally) (
        leads.0,
        (
          leads.1.0,
          (
            RunsCounted-snoc (bounded j.max_waiting (opened j.limit [])) (silent j.core.pool) (silent j'.core.pool)
                no_tally j.tally es e leads.1.1.0 (step_silent j.core.pool j'.core.pool e made),
            rw all (has_first j.log (map (named name) es) (named name e) leads.1.1.1),
            heard j.core.pool j'.core.pool e made ∙ ap (unheard_after (Next e)) leads.1.1.2,
            leads.1.1.3,
            leads.1.1.4,
          ),
        ),
      )

  pub reaches : (j : Journaling T O) (log : List (ℕ × Line T)) → LeadsTo name j log
      → Reaches log (silent j.core.pool)
  reaches j log leads =
      let run = runs (bounded j.max_waiting (opened j.limit [])) (silent j.core.pool) no_tally j.tally
      (entries_of leads.0) leads.1.1.0 in
      (j.limit, (j.max_waiting, (leads.0, (leads.1.0, run))))

  -- whoever the pool names is due
  get_is_due : (j : Journaling T O) (log : List (ℕ × Line T)) (t : ℕ) → LeadsTo name j log
      → Some t ≡ due_get j.core.pool → IsDueAfter log (Get t)
  get_is_due j log t leads named =
      let gets = ap (λ (us : Unnotified). us.gets) leads.1.1.2 in
      (silent j.core.pool, (reaches j log leads, sym (rw gets at named)))

  add_is_due : (j : Journaling T O) (log : List (ℕ × Line T)) (t : ℕ) → LeadsTo name j log
      → Some t ≡ due_add j.core.pool → IsDueAfter log (Add t)
  add_is_due j log t leads named =
      let adds = ap (λ (us : Unnotified). us.adds) leads.1.1.2 in
      (silent j.core.pool, (reaches j log leads, sym (rw adds at named)))

  pub noted_leads : (j : Journaling T O) (log log' : List (ℕ × Line T)) (n : ℕ) (e : Entry T)
      → log' ≡ log ++ (n, Next e) ∷ [] → IsOwnEntry e (calls_by n log) → LeadsWith name j log e
      → LeadsTo name j log'
  noted_leads j log log' n e is own leads =
      let lines = leads.0 in
      rw is (
        lines ++ (n, Next e) ∷ [],
        (
          history_grows j.limit j.max_waiting lines log n (Next e) tt leads.1.0,
          (
            rw (entries_of-next lines n e) leads.1.1.0,
            rw (entries_of-next lines n e) leads.1.1.1,
            leads.1.1.2 ∙ sym (unheard-grows log n (Next e)),
            tells_on log n (Next e) (λ w is. absurd (let no : Next e ≡ Told w = is in cc)) leads.1.1.3,
            step_names_on log n e own leads.1.1.4,
          ),
        ),
      )

  -- the line that was noted is that of the step
  pub leads_on : (j j' : Journaling T O) (log log' : List (ℕ × Line T)) (n : ℕ) (e : Entry T) (line : Line T)
      → Notes (named name e) j j' → IsNext (λ x. x ≡ e) line → log' ≡ log ++ (n, line) ∷ []
      → IsOwnEntry e (calls_by n log) → Steps j.core.pool e j'.core.pool → LeadsTo name j log → LeadsTo name j' log'
  leads_on j j' log log' n e line notes same is own made leads =
      noted_leads j' log log' n e
      (is ∙ ap (λ (l : Line T). log ++ (n, l) ∷ []) (same.1.0 ∙ ap Next same.1.1)) own
      (leads_with j j' log e notes made leads)

  pub is_legal : (j : Journaling T O) (log : List (ℕ × Line T)) → LeadsTo name j log → IsLegal log
  is_legal j log leads = ((silent j.core.pool, reaches j log leads), leads.1.1.3, leads.1.1.4)

  -- nobody in a queue is due to be told
  pub queues_are_told : (j : Journaling T O) (log : List (ℕ × Line T)) → LeadsTo name j log
      → has_due j.core.pool ≡ false → QueuesAreTold log
  queues_are_told j log leads none =
      let d = j.core.pool in
      let no = neither (is_some (next_due d.is_open d.gets.granted d.unnotified_gets))
      (is_some (next_due d.is_open d.adds.granted d.unnotified_adds)) none in
      let gets = ap (λ (us : Unnotified). us.gets) leads.1.1.2 in
      let adds = ap (λ (us : Unnotified). us.adds) leads.1.1.2 in (
        (
          silent d,
          (
            reaches j log leads,
            nobody (next_due d.is_open d.gets.granted (unheard log).gets) (rw gets at no.0),
            nobody (next_due d.is_open d.adds.granted (unheard log).adds) (rw adds at no.1),
          ),
        ),
        is_legal j log leads,
      )

  -- who has seen all of the history knows it then
  pub told_if_none : (j : Journaling T O) (log seen : List (ℕ × Line T)) (is_due : Bool) → LeadsTo name j log
      → is_due ≡ has_due j.core.pool → is_due ≡ false → seen ≡ log → QueuesAreTold seen
  told_if_none j log seen is_due leads due none is = rw is (queues_are_told j log leads (sym due ∙ none))

  -- nor is a drain
  pub drains_are_told : (j : Journaling T O) (log : List (ℕ × Line T)) → LeadsTo name j log
      → is_drain_due (is_drained j.core.pool) (awaited log) ≡ false → DrainsAreTold log
  drains_are_told j log leads none = (silent j.core.pool, (reaches j log leads, none))

  pub is_tally_of : (j : Journaling T O) (log : List (ℕ × Line T)) → LeadsTo name j log → IsTallyOf log j.tally
  is_tally_of j log leads =
      (j.limit, (j.max_waiting, (leads.0, (leads.1.0, (silent j.core.pool, leads.1.1.0)))))

  -- what a call is to its caller, by what it is to the history
  pub has_called : (j : Journaling T O) (may_be : Entry T → Type 0) (log log' : List (ℕ × Line T))
      (c c' : Knowing (Line T)) → Calls (IsNext may_be) log c log' c' → IsPrefix c.seen log → LeadsTo name j log'
      → HasCalled may_be c c'
  has_called j may_be log log' c c' call before leads =
      let added = call.0 in
      let next = added.1.0 in (
        next.0,
        (
          next.1.1,
          (
            before.0,
            call.3 ∙ added.1.1 ∙ ap (λ (l : List (ℕ × Line T)). l ++ (c.number, added.0) ∷ []) (sym before.1)
                ∙ ap (λ (l : Line T). (c.seen ++ before.0) ++ (c.number, l) ∷ []) next.1.0,
          ),
          added.1.2 ∙ ap (λ (l : Line T). c.mine ++ l ∷ []) next.1.0,
          call.1,
          call.2,
          rw call.3 (is_legal j log' leads),
        ),
      )

  -- nobody was told
  same_leads : (j : Journaling T O) (core : CoreState T) (log : List (ℕ × Line T)) → core.pool ≡ j.core.pool
      → LeadsTo name j log → LeadsTo name (record j { core = core }) log
  same_leads j core log same leads = rw same leads

  -- one in a queue was
  told_leads : (j : Journaling T O) (core : CoreState T) (log : List (ℕ × Line T)) (n : ℕ) (w : Wake)
      → IsDueAfter log w → silent core.pool ≡ silent j.core.pool
      → unnotified_of core.pool ≡ unheard_after {T = T} (Told w) (unnotified_of j.core.pool) → LeadsTo name j log
      → LeadsTo name (record j { core = core }) (log ++ (n, Told w) ∷ [])
  told_leads j core log n w due same told leads =
      let lines = leads.0 in
      let line : Line T = Told w in (
        lines ++ (n, Told w) ∷ [],
        (
          history_grows j.limit j.max_waiting lines log n (Told w) tt leads.1.0,
          (
            rw (entries_of-silent lines n (Told w) refl, same) leads.1.1.0,
            rw (entries_of-silent lines n (Told w) refl) leads.1.1.1,
            told ∙ ap (unheard_after {T = T} (Told w)) leads.1.1.2 ∙ sym (unheard-grows log n (Told w)),
            tells_on log n line (λ v is. rw (wake_of w v line refl is) at due) leads.1.1.3,
            names_on log n line (λ e made. absurd (let no : line ≡ Next e = made in cc)) leads.1.1.4,
          ),
        ),
      )

  -- who waits for the end, and what is still to be dropped
  pub ending_leads : (j : Journaling T O) (log log' : List (ℕ × Line T)) (n drains departing : ℕ)
      → log' ≡ log ++ (n, Ending drains departing) ∷ [] → LeadsTo name j log → LeadsTo name j log'
  ending_leads j log log' n drains departing is leads =
      let lines = leads.0 in
      let line : Line T = Ending drains departing in
      rw is (
        lines ++ (n, line) ∷ [],
        (
          history_grows j.limit j.max_waiting lines log n line tt leads.1.0,
          (
            rw (entries_of-silent lines n line refl) leads.1.1.0,
            rw (entries_of-silent lines n line refl) leads.1.1.1,
            leads.1.1.2 ∙ sym (unheard-grows log n line),
            tells_on log n line (λ w told. absurd (let no : line ≡ Told w = told in cc)) leads.1.1.3,
            names_on log n line (λ e made. absurd (let no : line ≡ Next e = made in cc)) leads.1.1.4,
          ),
        ),
      )

  pub told_get_leads : (j j' : Journaling T O) (log log' : List (ℕ × Line T)) (n : ℕ) (told : Option ℕ)
      → TakesGetWake j.core.pool told j'.core.pool × (j' ≡ record j { core = j'.core })
      → log' ≡ log ++ told_by (λ t. Get t) n told → LeadsTo name j log → LeadsTo name j' log'
  told_get_leads j j' log log' n (Some t) h is leads =
      rw (is, h.1) (told_leads j j'.core log n (Get t) (get_is_due j log t leads h.0.0)
      (ap (λ (d : State T). silent d) h.0.1)
      (ap (λ (d : State T). unnotified_of d) h.0.1) leads)
  told_get_leads j j' log log' n None h is leads =
      let same : log' ≡ log = is ∙ append-nil log in
      rw (same, h.1) (same_leads j j'.core log h.0.1 leads)

  pub told_add_leads : (j j' : Journaling T O) (log log' : List (ℕ × Line T)) (n : ℕ) (told : Option ℕ)
      → TakesAddWake j.core.pool told j'.core.pool × (j' ≡ record j { core = j'.core })
      → log' ≡ log ++ told_by (λ t. Add t) n told → LeadsTo name j log → LeadsTo name j' log'
  told_add_leads j j' log log' n (Some t) h is leads =
      rw (is, h.1) (told_leads j j'.core log n (Add t) (add_is_due j log t leads h.0.0)
      (ap (λ (d : State T). silent d) h.0.1)
      (ap (λ (d : State T). unnotified_of d) h.0.1) leads)
  told_add_leads j j' log log' n None h is leads =
      let same : log' ≡ log = is ∙ append-nil log in
      rw (same, h.1) (same_leads j j'.core log h.0.1 leads)

  -- what a copy has
  is_beginning : (j : Journaling T O) (log : List (ℕ × Line T)) (journal : Journal O) → LeadsTo name j log
      → journal.limit ≡ j.limit → journal.max_waiting ≡ j.max_waiting → journal.entries.items ≡ j.log.entries
      → journal.full ≡ j.log.is_full → IsBeginning name journal log
  is_beginning j log journal leads limit most entries full =
      let es = map (named name) (entries_of leads.0) in
      let first = leads.1.1.1 in
      let rest : List (Entry O) = drop j.log.most es in (
        leads.0,
        (
          rw (limit, most) leads.1.0,
          (
            rest,
            (
              sym (ap (λ (x : List (Entry O)). x ++ rest) (entries ∙ first.0) ∙ take-append-drop j.log.most es),
              λ not_full. nothing_after j.log.most es (sym first.1 ∙ sym full ∙ not_full),
            ),
          ),
        ),
      )

  -- what one has for which there was memory
  pub beginning_if_ok : (j : Journaling T O) (log : List (ℕ × Line T)) (result : Result (Journal O) AllocError)
      → LeadsTo name j log → IfOk result (λ journal. journal.limit ≡ j.limit)
      → IfOk result (λ journal. journal.max_waiting ≡ j.max_waiting)
      → IfOk result (λ journal. journal.entries.items ≡ j.log.entries)
      → IfOk result (λ journal. journal.full ≡ j.log.is_full) → IfOk result (λ journal. IsBeginning name journal log)
  beginning_if_ok j log (Ok journal) leads limit most entries full =
      is_beginning j log journal leads limit most entries full
  beginning_if_ok j log (Err refused) leads limit most entries full = tt
