-- One line more leads one step further.
use mathlib.Core.List.{IsPrefix}
use Rattle.std.proofs.Common.{◌≡◌, ℕ, ◌+◌, ◌-◌, List, [], ◌∷◌, ◌++◌, length, Result, Ok, Err, ap, refl, sym, ◌∙◌}
use Rattle.std.proofs.Common.{map, Option, Some, None, append-nil, arith, false, inl, inr, is_some}
use Rattle.std.proofs.lemmas.List.{length-map}
use Rattle.std.proofs.lemmas.List.Elements.{All-push}
use Rattle.std.specs.declared.alloc.AllocError.{AllocError}
use Rattle.deadpool_parts.specs.declared.config.QueueMode.{QueueMode}
use Rattle.deadpool_gate.specs.Numbers.{without_number}
use Rattle.deadpool_gate.specs.Waking.{next_due}
use Rattle.deadpool_chronicle.specs.History.{Calls, Knowing, calls_by}
use Rattle.deadpool_desk.specs.CoreState.{CoreState}
use Rattle.deadpool_desk.specs.CoreSteps.{due_now}
use Rattle.deadpool_desk.specs.DeskState.{DeskState, least_idle, size}
use Rattle.deadpool_desk.specs.Retained.{Retained}
use Rattle.deadpool_desk.specs.Retains.{Retains, ReviewsFrom}
use Rattle.deadpool_desk.specs.declared.retain.Removal.{Removal}
use Rattle.deadpool_desk.specs.declared.retain.Retainer.{Ghosts as RetainerOf}
use Rattle.deadpool_desk.specs.declared.slot.Slot.{Slot}
use Rattle.deadpool_journal.proofs.Balance.{counts_on, runs}
use Rattle.deadpool_journal.proofs.Retains.{retain_numbered, refused_retain_numbered}
use Rattle.deadpool_journal.specs.ByNumber.{number_of, numbered}
use Rattle.deadpool_journal.specs.Journaling.{Journaling, Notes, opening}
use Rattle.deadpool_journal.specs.LogState.{noted}
use Rattle.deadpool_journal.specs.Replay.{IsStep}
use Rattle.deadpool_journal.specs.Steps.{NotifiesUnnoted, RetainsNoted}
use Rattle.deadpool_journal.specs.Tally.{counted, no_tally}
use Rattle.deadpool_journal.specs.declared.entry.Entry.{Entry}
use Rattle.deadpool_journal.specs.declared.entry.Entry.TheVariants.{Retain}
use Rattle.deadpool_history.specs.History.{Awaited, GetsAreTold, HasCalled, History, IsDueAfter, IsHistoryOf, IsLater}
use Rattle.deadpool_history.specs.History.{IsLegal, IsNext, IsRetain, IsTallyOf, LeadsTo, LeadsWith}
use Rattle.deadpool_history.specs.History.{Reaches}
use Rattle.deadpool_history.specs.History.{awaited, awaited_after, awaited_from, entries_of, nobody_awaited, told_by}
use Rattle.deadpool_history.specs.History.{unheard, unheard_after, unheard_from}
use Rattle.deadpool_history.specs.Retains.{AnswersFor, RetainsFrom}
use Rattle.deadpool_history.proofs.First.{has_first}
use Rattle.deadpool_history.proofs.Own.{gives_on, step_gives_on}
use Rattle.deadpool_history.proofs.Turns.{tells_on}
use Rattle.deadpool_history.specs.Own.{IsOwnEntry}
use Rattle.deadpool_history.specs.declared.line.Line.{Line}
use Rattle.deadpool_history.specs.declared.line.Line.TheVariants.{Opening, Next, Told, Ending}

entries_of-append : (lines more : History) → entries_of (lines ++ more) ≡ entries_of lines ++ entries_of more
entries_of-append [] more = refl
entries_of-append ((m, Next f) ∷ lines) more = ap (λ (es : List Entry). f ∷ es) (entries_of-append lines more)
entries_of-append ((m, Told ticket) ∷ lines) more = entries_of-append lines more
entries_of-append ((m, Ending drains departing) ∷ lines) more = entries_of-append lines more
entries_of-append ((m, Opening limit mode min_idle max_waiting) ∷ lines) more = entries_of-append lines more

entries_of-next : (lines : History) (n : ℕ) (e : Entry)
    → entries_of (lines ++ (n, Next e) ∷ []) ≡ entries_of lines ++ e ∷ []
entries_of-next lines n e = entries_of-append lines ((n, Next e) ∷ [])

-- a line that is no step
entries_of-silent : (lines : History) (n : ℕ) (line : Line) → entries_of ((n, line) ∷ []) ≡ []
    → entries_of (lines ++ (n, line) ∷ []) ≡ entries_of lines
entries_of-silent lines n line none =
    entries_of-append lines ((n, line) ∷ []) ∙ ap (λ (es : List Entry). entries_of lines ++ es) none
    ∙ append-nil (entries_of lines)

unheard-snoc : (before : List ℕ) (log : History) (n : ℕ) (line : Line)
    → unheard_from before (log ++ (n, line) ∷ []) ≡ unheard_after line (unheard_from before log)
unheard-snoc before [] n line = refl
unheard-snoc before ((m, first) ∷ log) n line = unheard-snoc (unheard_after first before) log n line

awaited-snoc : (before : Awaited) (log : History) (n : ℕ) (line : Line)
    → awaited_from before (log ++ (n, line) ∷ []) ≡ awaited_after line (awaited_from before log)
awaited-snoc before [] n line = refl
awaited-snoc before ((m, first) ∷ log) n line = awaited-snoc (awaited_after first before) log n line

pub awaited_then : (log log' : History) (n drains departing : ℕ) → log' ≡ log ++ (n, Ending drains departing) ∷ []
    → awaited log' ≡ record { drains = drains; departing = departing }
awaited_then log log' n drains departing is = rw is (awaited-snoc nobody_awaited log n (Ending drains departing))

-- one line more
history_grows : (limit : ℕ) (mode : QueueMode) (min_idle : ℕ) (max_waiting : Option ℕ) (lines log : History) (n : ℕ)
    (line : Line) → IsLater line → IsHistoryOf limit mode min_idle max_waiting lines log
    → IsHistoryOf limit mode min_idle max_waiting (lines ++ (n, line) ∷ []) (log ++ (n, line) ∷ [])
history_grows limit mode min_idle max_waiting lines log n line later is = (
  (is.0.0, ap (λ (l : History). l ++ (n, line) ∷ []) is.0.1),
  All-push (λ (x : ℕ × Line). IsLater x.1) lines (n, line) is.1 later,
)

ticket_of : (t u : ℕ) → Told t ≡ Told u → t ≡ u
ticket_of t u is = cc

nobody : (named : Option ℕ) → is_some named ≡ false → named ≡ None
nobody None none = refl
nobody (Some t) none = cc

-- as many are noted as are given
noted_as_given : {T R L : Type 0} (asks : RetainerOf R T L) (least idle at : ℕ) (slots : List (Slot T)) (r : R)
    (kept : List (Slot T)) (removed : List L) (notes : List Removal) (r' : R)
    → ReviewsFrom asks least idle at slots r kept removed notes r' → length notes ≡ length removed
noted_as_given asks least idle at [] r kept removed notes r' h = ap length h.2 ∙ sym (ap length h.1)
noted_as_given asks least idle at (slot ∷ slots) r kept removed notes r' (inl (next, others, keeps, is, rest)) =
    noted_as_given asks least idle (at + 1) slots next others removed notes r' rest
noted_as_given asks least idle at (slot ∷ slots) r kept removed notes r'
    (inr (next, left, others, later_notes, gives_up, is, is_noted, rest)) =
    let later = noted_as_given asks least (idle - 1) (at + 1) slots next kept others later_notes r' rest in
    rw (is, is_noted) (omega (arith, later))

module _ {T : Type 0} where
  -- the entry of a step leads to where the step does
  leads_with : (j j' : Journaling T) (log : History) (e : Entry) → Notes e j j'
      → j'.core.unnotified ≡ unheard_after (Next e) j.core.unnotified
      → IsStep (numbered j.core.desk) e (numbered j'.core.desk) → LeadsTo j log → LeadsWith j' log e
  leads_with j j' log e notes heard made leads =
      let limit : j'.limit ≡ j.limit = ap (λ (k : Journaling T). k.limit) notes in
      let mode : j'.mode ≡ j.mode = ap (λ (k : Journaling T). k.mode) notes in
      let min_idle : j'.min_idle ≡ j.min_idle = ap (λ (k : Journaling T). k.min_idle) notes in
      let max_waiting : j'.max_waiting ≡ j.max_waiting = ap (λ (k : Journaling T). k.max_waiting) notes in
      let kept : j'.log ≡ noted e j.log = ap (λ (k : Journaling T). k.log) notes in
      let tally : j'.tally ≡ counted (size j.core.desk - size j'.core.desk) e j.tally =
      ap (λ (k : Journaling T). k.tally) notes in
      let es = entries_of leads.0 in
      rw (limit, mode, min_idle, max_waiting, kept, tally) (
        leads.0,
        (
          leads.1.0,
          (
            counts_on (opening j) j.core.desk j'.core.desk no_tally j.tally es e leads.1.1.0 made,
            has_first j.log es e leads.1.1.1,
            heard ∙ ap (unheard_after (Next e)) leads.1.1.2,
            leads.1.1.3,
            leads.1.1.4,
          ),
        ),
      )

  pub noted_leads : (j : Journaling T) (log log' : History) (n : ℕ) (e : Entry) → log' ≡ log ++ (n, Next e) ∷ []
      → IsOwnEntry e (calls_by n log) → LeadsWith j log e → LeadsTo j log'
  noted_leads j log log' n e is own leads =
      let lines = leads.0 in
      rw is (
        lines ++ (n, Next e) ∷ [],
        (
          history_grows j.limit j.mode j.min_idle j.max_waiting lines log n (Next e) tt leads.1.0,
          (
            rw (entries_of-next lines n e) leads.1.1.0,
            rw (entries_of-next lines n e) leads.1.1.1,
            leads.1.1.2 ∙ sym (unheard-snoc [] log n (Next e)),
            tells_on log n (Next e) (λ t is. absurd (let no : Next e ≡ Told t = is in cc)) leads.1.1.3,
            step_gives_on log n e own leads.1.1.4,
          ),
        ),
      )

  pub reaches : (j : Journaling T) (log : History) → LeadsTo j log → Reaches log (numbered j.core.desk)
  reaches j log leads =
      let run =
      runs (opening j) (numbered j.core.desk) no_tally j.tally (entries_of leads.0) leads.1.1.0 in
      (j.limit, (j.mode, (j.min_idle, (j.max_waiting, (leads.0, (leads.1.0, run))))))

  -- whoever the pool names is due
  is_due : (j : Journaling T) (log : History) (t : ℕ) → LeadsTo j log → Some t ≡ due_now j.core → IsDueAfter log t
  is_due j log t leads named = (
    numbered j.core.desk,
    (reaches j log leads, sym (rw (leads.1.1.2) at named)),
  )

  told_leads : (j : Journaling T) (core : CoreState T) (log : History) (n t : ℕ) → Some t ≡ due_now j.core
      → core.desk ≡ j.core.desk → core.unnotified ≡ without_number t j.core.unnotified → LeadsTo j log
      → LeadsTo (record j { core = core }) (log ++ (n, Told t) ∷ [])
  told_leads j core log n t named desk told leads =
      let lines = leads.0 in (
        lines ++ (n, Told t) ∷ [],
        (
          history_grows j.limit j.mode j.min_idle j.max_waiting lines log n (Told t) tt leads.1.0,
          (
            rw (entries_of-silent lines n (Told t) refl, desk) leads.1.1.0,
            rw (entries_of-silent lines n (Told t) refl) leads.1.1.1,
            told ∙ ap (without_number t) leads.1.1.2 ∙ sym (unheard-snoc [] log n (Told t)),
            tells_on log n (Told t) (λ u is. rw (ticket_of t u is) at (is_due j log t leads named)) leads.1.1.3,
            gives_on log n (Told t) (λ e is. absurd (let no : Told t ≡ Next e = is in cc)) leads.1.1.4,
          ),
        ),
      )

  -- who waits for the end, and what is still to be dropped
  pub ending_leads : (j : Journaling T) (log log' : History) (n drains departing : ℕ)
      → log' ≡ log ++ (n, Ending drains departing) ∷ [] → LeadsTo j log → LeadsTo j log'
  ending_leads j log log' n drains departing is leads =
      let lines = leads.0 in
      let line = Ending drains departing in
      rw is (
        lines ++ (n, line) ∷ [],
        (
          history_grows j.limit j.mode j.min_idle j.max_waiting lines log n line tt leads.1.0,
          (
            rw (entries_of-silent lines n line refl) leads.1.1.0,
            rw (entries_of-silent lines n line refl) leads.1.1.1,
            leads.1.1.2 ∙ sym (unheard-snoc [] log n line),
            tells_on log n line (λ t told. absurd (let no : line ≡ Told t = told in cc)) leads.1.1.3,
            gives_on log n line (λ e made. absurd (let no : line ≡ Next e = made in cc)) leads.1.1.4,
          ),
        ),
      )

  -- one in the queue is told, or none
  pub named_leads : (j j' : Journaling T) (log log' : History) (n : ℕ) (named : Option ℕ) → NotifiesUnnoted j named j'
      → log' ≡ log ++ told_by n named → LeadsTo j log → LeadsTo j' log'
  named_leads j j' log log' n (Some t) tells is leads =
      rw (is, tells.1) (told_leads j j'.core log n t tells.0.0 tells.0.1 tells.0.2 leads)
  named_leads j j' log log' n None tells is leads =
      let same : log' ≡ log = is ∙ append-nil log in
      rw (same, tells.1) (
        leads.0,
        (
          leads.1.0,
          (rw (tells.0.1) leads.1.1.0, leads.1.1.1, tells.0.2 ∙ leads.1.1.2, leads.1.1.3, leads.1.1.4),
        ),
      )

  -- the line that was noted is that of the step
  pub leads_on : (j j' : Journaling T) (log log' : History) (n : ℕ) (e : Entry) (line : Line) → Notes e j j'
      → j'.core.unnotified ≡ unheard_after (Next e) j.core.unnotified → IsNext (λ x. x ≡ e) line
      → log' ≡ log ++ (n, line) ∷ [] → IsOwnEntry e (calls_by n log)
      → IsStep (numbered j.core.desk) e (numbered j'.core.desk) → LeadsTo j log → LeadsTo j' log'
  leads_on j j' log log' n e line notes heard same is own made leads =
      noted_leads j' log log' n e
      (is ∙ ap (λ (l : Line). log ++ (n, l) ∷ []) (same.1.0 ∙ ap Next same.1.1)) own
      (leads_with j j' log e notes heard made leads)

  -- as many stay idle as a retain says
  stay_idle : {R L : Type 0} (asks : RetainerOf R T L) (d d' : DeskState (Slot T)) (r r' : R) (given : Retained L)
      → Retains asks d r (Ok given) d' r' → length (map (number_of {T = T}) d'.idle) ≡ given.retained
  stay_idle asks d d' r r' given h =
      let idle : d'.idle ≡ h.0 = ap (λ (e : DeskState (Slot T)). e.idle) h.3 in
      length-map d'.idle (number_of {T = T}) ∙ ap length idle ∙ sym h.2

  -- there is an entry for a retain
  pub retain_leads : {R L : Type 0} (asks : RetainerOf R T L) (j j' : Journaling T) (r r' : R)
      (result : Result (Retained L) AllocError) (log : History)
      → RetainsNoted asks j r result j' r' → LeadsTo j log
      → (e : Entry) × (IsRetain result e × LeadsWith j' log e
      × RetainsFrom asks result log e (numbered j'.core.desk))
  retain_leads asks j j' r r' (Ok given) log retains leads =
      let noted = retains.1.0 in
      let step = retain_numbered asks j.core.desk j'.core.desk r r' (given, noted) retains.1.1.0 in (
        Retain (Ok noted),
        (
          (
            noted,
            (
              noted_as_given asks (least_idle j.core.desk.limit j.core.desk) (length j.core.desk.idle) 0
                  j.core.desk.idle r retains.1.1.0.0 given.removed noted r' retains.1.1.0.1,
              refl,
            ),
          ),
          leads_with j j' log (Retain (Ok noted)) retains.1.2 retains.0.1 step leads,
          (
            numbered j.core.desk,
            (
              reaches j log leads,
              step,
              stay_idle asks j.core.desk j'.core.desk r r' given retains.0.0,
              (noted, (j.core.desk, (j'.core.desk, (r, (r', (refl, refl, refl, retains.1.1.0)))))),
            ),
          ),
        ),
      )
  retain_leads asks j j' r r' (Err refused) log retains leads =
      let step = refused_retain_numbered asks j.core.desk j'.core.desk r r' refused retains.0.0 in (
        Retain (Err refused),
        (
          refl,
          leads_with j j' log (Retain (Err refused)) retains.1 retains.0.1 step leads,
          (numbered j.core.desk, (reaches j log leads, step, tt, refl)),
        ),
      )

  -- whoever has seen the history up to that entry knows which objects went
  pub answers_for : {R L : Type 0} (asks : RetainerOf R T L) (j' : Journaling T)
      (result : Result (Retained L) AllocError) (log log' seen : History) (n : ℕ) (e : Entry)
      → log' ≡ log ++ (n, Next e) ∷ [] → seen ≡ log' → LeadsTo j' log'
      → IsRetain result e → RetainsFrom asks result log e (numbered j'.core.desk) → AnswersFor asks result seen e
  answers_for asks j' result log log' seen n e is all leads retain from = (
    retain,
    (
      from.0,
      (
        numbered j'.core.desk,
        ((log, (n, (all ∙ is, from.1.0, from.1.1, rw all (reaches j' log' leads)))), from.1.2, from.1.3),
      ),
    ),
  )

  pub is_tally_of : (j : Journaling T) (log : History) → LeadsTo j log → IsTallyOf log j.tally
  is_tally_of j log leads =
      (j.limit, (j.mode, (j.min_idle, (j.max_waiting, (leads.0, (leads.1.0, (numbered j.core.desk, leads.1.1.0)))))))

  pub is_legal : (j : Journaling T) (log : History) → LeadsTo j log → IsLegal log
  is_legal j log leads = ((numbered j.core.desk, reaches j log leads), leads.1.1.3, leads.1.1.4)

  -- no get is due to be told
  pub gets_are_told : (j : Journaling T) (log : History) → LeadsTo j log → is_some (due_now j.core) ≡ false
      → GetsAreTold log
  gets_are_told j log leads none = (
    (
      numbered j.core.desk,
      (
        reaches j log leads,
        nobody (next_due j.core.desk.is_open j.core.desk.granted (unheard log)) (rw (leads.1.1.2) at none),
      ),
    ),
    is_legal j log leads,
  )

  -- what a call is to its caller, by what it is to the history
  pub has_called : (j : Journaling T) (may_be : Entry → Type 0) (log log' : History) (c c' : Knowing Line)
      → Calls (IsNext may_be) log c log' c' → IsPrefix c.seen log → LeadsTo j log' → HasCalled may_be c c'
  has_called j may_be log log' c c' call before leads =
      let added = call.0 in
      let next = added.1.0 in (
        next.0,
        (
          next.1.1,
          (
            before.0,
            call.3 ∙ added.1.1 ∙ ap (λ (l : History). l ++ (c.number, added.0) ∷ []) (sym before.1)
                ∙ ap (λ (l : Line). (c.seen ++ before.0) ++ (c.number, l) ∷ []) next.1.0,
          ),
          added.1.2 ∙ ap (λ (l : Line). c.mine ++ l ∷ []) next.1.0,
          call.1,
          call.2,
          rw call.3 (is_legal j log' leads),
        ),
      )
