-- Along a legal history each names only the ticket under which it waits, and waits where its own lines say.
use Rattle.std.proofs.Common.{◌≡◌, ℕ, List, [], ◌∷◌, ◌++◌, Option, None, ap, refl, subst, sym, ◌∙◌, inl, inr}
use Rattle.std.proofs.Common.{map, append-nil}
use Rattle.std.proofs.lemmas.List.{append_assoc}
use Rattle.std.specs.Prelude.{◌==◌, if◌then◌else◌}
use Rattle.std.proofs.lemmas.Bool.{cases_Bool}
use Rattle.deadpool_chronicle.specs.History.{calls_by}
use Rattle.deadpool_desk.specs.DeskState.{DeskState}
use Rattle.deadpool_journal.specs.declared.entry.Entry.{Entry}
use Rattle.deadpool_journal.specs.declared.entry.Entry.TheVariants.{Made, Owner, Retain}
use Rattle.deadpool_turns.proofs.Named.{tickets_known, waits_in_queue}
use Rattle.deadpool_turns.specs.Steps.{named_by}
use Rattle.deadpool_turns.specs.Tickets.{AreTicketsKnown, IsNamed, IsTicketKnown, IsTicketed, NameOwn, Tickets}
use Rattle.deadpool_turns.specs.Tickets.{nobody_waits, tickets_after, tickets_from}
use Rattle.deadpool_history.proofs.Holding.{entries_are}
use Rattle.deadpool_history.specs.Holding.{steps_of}
use Rattle.deadpool_history.specs.History.{History, IsLegal, Reaches, entries_of}
use Rattle.deadpool_history.specs.Own.{EachMakesOwn, IsOwnEntry, waits_after, waits_from, waits_in}
use Rattle.deadpool_history.specs.Waiting.{EachTicketIsOfOne, EachWaitsInTheQueue, NoTicketIsUnknown}
use Rattle.deadpool_history.specs.declared.line.Line.{Line}
use Rattle.deadpool_history.specs.declared.line.Line.TheVariants.{Opening, Next, Told, Ending}

-- One line more counts for its maker alone.
waits_on : (who by : ℕ) (line : Line) (waits : Option ℕ) (log : History)
    → waits_from waits (calls_by who (log ++ (by, line) ∷ []))
    ≡ (if by == who then waits_after line (waits_from waits (calls_by who log))
    else waits_from waits (calls_by who log))
waits_on who by line waits [] = elim (cases_Bool (by == who)) [ inl own ↦ rw own refl | inr other ↦ rw other refl ]
waits_on who by line waits ((m, first) ∷ log) =
    elim (cases_Bool (m == who)) [
      | inl own ↦ rw own (waits_on who by line (waits_after first waits) log)
      | inr other ↦ rw other (waits_on who by line waits log)
    ]

-- one that is no step does not count
waits_silent : (who by : ℕ) (line : Line) (log : History) → ((waits : Option ℕ) → waits_after line waits ≡ waits)
    → waits_in (calls_by who (log ++ (by, line) ∷ [])) ≡ waits_in (calls_by who log)
waits_silent who by line log silent =
    waits_on who by line None log
    ∙ elim (cases_Bool (by == who)) [
      | inl own ↦ rw own (silent (waits_in (calls_by who log)))
      | inr other ↦ rw other refl
    ]

-- the tickets are those of each one's own lines
abbrev AreOf : Tickets → History → Type 0
AreOf has log = (who : ℕ) → has who ≡ waits_in (calls_by who log)

on_step : (by : ℕ) (e : Entry) (has : Tickets) (before : History) → AreOf has before
    → AreOf (tickets_after by e has) (before ++ (by, Next e) ∷ [])
on_step by e has before are who =
    elim (cases_Bool (by == who)) [
      | inl own ↦ rw own (sym (waits_on who by (Next e) None before ∙ rw own refl))
      | inr other ↦ rw other (are who ∙ sym (waits_on who by (Next e) None before ∙ rw other refl))
    ]

silent_on : (by : ℕ) (line : Line) (has : Tickets) (before : History)
    → ((waits : Option ℕ) → waits_after line waits ≡ waits) → AreOf has before
    → AreOf has (before ++ (by, line) ∷ [])
silent_on by line has before silent are who = are who ∙ sym (waits_silent who by line before silent)

one_on : (before log : History) (x : ℕ × Line) → (before ++ x ∷ []) ++ log ≡ before ++ x ∷ log
one_on before log x = append_assoc before (x ∷ []) log

-- the rest of a history
abbrev Names : Tickets → History → History → Type 0
Names has before log = NameOwn has (steps_of log) × AreOf (tickets_from has (steps_of log)) (before ++ log)

own_named : (e : Entry) (mine : List Line) → IsOwnEntry e mine → IsNamed (named_by e) (waits_in mine)
own_named (Made step object answer) mine own = own.1
own_named (Owner step answer) mine own = tt
own_named (Retain result) mine own = tt

names_from : (before log : History) (has : Tickets) → AreOf has before → EachMakesOwn (before ++ log)
    → Names has before log
names_from before [] has are own = (tt, rw (append-nil before) are)
names_from before ((by, Next e) ∷ log) has are own =
    let rest =
    names_from (before ++ (by, Next e) ∷ []) log (tickets_after by e has) (on_step by e has before are)
    (rw (one_on before log (by, Next e)) own) in
    let mine = own_named e (calls_by by before) (own before log by e refl) in
    ((rw (are by) mine, rest.0), rw (one_on before log (by, Next e)) at rest.1)
names_from before ((by, Told t) ∷ log) has are own =
    let rest =
    names_from (before ++ (by, Told t) ∷ []) log has (silent_on by (Told t) has before (λ w. refl) are)
    (rw (one_on before log (by, Told t)) own) in
    (rest.0, rw (one_on before log (by, Told t)) at rest.1)
names_from before ((by, Ending drains departing) ∷ log) has are own =
    let line = Ending drains departing in
    let rest =
    names_from (before ++ (by, line) ∷ []) log has (silent_on by line has before (λ w. refl) are)
    (rw (one_on before log (by, line)) own) in
    (rest.0, rw (one_on before log (by, line)) at rest.1)
names_from before ((by, Opening limit mode min_idle max_waiting) ∷ log) has are own =
    let line = Opening limit mode min_idle max_waiting in
    let rest =
    names_from (before ++ (by, line) ∷ []) log has (silent_on by line has before (λ w. refl) are)
    (rw (one_on before log (by, line)) own) in
    (rest.0, rw (one_on before log (by, line)) at rest.1)

names_all : (log : History) → IsLegal log → Names nobody_waits [] log
names_all log legal = names_from [] log nobody_waits (λ who. refl) legal.2

same_entries : (log lines : History) → entries_of log ≡ entries_of lines
    → map (λ (x : ℕ × Entry). x.1) (steps_of log) ≡ entries_of lines
same_entries log lines same = entries_are log ∙ same

known_at : (log : History) (last : DeskState ℕ) → IsLegal log → Reaches log last → AreTicketsKnown (steps_of log)
known_at log last legal (limit, (mode, (min_idle, (most, (lines, (is, runs)))))) =
    tickets_known limit min_idle mode most (steps_of log) last
    (rw (same_entries log lines (ap entries_of is.0.1)) runs) (names_all log legal).0

pub none_unknown : NoTicketIsUnknown
none_unknown log legal = known_at log legal.0.0 legal legal.0.1

ticketed_at : (log : History) (last : DeskState ℕ) → IsLegal log → Reaches log last
    → IsTicketed (tickets_from nobody_waits (steps_of log)) last
ticketed_at log last legal (limit, (mode, (min_idle, (most, (lines, (is, runs)))))) =
    waits_in_queue limit min_idle mode most (steps_of log) last
    (rw (same_entries log lines (ap entries_of is.0.1)) runs) (names_all log legal).0

pub in_queue : EachWaitsInTheQueue
in_queue log last who t legal reaches waits =
    (ticketed_at log last legal reaches).queued who t ((names_all log legal).1 who ∙ waits)

pub of_one : EachTicketIsOfOne
of_one log a b t legal first second =
    let names = names_all log legal in
    (ticketed_at log legal.0.0 legal legal.0.1).one a b t (names.1 a ∙ first) (names.1 b ∙ second)

-- the last step of a legal history
steps_of-snoc : (log : History) (n : ℕ) (e : Entry) → steps_of (log ++ (n, Next e) ∷ []) ≡ steps_of log ++ (n, e) ∷ []
steps_of-snoc [] n e = refl
steps_of-snoc ((m, Next f) ∷ log) n e = ap (λ (xs : List (ℕ × Entry)). (m, f) ∷ xs) (steps_of-snoc log n e)
steps_of-snoc ((m, Told t) ∷ log) n e = steps_of-snoc log n e
steps_of-snoc ((m, Ending drains departing) ∷ log) n e = steps_of-snoc log n e
steps_of-snoc ((m, Opening limit mode min_idle max_waiting) ∷ log) n e = steps_of-snoc log n e

known_last : (steps : List (ℕ × Entry)) (n : ℕ) (e : Entry) → AreTicketsKnown (steps ++ (n, e) ∷ []) → IsTicketKnown e
known_last [] n e known = known.0
known_last ((m, f) ∷ steps) n e known = known_last steps n e known.1

pub last_known : (log seen : History) (n : ℕ) (e : Entry) → seen ≡ log ++ (n, Next e) ∷ [] → IsLegal seen
    → IsTicketKnown e
last_known log seen n e is legal =
    known_last (steps_of log) n e
    (subst (λ (steps : List (ℕ × Entry)). AreTicketsKnown steps) (ap steps_of is ∙ steps_of-snoc log n e)
    (none_unknown seen legal))
