-- Along a legal history each has by its own lines what it holds.
use Rattle.std.proofs.Common.{◌≡◌, ℕ, List, [], ◌∷◌, ◌++◌, Option, Some, None, ap, refl, ◌∙◌, inl, inr}
use Rattle.std.proofs.Common.{true, map, append-nil}
use Rattle.std.proofs.lemmas.List.{append_assoc}
use Rattle.std.specs.Prelude.{◌==◌, if◌then◌else◌}
use Rattle.std.proofs.lemmas.Bool.{cases_Bool}
use Rattle.deadpool_chronicle.specs.History.{calls_by}
use Rattle.deadpool_desk.specs.DeskState.{DeskState, bounded, new_core}
use Rattle.deadpool_journal.specs.declared.entry.Entry.{Entry}
use Rattle.deadpool_journal.specs.declared.entry.Entry.TheVariants.{Made, Owner, Retain}
use Rattle.deadpool_turns.proofs.Holding.{numbers_once, one_holds, opens_once}
use Rattle.deadpool_turns.proofs.Own.{backs_nothing, can_hand, can_pass, stays_backed}
use Rattle.deadpool_turns.specs.Holders.{CanPass, HandsOn, IsNumberedOnce, Out, holds, passing_by}
use Rattle.deadpool_history.specs.Holding.{EachHandsItsOwnOn, EachObjectIsOfOne, NoneIsIdle, steps_of}
use Rattle.deadpool_history.specs.History.{History, IsLegal, Reaches, entries_of}
use Rattle.deadpool_history.specs.Own.{EachMakesOwn, IsOwnEntry, held_after, held_from, held_in}
use Rattle.deadpool_history.specs.declared.line.Line.{Line}
use Rattle.deadpool_history.specs.declared.line.Line.TheVariants.{Opening, Next, Told, Ending}

abbrev HoldsOwn : ℕ → Option ℕ → Out → Type 0
HoldsOwn who has out = (n : ℕ) → has ≡ Some n → holds who n out ≡ true

-- One line more counts for its maker alone.
held_on : (who by : ℕ) (line : Line) (has : Option ℕ) (log : History)
    → held_from has (calls_by who (log ++ (by, line) ∷ []))
    ≡ (if by == who then held_after line (held_from has (calls_by who log)) else held_from has (calls_by who log))
held_on who by line has [] = elim (cases_Bool (by == who)) [ inl own ↦ rw own refl | inr other ↦ rw other refl ]
held_on who by line has ((m, first) ∷ log) =
    elim (cases_Bool (m == who)) [
      | inl own ↦ rw own (held_on who by line (held_after first has) log)
      | inr other ↦ rw other (held_on who by line has log)
    ]

-- one that is no step does not count
held_silent : (who by : ℕ) (line : Line) (log : History) → ((has : Option ℕ) → held_after line has ≡ has)
    → held_in (calls_by who (log ++ (by, line) ∷ [])) ≡ held_in (calls_by who log)
held_silent who by line log silent =
    held_on who by line None log
    ∙ elim (cases_Bool (by == who)) [
      | inl own ↦ rw own (silent (held_in (calls_by who log)))
      | inr other ↦ rw other refl
    ]

can_pass_by : (e : Entry) (mine : List Line) → IsOwnEntry e mine → CanPass (passing_by e) (held_in mine)
can_pass_by (Made step object answer) mine own = can_pass step object (held_in mine) answer own.0
can_pass_by (Owner step answer) mine own = tt
can_pass_by (Retain result) mine own = tt

-- the rest of a history
abbrev Goes : History → History → Out → Type 0
Goes before log out =
    (out' : Out) × (HandsOn out (steps_of log) out'
    × ((who : ℕ) → HoldsOwn who (held_in (calls_by who (before ++ log))) out'))

one_on : (before log : History) (x : ℕ × Line) → (before ++ x ∷ []) ++ log ≡ before ++ x ∷ log
one_on before log x = append_assoc before (x ∷ []) log

-- a line that is no step moves nothing
silent_on : (before log : History) (by : ℕ) (line : Line) (out : Out) → Goes (before ++ (by, line) ∷ []) log out
    → (out' : Out) × (HandsOn out (steps_of log) out'
    × ((who : ℕ) → HoldsOwn who (held_in (calls_by who (before ++ (by, line) ∷ log))) out'))
silent_on before log by line out rest = (rest.0, (rest.1.0, rw (one_on before log (by, line)) at rest.1.1))

still_backed : (before : History) (by : ℕ) (line : Line) (out : Out) → ((has : Option ℕ) → held_after line has ≡ has)
    → ((who : ℕ) → HoldsOwn who (held_in (calls_by who before)) out)
    → (who : ℕ) → HoldsOwn who (held_in (calls_by who (before ++ (by, line) ∷ []))) out
still_backed before by line out silent backed who = rw (held_silent who by line before silent) (backed who)

hands_from : (before log : History) (out : Out) → ((who : ℕ) → HoldsOwn who (held_in (calls_by who before)) out)
    → EachMakesOwn (before ++ log) → Goes before log out
hands_from before [] out backed gives = (out, (refl, rw (append-nil before) backed))
hands_from before ((by, Next e) ∷ log) out backed gives =
    let own = gives before log by e refl in
    let can = can_pass_by e (calls_by by before) own in
    let handed = can_hand by (passing_by e) (held_in (calls_by by before)) out can (backed by) in
    let same = one_on before log (by, Next e) in
    let rest =
    hands_from (before ++ (by, Next e) ∷ []) log handed.0
    (λ who. rw (held_on who by (Next e) None before)
    (stays_backed who by (passing_by e) (held_in (calls_by who before)) out handed.0 handed.1 (backed who)))
    (rw same gives) in
    (rest.0, ((handed.0, (handed.1, rest.1.0)), rw same at rest.1.1))
hands_from before ((by, Told t) ∷ log) out backed gives =
    silent_on before log by (Told t) out
    (hands_from (before ++ (by, Told t) ∷ []) log out (still_backed before by (Told t) out (λ has. refl) backed)
    (rw (one_on before log (by, Told t)) gives))
hands_from before ((by, Ending drains departing) ∷ log) out backed gives =
    let line = Ending drains departing in
    silent_on before log by line out
    (hands_from (before ++ (by, line) ∷ []) log out (still_backed before by line out (λ has. refl) backed)
    (rw (one_on before log (by, line)) gives))
hands_from before ((by, Opening limit mode min_idle max_waiting) ∷ log) out backed gives =
    let line = Opening limit mode min_idle max_waiting in
    silent_on before log by line out
    (hands_from (before ++ (by, line) ∷ []) log out (still_backed before by line out (λ has. refl) backed)
    (rw (one_on before log (by, line)) gives))

pub entries_are : (log : History) → map (λ (x : ℕ × Entry). x.1) (steps_of log) ≡ entries_of log
entries_are [] = refl
entries_are ((by, Next e) ∷ log) = ap (λ (es : List Entry). e ∷ es) (entries_are log)
entries_are ((by, Told t) ∷ log) = entries_are log
entries_are ((by, Ending drains departing) ∷ log) = entries_are log
entries_are ((by, Opening limit mode min_idle max_waiting) ∷ log) = entries_are log

hands_all : (log : History) → IsLegal log → Goes [] log []
hands_all log legal = hands_from [] log [] (λ who. backs_nothing who []) legal.2

numbered_once : (log : History) (last : DeskState ℕ) (out : Out) → Reaches log last → HandsOn [] (steps_of log) out
    → IsNumberedOnce last out
numbered_once log last out (limit, (mode, (min_idle, (most, (lines, (is, runs)))))) hands =
    let entries : map (λ (x : ℕ × Entry). x.1) (steps_of log) ≡ entries_of lines =
    entries_are log ∙ ap entries_of is.0.1 in
    numbers_once (bounded most (new_core limit mode 0 min_idle)) last [] out (steps_of log)
    (opens_once limit 0 min_idle mode most) (rw entries runs, hands)

pub hands_own_on : EachHandsItsOwnOn
hands_own_on log last legal reaches =
    let all = hands_all log legal in
    (all.0, (all.1.0, all.1.1, numbered_once log last all.0 reaches all.1.0))

pub of_one : EachObjectIsOfOne
of_one log a b n legal first second =
    let last = legal.0.0 in
    let all = hands_all log legal in
    (one_holds last all.0 a b n (numbered_once log last all.0 legal.0.1 all.1.0) (all.1.1 a n first)
    (all.1.1 b n second)).0

pub none_idle : NoneIsIdle
none_idle log last who n legal reaches has =
    let all = hands_all log legal in
    let held = all.1.1 who n has in
    (one_holds last all.0 who who n (numbered_once log last all.0 reaches all.1.0) held held).1
