-- Each makes only steps that are its own, as the history grows.
use Rattle.std.proofs.Common.{◌≡◌, ℕ, List, [], ◌∷◌, ◌++◌, Option, Some, None, Result, Ok, Err, ap, inl, inr, refl}
use Rattle.std.proofs.Common.{subst, true, false}
use Rattle.std.specs.Option.{option_or}
use Rattle.std.specs.declared.alloc.AllocError.{AllocError}
use Rattle.deadpool_parts.specs.declared.config.QueueMode.{QueueMode}
use Rattle.deadpool_chronicle.specs.History.{calls_by}
use Rattle.deadpool_desk.specs.Replies.{Brings, named}
use Rattle.deadpool_desk.specs.Retained.{Retained}
use Rattle.deadpool_desk.specs.declared.slot.Slot.{Slot}
use Rattle.deadpool_desk.specs.declared.step.Held.TheVariants as held
use Rattle.deadpool_desk.specs.declared.step.Reply.{Reply}
use Rattle.deadpool_desk.specs.declared.step.Step.{Step}
use Rattle.deadpool_desk.specs.declared.step.Step.TheVariants.{Back, Take, Discard, Refused, Cancel}
use Rattle.deadpool_journal.specs.ByNumber.{number_in}
use Rattle.deadpool_journal.specs.declared.entry.Entry.{Entry}
use Rattle.deadpool_journal.specs.declared.entry.Entry.TheVariants.{Made}
use Rattle.deadpool_turns.specs.Holders.{IsOwn}
use Rattle.deadpool_turns.specs.Tickets.{IsNamed}
use Rattle.deadpool_history.specs.History.{History, IsRetain}
use Rattle.deadpool_history.specs.Own.{EachMakesOwn, IsOwnEntry, held_after, held_from, held_in, waits_after}
use Rattle.deadpool_history.specs.Own.{waits_from, waits_in}
use Rattle.deadpool_history.specs.declared.line.Line.{Line}
use Rattle.deadpool_history.specs.declared.line.Line.TheVariants.{Opening, Next}
use Rattle.deadpool_history.proofs.Turns.{last_or_before, nothing_before}

pub nobody_gives : EachMakesOwn []
nobody_gives before after by e is = absurd (nothing_before before after (by, Next e) is)

-- one line more, and if that is a step, it is its maker's own
pub gives_on : (log : History) (n : ℕ) (line : Line) → ((e : Entry) → line ≡ Next e → IsOwnEntry e (calls_by n log))
    → EachMakesOwn log → EachMakesOwn (log ++ (n, line) ∷ [])
gives_on log n line own gives before after by e is =
    elim (last_or_before log before after (n, line) (by, Next e) is) [
      | inl (same, last) ↦
          let who : n ≡ by = ap (λ (x : ℕ × Line). x.0) last in
          rw (← same, ← who) (own e (ap (λ (x : ℕ × Line). x.1) last))
      | inr (rest, same) ↦ gives before rest by e same
    ]

pub step_gives_on : (log : History) (n : ℕ) (e : Entry) → IsOwnEntry e (calls_by n log) → EachMakesOwn log
    → EachMakesOwn (log ++ (n, Next e) ∷ [])
step_gives_on log n e own gives =
    gives_on log n (Next e)
    (λ f is. let same : e ≡ f = cc in subst (λ (x : Entry). IsOwnEntry x (calls_by n log)) same own) gives

-- a history with nothing but how the pool opened
pub opens_unowned : (n limit : ℕ) (mode : QueueMode) (min_idle : ℕ) (max_waiting : Option ℕ)
    → EachMakesOwn ((n, Opening limit mode min_idle max_waiting) ∷ [])
opens_unowned n limit mode min_idle max_waiting =
    let line : Line = Opening limit mode min_idle max_waiting in
    gives_on [] n line (λ e is. absurd (let no : Opening limit mode min_idle max_waiting ≡ Next e = is in cc))
    nobody_gives

-- a retain gives away nobody's object
pub retain_own : {L : Type 0} (result : Result (Retained L) AllocError) (e : Entry) (mine : List Line)
    → IsRetain result e → IsOwnEntry e mine
retain_own (Ok given) e mine is = rw (is.1.1) tt
retain_own (Err refused) e mine is = rw is tt

-- The object that a step is noted with is that which it brings, if it brings one.
own_made : {T : Type 0} (step : Step) (was hand : Option (Slot T)) (has : Option ℕ) → Brings step was
    → IsOwn step (number_in was) has → IsOwn step (number_in (option_or was hand)) has
own_made Back (Some slot) hand has brings own = own
own_made Back None hand has brings own = absurd (let none : false ≡ true = brings in cc)
own_made Take was hand has brings own = own
own_made Discard was hand has brings own = own
own_made Refused was hand has brings own = own
own_made (Cancel held.Object) was hand has brings own = own
own_made _ was hand has brings own = tt

pub own_entry : {T : Type 0} (step : Step) (was hand : Option (Slot T)) (answer : Reply) (mine : List Line)
    → Brings step was → IsOwn step (number_in was) (held_in mine) → IsNamed (named step) (waits_in mine)
    → IsOwnEntry (Made step (number_in (option_or was hand)) answer) mine
own_entry step was hand answer mine brings own names = (own_made step was hand (held_in mine) brings own, names)

-- what a caller has with one line more
pub held_from-snoc : (has : Option ℕ) (lines : List Line) (line : Line)
    → held_from has (lines ++ line ∷ []) ≡ held_after line (held_from has lines)
held_from-snoc has [] line = refl
held_from-snoc has (first ∷ lines) line = held_from-snoc (held_after first has) lines line

-- and under which ticket it waits
pub waits_from-snoc : (waits : Option ℕ) (lines : List Line) (line : Line)
    → waits_from waits (lines ++ line ∷ []) ≡ waits_after line (waits_from waits lines)
waits_from-snoc waits [] line = refl
waits_from-snoc waits (first ∷ lines) line = waits_from-snoc (waits_after first waits) lines line
