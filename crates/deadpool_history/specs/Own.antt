-- What a caller has by its own lines, under which ticket it waits by them, and which steps are its own to make.
use Rattle.std.specs.Prelude.{◌≡◌, ⊤, ℕ, List, [], ◌∷◌, ◌++◌, Option, None}
use Rattle.deadpool_chronicle.specs.History.{calls_by}
use Rattle.deadpool_desk.specs.Replies.{named}
use Rattle.deadpool_journal.specs.declared.entry.Entry.{Entry}
use Rattle.deadpool_journal.specs.declared.entry.Entry.TheVariants.{Made}
use Rattle.deadpool_turns.specs.Holders.{IsOwn, has_after, passing_by}
use Rattle.deadpool_turns.specs.Tickets.{IsNamed, told_by}
use Rattle.deadpool_history.specs.declared.line.Line.{Line}
use Rattle.deadpool_history.specs.declared.line.Line.TheVariants.{Next}

-- the object that a caller has after a line of its own, by what it had before
abbrev pub held_after : Line → Option ℕ → Option ℕ
held_after (Next e) has = has_after (passing_by e) has
held_after _ has = has

abbrev pub held_from : Option ℕ → List Line → Option ℕ
held_from has [] = has
held_from has (line ∷ lines) = held_from (held_after line has) lines

-- the object that it has by all its lines: the last that it was given and has not given away
abbrev pub held_in : List Line → Option ℕ
held_in mine = held_from None mine

-- the ticket under which it waits after a line of its own: the one with which its last step was answered
abbrev pub waits_after : Line → Option ℕ → Option ℕ
waits_after (Next e) waits = told_by e
waits_after _ waits = waits

abbrev pub waits_from : Option ℕ → List Line → Option ℕ
waits_from waits [] = waits
waits_from waits (line ∷ lines) = waits_from (waits_after line waits) lines

-- and by all its lines
abbrev pub waits_in : List Line → Option ℕ
waits_in mine = waits_from None mine

-- The maker of the step, whose lines these are, has what it gives away by it, and waits under the ticket that it names.
abbrev pub IsOwnEntry : Entry → List Line → Type 0
IsOwnEntry (Made step object reply) mine = IsOwn step object (held_in mine) × IsNamed (named step) (waits_in mine)
IsOwnEntry _ mine = ⊤

-- Each gives away only what it has by its own lines before, and names only the ticket under which it waits by them.
abbrev pub EachMakesOwn : List (ℕ × Line) → Type 0
EachMakesOwn log =
    (before after : List (ℕ × Line)) (by : ℕ) (e : Entry) → log ≡ before ++ (by, Next e) ∷ after
    → IsOwnEntry e (calls_by by before)
