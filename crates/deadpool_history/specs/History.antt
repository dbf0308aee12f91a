-- A pool's history: its lines, each beside the number of the caller that wrote it. The first says how the pool opened.
-- Each other one is a step, or says who in the queue was told that its wait has ended, or how many wait for the end of
-- the pool.
use Rattle.std.specs.Prelude.{◌≡◌, ⊤, ℕ, List, ◌++◌, [], ◌∷◌, Option, Some, None, Result, Ok, Err, false}
use Rattle.std.specs.Prelude.{Bool, not, ◌&&◌, ◌==◌, length, nat_lt, take}
use Rattle.std.specs.List.{All}
use Rattle.std.specs.declared.alloc.AllocError.{AllocError}
use Rattle.deadpool_parts.specs.declared.config.QueueMode.{QueueMode}
use Rattle.deadpool_gate.specs.Numbers.{without_number}
use Rattle.deadpool_gate.specs.Waking.{next_due}
use Rattle.deadpool_chronicle.specs.History.{Knowing, SeesMore}
use Rattle.deadpool_desk.specs.Closing.{is_drained}
use Rattle.deadpool_desk.specs.CoreSteps.{unnotified_after}
use Rattle.deadpool_desk.specs.DeskState.{DeskState, bounded, new_core}
use Rattle.deadpool_desk.specs.Retained.{Retained}
use Rattle.deadpool_desk.specs.declared.retain.Removal.{Removal}
use Rattle.deadpool_journal.specs.ByNumber.{numbered}
use Rattle.deadpool_journal.specs.Journaling.{Journaling, opening}
use Rattle.deadpool_journal.specs.LogState.{LogState}
use Rattle.deadpool_journal.specs.Replay.{Runs, RunsCounted}
use Rattle.deadpool_journal.specs.declared.entry.Entry.{Entry}
use Rattle.deadpool_journal.specs.declared.entry.Entry.TheVariants.{Made, Retain}
use Rattle.deadpool_journal.specs.Tally.{no_tally}
use Rattle.deadpool_journal.specs.declared.journal.Journal.{Journal}
use Rattle.deadpool_journal.specs.declared.tally.Tally.{Tally}
use Rattle.deadpool_history.specs.Own.{EachMakesOwn}
use Rattle.deadpool_history.specs.declared.line.Line.{Line}
use Rattle.deadpool_history.specs.declared.line.Line.TheVariants.{Opening, Next, Told, Ending}

abbrev pub History : Type 0
History = List (ℕ × Line)

-- the steps among these lines, in their order
abbrev pub entries_of : History → List Entry
entries_of [] = []
entries_of ((by, Next e) ∷ lines) = e ∷ entries_of lines
entries_of ((by, _) ∷ lines) = entries_of lines

-- Those in the queue that were not told, after a line: whom a step makes wait is the last of them, and who asks,
-- leaves or is told is none of them.
abbrev pub unheard_after : Line → List ℕ → List ℕ
unheard_after (Next (Made step object reply)) unheard = unnotified_after step reply unheard
unheard_after (Told ticket) unheard = without_number ticket unheard
unheard_after _ unheard = unheard

abbrev pub unheard_from : List ℕ → History → List ℕ
unheard_from unheard [] = unheard
unheard_from unheard ((by, line) ∷ lines) = unheard_from (unheard_after line unheard) lines

-- and at the end of a history
abbrev pub unheard : History → List ℕ
unheard log = unheard_from [] log

-- how many drains wait for a pool's end, and how many holders have let go of what is still to be dropped
pub record Awaited : Type 0 where
  pub drains : ℕ
  pub departing : ℕ

abbrev pub nobody_awaited : Awaited
nobody_awaited = record { drains = 0; departing = 0 }

abbrev pub awaited_after : Line → Awaited → Awaited
awaited_after (Ending drains departing) awaited = record { drains = drains; departing = departing }
awaited_after _ awaited = awaited

abbrev pub awaited_from : Awaited → History → Awaited
awaited_from awaited [] = awaited
awaited_from awaited ((by, line) ∷ lines) = awaited_from (awaited_after line awaited) lines

-- and at the end of a history: as its last line of that kind says, and nobody before the first
abbrev pub awaited : History → Awaited
awaited log = awaited_from nobody_awaited log

-- a drain waits for the end of a pool that is drained, or is not, and the end has come
abbrev pub is_drain_due : Bool → Awaited → Bool
is_drain_due drained a = not (a.drains == 0) && (drained && (a.departing == 0))

-- a line that is not the first
abbrev pub IsLater : Line → Type 0
IsLater (Next e) = ⊤
IsLater (Told ticket) = ⊤
IsLater (Ending drains departing) = ⊤
IsLater (Opening limit mode min_idle max_waiting) = ⊥

-- The first line says how the pool opened. These are the others, each a step or one that was told.
abbrev pub IsHistoryOf : ℕ → QueueMode → ℕ → Option ℕ → History → History → Type 0
IsHistoryOf limit mode min_idle max_waiting lines log =
    ((by : ℕ) × (log ≡ (by, Opening limit mode min_idle max_waiting) ∷ lines))
    × All (λ x. IsLater x.1) lines

-- Each step is one of the desk machine, from what the earlier ones left, with the reply that it has there. The last
-- leaves this state.
abbrev pub Reaches : History → DeskState ℕ → Type 0
Reaches log last =
    (limit : ℕ) × ((mode : QueueMode) × ((min_idle : ℕ) × ((max_waiting : Option ℕ) × ((lines : History)
    × (IsHistoryOf limit mode min_idle max_waiting lines log
    × Runs (bounded max_waiting (new_core limit mode 0 min_idle)) (entries_of lines) last)))))

-- At the end of the history this one in the queue is the next that is to be told: nobody has told it, and it has its
-- place or the pool has closed.
abbrev pub IsDueAfter : History → ℕ → Type 0
IsDueAfter log ticket =
    (last : DeskState ℕ) × (Reaches log last × (next_due last.is_open last.granted (unheard log) ≡ Some ticket))

-- Whoever was told was due then, by what stands before.
abbrev pub TellsInTurn : History → Type 0
TellsInTurn log =
    (before after : History) (by ticket : ℕ) → log ≡ before ++ (by, Told ticket) ∷ after → IsDueAfter before ticket

-- Each step is one of the desk machine, by which its maker gives away only what it has, and names only the ticket under
-- which it waits. Nobody was told who was not due.
abbrev pub IsLegal : History → Type 0
IsLegal log = ((last : DeskState ℕ) × Reaches log last) × TellsInTurn log × EachMakesOwn log

-- The history is legal, and at its end no get is due to be told: each in the queue that had its place, or whose pool
-- had closed, was told, has asked or has left.
abbrev pub GetsAreTold : History → Type 0
GetsAreTold log =
    ((last : DeskState ℕ) × (Reaches log last × (next_due last.is_open last.granted (unheard log) ≡ None)))
    × IsLegal log

-- At its end no drain is due: either none waits, or the end of the pool has not come.
abbrev pub DrainsAreTold : History → Type 0
DrainsAreTold log =
    (last : DeskState ℕ) × (Reaches log last × (is_drain_due (is_drained last) (awaited log) ≡ false))

-- so nobody is due
abbrev pub AllAreTold : History → Type 0
AllAreTold log = GetsAreTold log × DrainsAreTold log

-- The tally counts each step once, and nothing else.
abbrev pub IsTallyOf : History → Tally → Type 0
IsTallyOf log tally =
    (limit : ℕ) × ((mode : QueueMode) × ((min_idle : ℕ) × ((max_waiting : Option ℕ) × ((lines : History)
    × (IsHistoryOf limit mode min_idle max_waiting lines log
    × ((last : DeskState ℕ)
    × RunsCounted (bounded max_waiting (new_core limit mode 0 min_idle)) no_tally (entries_of lines) last tally))))))

-- the line of one that was named to be told, by this caller, if one was
abbrev pub told_by : ℕ → Option ℕ → History
told_by caller None = []
told_by caller (Some ticket) = (caller, Told ticket) ∷ []

-- a line of a step with one of these entries
abbrev pub IsNext : (Entry → Type 0) → Line → Type 0
IsNext may_be line = (e : Entry) × ((line ≡ Next e) × may_be e)

-- A call, as its caller sees it: one line more of its own, which ends a legal history that begins with all that the
-- caller had seen. Between these two stands what others did, and who was told.
abbrev pub HasCalled : (Entry → Type 0) → Knowing Line → Knowing Line → Type 0
HasCalled may_be c c' =
    (e : Entry) × (may_be e × ((between : History) × (c'.seen ≡ (c.seen ++ between) ++ (c.number, Next e) ∷ []))
    × (c'.mine ≡ c.mine ++ Next e ∷ []) × (c'.number ≡ c.number) × (c'.admitted ≡ c.admitted) × IsLegal c'.seen)

-- The calls of a caller, which has seen more by the time that they return: a moment at which nobody is due to be told,
-- and before it what others did, and who was told.
abbrev pub ThenTells : (Knowing Line → Knowing Line → Type 0) → Knowing Line → Knowing Line → Type 0
ThenTells calls c c' = (called : Knowing Line) × (calls c called × SeesMore called c' × AllAreTold c'.seen)

-- a call after which it has
abbrev pub CallsAndTells : (Entry → Type 0) → Knowing Line → Knowing Line → Type 0
CallsAndTells may_be c c' = ThenTells (HasCalled may_be) c c'

-- A journal has the first of these entries, as many as there may be, and the mark if there are more.
abbrev pub HasFirst : LogState → List Entry → Type 0
HasFirst kept es = (kept.entries ≡ take kept.most es) × (kept.is_full ≡ nat_lt kept.most (length es))

-- A copied journal is a beginning of the history: it opened so, and its entries are those of the first steps, of all of
-- them if it is not full.
abbrev pub IsBeginning : Journal → History → Type 0
IsBeginning journal log =
    (lines : History) × (IsHistoryOf journal.limit journal.mode journal.min_idle journal.max_waiting lines log
    × ((rest : List Entry) × ((entries_of lines ≡ journal.entries.items ++ rest)
    × (journal.full ≡ false → rest ≡ []))))

-- a pool, and the history of its callers
pub record Recording (T : Type 0) : Type 0 where
  pub pool : Journaling T
  pub log : History

module _ {T : Type 0} where
  -- The history says how the pool opened, and its steps are those of the desk machine, one after the other, from there
  -- to the state that it has. The tally counts these steps, and the journal has the first of them. Those in the queue
  -- that the pool has not told are those that the history has not, and nobody was told who was not due. Each gives away
  -- only what it has, and names only the ticket under which it waits.
  abbrev pub LeadsTo : Journaling T → History → Type 0
  LeadsTo j log =
      (lines : History) × (IsHistoryOf j.limit j.mode j.min_idle j.max_waiting lines log
      × (RunsCounted (opening j) no_tally (entries_of lines) (numbered j.core.desk) j.tally
      × HasFirst j.log (entries_of lines)
      × (j.core.unnotified ≡ unheard log)
      × TellsInTurn log
      × EachMakesOwn log))

  -- The history leads there with this entry at its end.
  abbrev pub LeadsWith : Journaling T → History → Entry → Type 0
  LeadsWith j log e =
      (lines : History) × (IsHistoryOf j.limit j.mode j.min_idle j.max_waiting lines log
      × (RunsCounted (opening j) no_tally (entries_of lines ++ e ∷ []) (numbered j.core.desk) j.tally
      × HasFirst j.log (entries_of lines ++ e ∷ [])
      × (j.core.unnotified ≡ unheard_after (Next e) (unheard log))
      × TellsInTurn log
      × EachMakesOwn log))

module _ {L : Type 0} where
  -- the entry of a retain with this reply: as many were removed as are given
  abbrev pub IsRetain : Result (Retained L) AllocError → Entry → Type 0
  IsRetain (Ok given) e =
      (noted : List Removal) × ((length noted ≡ length given.removed) × (e ≡ Retain (Ok noted)))
  IsRetain (Err refused) e = e ≡ Retain (Err refused)
