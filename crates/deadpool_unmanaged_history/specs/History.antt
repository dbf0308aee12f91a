-- A pool's history: its lines, each beside the number of the caller that wrote it. The first says how the pool opened.
-- Each other one is a step, or says who in a queue was told that its wait has ended, or how many wait for the end of
-- the pool.
use Rattle.std.specs.Prelude.{◌≡◌, ⊤, ℕ, List, ◌++◌, [], ◌∷◌, map, Option, Some, None, false, length, nat_lt, take}
use Rattle.std.specs.List.{All}
use Rattle.deadpool_gate.specs.Waking.{next_due}
use Rattle.deadpool_chronicle.specs.History.{Knowing, SeesMore}
use Rattle.deadpool_unmanaged.specs.Closing.{is_drained}
use Rattle.deadpool_unmanaged.specs.State.{State, bounded, last_idle, opened}
use Rattle.deadpool_unmanaged.specs.declared.step.Reply.{Reply}
use Rattle.deadpool_unmanaged.specs.declared.step.Reply.TheVariants.{Stored, Kept}
use Rattle.deadpool_unmanaged_journal.specs.ByName.{name_in, silent}
use Rattle.deadpool_unmanaged_journal.specs.Journaling.{Journaling}
use Rattle.deadpool_unmanaged_journal.specs.LogState.{LogState}
use Rattle.deadpool_unmanaged_journal.specs.Replay.{Runs, RunsCounted}
use Rattle.deadpool_unmanaged_journal.specs.Tally.{no_tally}
use Rattle.deadpool_unmanaged_journal.specs.declared.entry.Entry.{Entry}
use Rattle.deadpool_unmanaged_journal.specs.declared.entry.Entry.TheVariants.{Made, Owner}
use Rattle.deadpool_unmanaged_journal.specs.declared.journal.Journal.{Journal}
use Rattle.deadpool_unmanaged_journal.specs.declared.tally.Tally.{Tally}
use Rattle.deadpool_unmanaged_history.specs.Awaited.{awaited, is_drain_due}
use Rattle.deadpool_unmanaged_history.specs.Own.{EachNamesOwn}
use Rattle.deadpool_unmanaged_history.specs.Telling.{ThenTells}
use Rattle.deadpool_unmanaged_history.specs.Unheard.{unheard, unheard_after, unnotified_of}
use Rattle.deadpool_unmanaged_history.specs.declared.line.Line.{Line}
use Rattle.deadpool_unmanaged_history.specs.declared.line.Line.TheVariants.{Opening, Next, Told, Ending}
use Rattle.deadpool_unmanaged_history.specs.declared.line.Wake.{Wake}
use Rattle.deadpool_unmanaged_history.specs.declared.line.Wake.TheVariants.{Get, Add}

module _ {T : Type 0} where
  -- the steps among these lines, in their order
  abbrev pub entries_of : List (ℕ × Line T) → List (Entry T)
  entries_of [] = []
  entries_of ((by, Next e) ∷ lines) = e ∷ entries_of lines
  entries_of ((by, _) ∷ lines) = entries_of lines

  -- a line that is not the first
  abbrev pub IsLater : Line T → Type 0
  IsLater (Next e) = ⊤
  IsLater (Told wake) = ⊤
  IsLater (Ending drains departing) = ⊤
  IsLater (Opening limit max_waiting) = ⊥

  -- The first line says how the pool opened. These are the others, each a step or one that was told.
  abbrev pub IsHistoryOf : ℕ → Option ℕ → List (ℕ × Line T) → List (ℕ × Line T) → Type 0
  IsHistoryOf limit max_waiting lines log =
      ((by : ℕ) × (log ≡ (by, Opening limit max_waiting) ∷ lines)) × All (λ x. IsLater x.1) lines

  -- a history with nothing but how the pool opened
  abbrev pub OpensWith : ℕ → Option ℕ → List (ℕ × Line T) → Type 0
  OpensWith limit max_waiting log = IsHistoryOf limit max_waiting [] log

  -- Each step is one of the pool, from what the earlier ones left, with the reply that it has there. The last leaves
  -- this state, which does not say whom the pool has told.
  abbrev pub Reaches : List (ℕ × Line T) → State T → Type 0
  Reaches log last =
      (limit : ℕ) × ((max_waiting : Option ℕ) × ((lines : List (ℕ × Line T)) × (IsHistoryOf limit max_waiting lines log
      × Runs (bounded max_waiting (opened limit [])) (entries_of lines) last)))

  -- At the end of the history this one is the next in its queue that is to be told: nobody has told it, and it was
  -- granted what it asks for or the pool has closed.
  abbrev pub IsDueAfter : List (ℕ × Line T) → Wake → Type 0
  IsDueAfter log (Get ticket) =
      (last : State T)
      × (Reaches log last × (next_due last.is_open last.gets.granted (unheard log).gets ≡ Some ticket))
  IsDueAfter log (Add ticket) =
      (last : State T)
      × (Reaches log last × (next_due last.is_open last.adds.granted (unheard log).adds ≡ Some ticket))

  -- Whoever was told was due then, by what stands before.
  abbrev pub TellsInTurn : List (ℕ × Line T) → Type 0
  TellsInTurn log =
      (before after : List (ℕ × Line T)) (by : ℕ) (wake : Wake) → log ≡ before ++ (by, Told wake) ∷ after
      → IsDueAfter before wake

  -- Each step is one of the pool, and names only the ticket under which its maker waits. Nobody was told who was not
  -- due.
  abbrev pub IsLegal : List (ℕ × Line T) → Type 0
  IsLegal log = ((last : State T) × Reaches log last) × TellsInTurn log × EachNamesOwn log

  -- The history is legal, and at its end nobody in a queue is due to be told: each get that was granted an object, each
  -- add that was granted room, and all of them if the pool had closed, were told, have asked or have left.
  abbrev pub QueuesAreTold : List (ℕ × Line T) → Type 0
  QueuesAreTold log =
      ((last : State T) × (Reaches log last
      × (next_due last.is_open last.gets.granted (unheard log).gets ≡ None)
      × (next_due last.is_open last.adds.granted (unheard log).adds ≡ None)))
      × IsLegal log

  -- At its end no drain is due: either none waits, or the end of the pool has not come.
  abbrev pub DrainsAreTold : List (ℕ × Line T) → Type 0
  DrainsAreTold log =
      (last : State T) × (Reaches log last × (is_drain_due (is_drained last) (awaited log) ≡ false))

  -- so nobody is due
  abbrev pub AllAreTold : List (ℕ × Line T) → Type 0
  AllAreTold log = QueuesAreTold log × DrainsAreTold log

  -- The tally counts each step once, and nothing else.
  abbrev pub IsTallyOf : List (ℕ × Line T) → Tally → Type 0
  IsTallyOf log tally =
      (limit : ℕ) × ((max_waiting : Option ℕ) × ((lines : List (ℕ × Line T)) × (IsHistoryOf limit max_waiting lines log
      × ((last : State T)
      × RunsCounted (bounded max_waiting (opened limit [])) no_tally (entries_of lines) last tally))))

  -- the line of one that was named to be told, by this caller, if one was
  abbrev pub told_by : (ℕ → Wake) → ℕ → Option ℕ → List (ℕ × Line T)
  told_by wake caller None = []
  told_by wake caller (Some ticket) = (caller, Told (wake ticket)) ∷ []

  -- a line of a step with one of these entries
  abbrev pub IsNext : (Entry T → Type 0) → Line T → Type 0
  IsNext may_be line = (e : Entry T) × ((line ≡ Next e) × may_be e)

  -- A call, as its caller sees it: one line more of its own, which ends a legal history that begins with all that the
  -- caller had seen. Between these two stands what others did, and who was told.
  abbrev pub HasCalled : (Entry T → Type 0) → Knowing (Line T) → Knowing (Line T) → Type 0
  HasCalled may_be c c' =
      (e : Entry T) × (may_be e
      × ((between : List (ℕ × Line T)) × (c'.seen ≡ (c.seen ++ between) ++ (c.number, Next e) ∷ []))
      × (c'.mine ≡ c.mine ++ Next e ∷ []) × (c'.number ≡ c.number) × (c'.admitted ≡ c.admitted) × IsLegal c'.seen)

  -- a call whose caller has seen by its end that all are told
  abbrev pub CallsAndTells : (Entry T → Type 0) → Knowing (Line T) → Knowing (Line T) → Type 0
  CallsAndTells may_be c c' = ThenTells SeesMore (λ s. AllAreTold s.seen) (HasCalled may_be) c c'

  -- The object of a step, by what it left: one that the pool has taken is the last of its idle objects then, and
  -- another one is in the hand.
  abbrev pub object_of : State T → Reply → Option T → Option T
  object_of d Stored hand = last_idle d.idle
  object_of d Kept hand = last_idle d.idle
  object_of d _ hand = hand

module _ {O : Type 0} where
  -- A journal has the first of these entries, as many as there may be, and the mark if there are more.
  abbrev pub HasFirst : LogState O → List (Entry O) → Type 0
  HasFirst kept es = (kept.entries ≡ take kept.most es) × (kept.is_full ≡ nat_lt kept.most (length es))

module _ {T O : Type 0} (name : T → O) where
  -- an entry, with the name of its object
  abbrev pub named : Entry T → Entry O
  named (Made step object reply) = Made step (name_in name object) reply
  named (Owner step reply) = Owner step reply

  -- A copied journal is a beginning of the history: it opened so, and its entries are those of the first steps, of all
  -- of them if it is not full.
  abbrev pub IsBeginning : Journal O → List (ℕ × Line T) → Type 0
  IsBeginning journal log =
      (lines : List (ℕ × Line T)) × (IsHistoryOf journal.limit journal.max_waiting lines log
      × ((rest : List (Entry O)) × ((map named (entries_of lines) ≡ journal.entries.items ++ rest)
      × (journal.full ≡ false → rest ≡ []))))

  -- The history says how the pool opened, and its steps lead, one after the other, from there to the state that it has.
  -- The tally counts these steps, and the journal has the first of them. Those in the queues that the pool has not told
  -- are those that the history has not, and nobody was told who was not due. Each names only the ticket under which it
  -- waits.
  abbrev pub LeadsTo : Journaling T O → List (ℕ × Line T) → Type 0
  LeadsTo j log =
      (lines : List (ℕ × Line T)) × (IsHistoryOf j.limit j.max_waiting lines log
      × (RunsCounted (bounded j.max_waiting (opened j.limit [])) no_tally (entries_of lines)
      (silent j.core.pool) j.tally
      × HasFirst j.log (map named (entries_of lines))
      × (unnotified_of j.core.pool ≡ unheard log)
      × TellsInTurn log
      × EachNamesOwn log))

  -- The history leads there with this entry at its end.
  abbrev pub LeadsWith : Journaling T O → List (ℕ × Line T) → Entry T → Type 0
  LeadsWith j log e =
      (lines : List (ℕ × Line T)) × (IsHistoryOf j.limit j.max_waiting lines log
      × (RunsCounted (bounded j.max_waiting (opened j.limit [])) no_tally (entries_of lines ++ e ∷ [])
      (silent j.core.pool) j.tally
      × HasFirst j.log (map named (entries_of lines ++ e ∷ []))
      × (unnotified_of j.core.pool ≡ unheard_after (Next e) (unheard log))
      × TellsInTurn log
      × EachNamesOwn log))

-- a pool, and the history of its callers
pub record Recording (T O : Type 0) : Type 0 where
  pub pool : Journaling T O
  pub log : List (ℕ × Line T)
