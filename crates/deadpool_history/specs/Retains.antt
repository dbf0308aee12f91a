-- A retain, to its caller: which objects were idle, which of them it removed, and which stay.
use Rattle.std.specs.Prelude.{◌≡◌, ⊤, ℕ, List, ◌++◌, [], ◌∷◌, Result, Ok, Err, length}
use Rattle.std.specs.declared.alloc.AllocError.{AllocError}
use Rattle.deadpool_desk.specs.DeskState.{DeskState}
use Rattle.deadpool_desk.specs.Retained.{Retained}
use Rattle.deadpool_desk.specs.Retains.{RetainsNoting}
use Rattle.deadpool_desk.specs.declared.retain.Removal.{Removal}
use Rattle.deadpool_desk.specs.declared.retain.Retainer.{Ghosts as RetainerOf}
use Rattle.deadpool_desk.specs.declared.slot.Slot.{Slot}
use Rattle.deadpool_history.specs.History.{History, IsRetain, Reaches}
use Rattle.deadpool_history.specs.declared.line.Line.TheVariants.{Next}
use Rattle.deadpool_journal.specs.ByNumber.{numbered}
use Rattle.deadpool_journal.specs.Replay.{IsStep}
use Rattle.deadpool_journal.specs.declared.entry.Entry.{Entry}
use Rattle.deadpool_journal.specs.declared.entry.Entry.TheVariants.{Retain}

-- The history ends with this entry, which is a step from where the rest of it leads.
abbrev pub EndsWith : Entry → History → DeskState ℕ → DeskState ℕ → Type 0
EndsWith e seen before after =
    (prior : History) × ((by : ℕ)
    × ((seen ≡ prior ++ (by, Next e) ∷ []) × Reaches prior before × IsStep before e after × Reaches seen after))

module _ {L : Type 0} where
  -- as many are idle as the reply says that stay
  abbrev pub StayIdle : Result (Retained L) AllocError → DeskState ℕ → Type 0
  StayIdle (Ok given) after = length after.idle ≡ given.retained
  StayIdle (Err refused) after = ⊤

  -- The entry of a retain with this reply, at the end of what its caller has seen. Those that it names were idle before
  -- it, in this order, and the others, in theirs, are idle after it: as many of each as the reply says.
  abbrev pub RemovesIdle : Result (Retained L) AllocError → History → Entry → Type 0
  RemovesIdle result seen e =
      IsRetain result e × ((before : DeskState ℕ) × ((after : DeskState ℕ)
      × (EndsWith e seen before after × StayIdle result after)))

module _ {T R L : Type 0} (asks : RetainerOf R T L) where
  -- Of a desk whose objects have these numbers, the retainer was asked about each idle one, front to back. What is
  -- given is what it left of those that went, each in the place that the entry has for its number.
  abbrev pub ReviewsIdle : Result (Retained L) AllocError → Entry → DeskState ℕ → DeskState ℕ → Type 0
  ReviewsIdle (Ok given) e before after =
      (noted : List Removal) × ((d : DeskState (Slot T)) × ((d' : DeskState (Slot T)) × ((r : R) × ((r' : R)
      × ((e ≡ Retain (Ok noted)) × (before ≡ numbered d) × (after ≡ numbered d')
      × RetainsNoting asks d r (Ok (given, noted)) d' r')))))
  ReviewsIdle (Err refused) e before after = e ≡ Retain (Err refused)

  -- a step to this state from where the history leads
  abbrev pub RetainsFrom : Result (Retained L) AllocError → History → Entry → DeskState ℕ → Type 0
  RetainsFrom result prior e after =
      (before : DeskState ℕ)
      × (Reaches prior before × IsStep before e after × StayIdle result after × ReviewsIdle result e before after)

  -- the same entry, as the retainer answered
  abbrev pub AnswersFor : Result (Retained L) AllocError → History → Entry → Type 0
  AnswersFor result seen e =
      IsRetain result e × ((before : DeskState ℕ) × ((after : DeskState ℕ)
      × (EndsWith e seen before after × StayIdle result after × ReviewsIdle result e before after)))
