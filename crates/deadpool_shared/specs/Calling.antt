-- What a step adds to the history, as its caller sees it.
use Rattle.std.specs.Prelude.{◌≡◌, ◌⊎◌, ⊤, true, ℕ, Option, Some, None, Result, Ok, Err}
use Rattle.std.specs.declared.alloc.AllocError.{AllocError}
use mathlib.Core.List.{IsPrefix}
use Rattle.deadpool_chronicle.specs.History.{Knowing}
use Rattle.deadpool_desk.specs.Retained.{Retained}
use Rattle.deadpool_desk.specs.declared.retain.Retainer.{Ghosts as RetainerOf}
use Rattle.deadpool_desk.specs.declared.owner_step.OwnerReply.{OwnerReply}
use Rattle.deadpool_desk.specs.declared.owner_step.OwnerReply.TheVariants as owner_reply
use Rattle.deadpool_desk.specs.declared.owner_step.OwnerStep.{OwnerStep}
use Rattle.deadpool_desk.specs.declared.owner_step.OwnerStep.TheVariants as owner_step
use Rattle.deadpool_desk.specs.declared.step.Reply.{Reply}
use Rattle.deadpool_desk.specs.declared.step.Reply.TheVariants.{Exhausted, OutOfMemory}
use Rattle.deadpool_desk.specs.declared.step.Step.{Step}
use Rattle.deadpool_desk.specs.declared.step.Step.TheVariants.{Enter}
use Rattle.deadpool_history.specs.History.{CallsAndTells, HasCalled, History, IsTallyOf, ThenTells}
use Rattle.deadpool_history.specs.Retains.{AnswersFor, RemovesIdle}
use Rattle.deadpool_history.specs.declared.line.Line.{Line}
use Rattle.deadpool_journal.specs.declared.entry.Entry.{Entry}
use Rattle.deadpool_journal.specs.declared.entry.Entry.TheVariants.{Made, Owner}
use Rattle.deadpool_journal.specs.declared.tally.Tally.{Tally}
use Rattle.deadpool_parts.specs.declared.status.Status.{Status}
use Rattle.deadpool_shared.specs.Counts.{Holder, IsNewCaller, IsNewHolder}
use Rattle.deadpool_shared.specs.Locked.{may_wait}

-- the reply to a get that may wait, whose waker finds no memory: no step is made
abbrev pub IsRefused : Step → Reply → Type 0
IsRefused step reply = (may_wait step ≡ true) × (reply ≡ OutOfMemory)

-- A step that was made, of an object with this number, is one call of its caller's. One that was refused is none.
abbrev pub CallsOrRefuses : Step → Option ℕ → Reply → Knowing Line → Knowing Line → Type 0
CallsOrRefuses step number reply c c' =
    HasCalled (λ e. e ≡ Made step number reply) c c' ⊎ (IsRefused step reply × (c' ≡ c))

-- the reply to a new get that was handed out no shares: no step is made
abbrev pub IsUnheard : Step → Reply → Type 0
IsUnheard (Enter wait) Exhausted = ⊤
IsUnheard _ _ = ⊥

-- a holder has its shares, or is handed out some with a new caller, or none are left
abbrev pub IsSupplied : Option Holder → Option Holder → Type 0
IsSupplied (Some h) supplied = supplied ≡ Some h
IsSupplied None (Some h) = IsNewHolder h
IsSupplied None None = ⊤

-- A step of a holder that has shares, after which it knows that all are told. Or none are left.
abbrev pub CallsIfHeard : Step → Option ℕ → Reply → Option Holder → Option Holder → Type 0
CallsIfHeard step number reply (Some h) (Some h') =
    ThenTells (CallsOrRefuses step number reply) h.caller h'.caller
CallsIfHeard step number reply (Some h) None = ⊥
CallsIfHeard step number reply None (Some h') = ⊥
CallsIfHeard step number reply None None = IsUnheard step reply

-- a step of a holder, which has shares or is handed out some first
abbrev pub CallsFromSeat : Step → Option ℕ → Reply → Option Holder → Option Holder → Type 0
CallsFromSeat step number reply h h' =
    (supplied : Option Holder) × (IsSupplied h supplied × CallsIfHeard step number reply supplied h')

-- the entry of a resize, which found memory or did not
abbrev pub IsResize : {A E : Type 0} → ℕ → Result A E → Entry → Type 0
IsResize limit (Ok done) e = e ≡ Owner (owner_step.Resize limit) owner_reply.Done
IsResize limit (Err refused) e = e ≡ Owner (owner_step.Resize limit) owner_reply.OutOfMemory

-- A retain is one call. By its entry the history that its caller has seen says which of the idle objects it removed,
-- and which stay, as many of each as the reply says. After it all are told.
abbrev pub RetainsAndTells : {G : Type 0} → Result (Retained G) AllocError → Knowing Line → Knowing Line → Type 0
RetainsAndTells result c c' =
    ThenTells (λ before after. HasCalled (RemovesIdle result after.seen) before after) c c'

-- And what it gives is what the retainer left of those that it removed, in order.
abbrev pub AnswersAndTells : {T R G : Type 0} → RetainerOf R T G → Result (Retained G) AllocError → Knowing Line
    → Knowing Line → Type 0
AnswersAndTells asks result c c' =
    ThenTells (λ before after. HasCalled (AnswersFor asks result after.seen) before after) c c'

-- the entry of a status
abbrev pub IsStatus : Status → Entry → Type 0
IsStatus status e = e ≡ Owner owner_step.Status (owner_reply.Stands status)

-- The caller has asked for this status. After it all are told.
abbrev pub AsksStatus : Status → Knowing Line → Knowing Line → Type 0
AsksStatus status c c' = CallsAndTells (IsStatus status) c c'

-- And the history that ends with this step has this tally.
abbrev pub AsksTally : Tally → Status → Knowing Line → Knowing Line → Type 0
AsksTally tally status c c' =
    ThenTells (λ before after. HasCalled (IsStatus status) before after × IsTallyOf after.seen tally) c c'

-- These calls were made in the name of a new caller, which had seen how the pool opened.
abbrev pub ByNewCaller : History → (Knowing Line → Knowing Line → Type 0) → Type 0
ByNewCaller opening calls =
    (c : Knowing Line) × ((c' : Knowing Line) × (IsNewCaller c × IsPrefix opening c.seen × calls c c'))

-- handles are counted by this step
abbrev pub CountsBy : OwnerStep → History → Type 0
CountsBy step opening = (made : OwnerReply) × ByNewCaller opening (CallsAndTells (λ e. e ≡ Owner step made))

-- one handle more is counted, if one was left
abbrev pub Upgrades : {P : Type 0} → History → Option P → Type 0
Upgrades opening (Some pool) = ByNewCaller opening (CallsAndTells (λ e. e ≡ Owner owner_step.Upgrade owner_reply.Done))
Upgrades opening None = ByNewCaller opening (CallsAndTells (λ e. e ≡ Owner owner_step.Upgrade owner_reply.NoHandle))
