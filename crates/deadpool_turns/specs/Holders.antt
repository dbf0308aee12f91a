-- Who holds which object: each holder by its number in a history, each object by its own.
use Rattle.std.specs.Prelude.{◌≡◌, ◌≤◌, ⊤, ℕ, ◌+◌, ◌==◌, ◌&&◌, Bool, true, false, List, [], ◌∷◌, map}
use Rattle.std.specs.Prelude.{Option, Some, None, IsSome, if◌then◌else◌}
use Rattle.std.specs.List.{list_any}
use Rattle.deadpool_parts.specs.declared.config.QueueMode.{QueueMode}
use Rattle.deadpool_desk.specs.DeskState.{DeskState, bounded, new_core}
use Rattle.deadpool_desk.specs.declared.step.Held.TheVariants as held
use Rattle.deadpool_desk.specs.declared.step.Reply.{Reply}
use Rattle.deadpool_desk.specs.declared.step.Reply.TheVariants.{Object, Number, Done, Unknown}
use Rattle.deadpool_desk.specs.declared.step.Step.{Step}
use Rattle.deadpool_desk.specs.declared.step.Step.TheVariants.{Enter, Ask, Again, Created, Discard, Refused, Back}
use Rattle.deadpool_desk.specs.declared.step.Step.TheVariants.{Cancel, Take}
use Rattle.deadpool_journal.specs.Replay.{Runs}
use Rattle.deadpool_journal.specs.declared.entry.Entry.{Entry}
use Rattle.deadpool_journal.specs.declared.entry.Entry.TheVariants.{Made}

-- the objects that are out or under preparation, each beside its holder
abbrev pub Out : Type 0
Out = List (ℕ × ℕ)

-- the holder has the object
abbrev pub is_held : ℕ → ℕ → ℕ × ℕ → Bool
is_held holder n x = (x.0 == holder) && (x.1 == n)

abbrev pub holds : ℕ → ℕ → Out → Bool
holds holder n out = list_any (is_held holder n) out

-- without that object of that holder
abbrev pub without_held : ℕ → ℕ → Out → Out
without_held holder n [] = []
without_held holder n (x ∷ xs) = if is_held holder n x then xs else x ∷ without_held holder n xs

-- the holder gives away an object that it has
abbrev pub Parts : ℕ → ℕ → Out → Out → Type 0
Parts holder n out out' = (holds holder n out ≡ true) × (out' ≡ without_held holder n out)

-- What a step is to its maker: it gets an object, gives this one away or the one that it has, or has what it had.
pub data Passing : Type 0 where
  Gets : ℕ → Passing
  Gives : ℕ → Passing
  GivesOne : Passing
  Stays : Passing

abbrev pub gets : Option ℕ → Passing
gets (Some n) = Gets n
gets None = Stays

-- the object that is served, the one that was created, and whether something was given up
abbrev pub given_by : Option ℕ → Reply → Option ℕ
given_by object (Object left) = object
given_by object _ = None

abbrev pub created_by : Reply → Option ℕ
created_by (Number n) = Some n
created_by _ = None

abbrev pub is_done : Reply → Bool
is_done Done = true
is_done _ = false

abbrev pub is_unknown : Reply → Bool
is_unknown Unknown = true
is_unknown _ = false

abbrev pub passing : Step → Option ℕ → Reply → Passing
passing (Enter wait) object reply = gets (given_by object reply)
passing (Ask ticket expired) object reply = gets (given_by object reply)
passing (Again allowance) object reply = gets (given_by object reply)
passing Created object reply = gets (created_by reply)
passing Back (Some n) reply = if is_unknown reply then Stays else Gives n
passing Take object reply = if is_unknown reply then Stays else GivesOne
passing Discard object reply = if is_done reply then GivesOne else Stays
passing Refused object reply = if is_done reply then GivesOne else Stays
passing (Cancel held.Object) object reply = if is_done reply then GivesOne else Stays
passing step object reply = Stays

abbrev pub passing_by : Entry → Passing
passing_by (Made step object reply) = passing step object reply
passing_by _ = Stays

-- What it makes of who holds what: each gives away only what it has.
abbrev pub Passes : ℕ → Passing → Out → Out → Type 0
Passes holder (Gets n) out out' = out' ≡ (holder, n) ∷ out
Passes holder (Gives n) out out' = Parts holder n out out'
Passes holder GivesOne out out' = (n : ℕ) × Parts holder n out out'
Passes holder Stays out out' = out' ≡ out

abbrev pub HandsOver : ℕ → Entry → Out → Out → Type 0
HandsOver holder e out out' = Passes holder (passing_by e) out out'

-- Steps, each beside its maker, by which each gives away only what it has.
abbrev pub HandsOn : Out → List (ℕ × Entry) → Out → Type 0
HandsOn out [] out' = out' ≡ out
HandsOn out ((holder, e) ∷ log) out' = (after : Out) × (HandsOver holder e out after × HandsOn after log out')

-- The same, as steps of the desk machine.
abbrev pub RunsBy : DeskState ℕ → Out → List (ℕ × Entry) → DeskState ℕ → Out → Type 0
RunsBy d out log d' out' = Runs d (map (λ (x : ℕ × Entry). x.1) log) d' × HandsOn out log out'

-- What a holder has after a step, by what it had before, and whether it may make it.
abbrev pub has_after : Passing → Option ℕ → Option ℕ
has_after (Gets n) has = Some n
has_after (Gives n) has = None
has_after GivesOne has = None
has_after Stays has = has

abbrev pub CanPass : Passing → Option ℕ → Type 0
CanPass (Gets n) has = ⊤
CanPass (Gives n) has = has ≡ Some n
CanPass GivesOne has = IsSome has
CanPass Stays has = ⊤

-- Whatever the reply to it, a step gives away only what its maker has.
abbrev pub IsOwn : Step → Option ℕ → Option ℕ → Type 0
IsOwn Back object has = has ≡ object
IsOwn Take object has = IsSome has
IsOwn Discard object has = IsSome has
IsOwn Refused object has = IsSome has
IsOwn (Cancel held.Object) object has = IsSome has
IsOwn _ object has = ⊤

-- how often a number stands in a list
abbrev pub times : ℕ → List ℕ → ℕ
times n [] = 0
times n (x ∷ xs) = if x == n then times n xs + 1 else times n xs

abbrev pub numbers_of : Out → List ℕ
numbers_of out = map (λ (x : ℕ × ℕ). x.1) out

-- how often it stands among the objects that are idle or held
abbrev pub total : ℕ → DeskState ℕ → Out → ℕ
total n d out = times n d.idle + times n (numbers_of out)

-- No number stands there twice, and none that was not given yet.
pub record IsNumberedOnce (d : DeskState ℕ) (out : Out) : Type 0 where
  pub once : (n : ℕ) → total n d out ≤ 1
  pub given : (n : ℕ) → d.next ≤ n → total n d out ≤ 0

-- A new pool is so, while nobody holds anything.
abbrev pub EachOpensNumberedOnce : Type 0
EachOpensNumberedOnce = (limit first min_idle : ℕ) (mode : QueueMode) (most : Option ℕ)
    → IsNumberedOnce (bounded most (new_core limit mode first min_idle)) []

-- Such a run keeps it so.
abbrev pub EachRunNumbersOnce : Type 0
EachRunNumbersOnce = (d d' : DeskState ℕ) (out out' : Out) (log : List (ℕ × Entry)) → IsNumberedOnce d out
    → RunsBy d out log d' out' → IsNumberedOnce d' out'

-- Who hold the same object are one holder, and the object is not idle.
abbrev pub EachHasOneHolder : Type 0
EachHasOneHolder = (d : DeskState ℕ) (out : Out) (a b n : ℕ) → IsNumberedOnce d out → holds a n out ≡ true
    → holds b n out ≡ true → (a ≡ b) × (times n d.idle ≡ 0)
