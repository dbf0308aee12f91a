-- Scripts: what is done to a managed pool, line by line, and the reply to each line. The manager and the hooks answer
-- by words that the script gives them.
--
-- The values are numbers. Each of the pool's three lists has one hook, which may be pending, and no state of a
-- creation, of a recycling or of a hook says anything.
use Rattle.std.specs.Prelude.{◌≡◌, ℕ, zero, suc, ◌+◌, ◌-◌, ◌/◌, ◌%◌, min, Bool, true, List, [], ◌∷◌, ◌++◌, length, map}
use Rattle.std.specs.Prelude.{Option, Some, None, Result, Ok, Err, if◌then◌else◌, codes}
use Rattle.std.specs.Option.{option_map}
use Rattle.std.specs.declared.alloc.Global.{Global}
use Rattle.std.specs.declared.borrow.CowStr.{CowStr}
use Rattle.std.specs.declared.borrow.CowStr.TheVariants.{Borrowed}
use Rattle.std.specs.declared.time.Duration.{Duration}
use Rattle.futures.specs.declared.task.Poll.{Poll}
use Rattle.futures.specs.declared.task.Poll.TheVariants.{Ready, Pending}
use Rattle.deadpool_parts.specs.Program.{respond}
use Rattle.deadpool_parts.specs.declared.moment.Moment.{Moment}
use Rattle.deadpool_parts.specs.declared.moment.Runtime.{Runtime}
use Rattle.deadpool_parts.specs.declared.config.QueueMode.{QueueMode}
use Rattle.deadpool_parts.specs.declared.config.Timeouts.{Timeouts}
use Rattle.deadpool_parts.specs.declared.errors.PoolError.{PoolError}
use Rattle.deadpool_parts.specs.declared.errors.HookError.TheVariants.{Message}
use Rattle.deadpool_parts.specs.declared.errors.RecycleError.TheVariants.{Backend}
use Rattle.deadpool_trial.specs.Moves.{one_step, is_more, retain}
use Rattle.deadpool_managed.specs.Outside.{Question, Answer, Asking, BeginCreation, PollCreation, BeginRecycling}
use Rattle.deadpool_managed.specs.Outside.{PollRecycling, CallHook, BeginHook, PollHook, Detach, Reserve}
use Rattle.deadpool_trial.specs.Pool.{Pool, bounded, opened, places}
use Rattle.deadpool_trial.specs.Steps.{find_slot}
use Rattle.deadpool_managed.specs.declared.hooks.Hook.TheVariants.{AsyncFn}
use Rattle.deadpool_managed.specs.Slots.{Slot}
use Rattle.deadpool_trial.specs.declared.moves.Move.{Move}
use Rattle.deadpool_trial.specs.declared.moves.Move.TheVariants as move
use Rattle.deadpool_trial.specs.declared.moves.Reply.{Reply}
use Rattle.deadpool_trial.specs.declared.moves.Reply.TheVariants as reply

-- ---- what answers

-- how one call is answered
pub data Word : Type 0 where
  Fine : Word
  Stalls : Word
  Refuses : Word
  -- the value rises by one, and the call ends well
  Adds : Word

-- what is called
pub data Kind : Type 0 where
  Create : Kind
  Recycle : Kind
  PreRecycle : Kind
  PostRecycle : Kind
  PostCreate : Kind

-- the value of the next creation, and the words left for each kind of call: if none is left, a call is fine
pub record Script : Type 0 where
  pub value : ℕ
  pub create : List Word
  pub recycle : List Word
  pub pre_recycle : List Word
  pub post_recycle : List Word
  pub post_create : List Word

-- the beginning of each script
abbrev pub empty_script : Script
empty_script = record { value = 0; create = []; recycle = []; pre_recycle = []; post_recycle = []; post_create = [] }

abbrev pub words : Kind → Script → List Word
words Create s = s.create
words Recycle s = s.recycle
words PreRecycle s = s.pre_recycle
words PostRecycle s = s.post_recycle
words PostCreate s = s.post_create

abbrev pub with_words : Kind → List Word → Script → Script
with_words Create ws s = record s { create = ws }
with_words Recycle ws s = record s { recycle = ws }
with_words PreRecycle ws s = record s { pre_recycle = ws }
with_words PostRecycle ws s = record s { post_recycle = ws }
with_words PostCreate ws s = record s { post_create = ws }

abbrev pub first_word : List Word → Word
first_word [] = Fine
first_word (w ∷ ws) = w

abbrev pub other_words : List Word → List Word
other_words [] = []
other_words (w ∷ ws) = ws

-- the word for a call now, and the script after it
abbrev pub next_word : Kind → Script → Word × Script
next_word kind s = (first_word (words kind s), with_words kind (other_words (words kind s)) s)

-- a value is a u64
abbrev pub largest_value : ℕ
largest_value = 18446744073709551615

-- one more, stopped at the greatest value
abbrev pub risen : ℕ → ℕ
risen v = min (v + 1) largest_value

-- the text of a refusal by a hook. Where it lies means nothing
abbrev pub refused_text : CowStr Global
refused_text = Borrowed record { ref_ptr = (0, 0); now = codes "refused" }

-- what a call that is shown a value makes of it, given its refusal
abbrev pub shown : {X : Type 0} → X → Word → ℕ → Poll (Result (Unit {0}) X) × ℕ
shown refusal Fine v = (Ready (Ok tt), v)
shown refusal Stalls v = (Pending, v)
shown refusal Refuses v = (Ready (Err refusal), v)
shown refusal Adds v = (Ready (Ok tt), risen v)

-- what comes of a creation: its answer, and the next value
abbrev pub made : Word → ℕ → Poll (Result ℕ (Unit {0})) × ℕ
made Stalls v = (Pending, v)
made Refuses v = (Ready (Err tt), v)
made _ v = (Ready (Ok v), v + 1)

-- a hook is the kind of its calls
abbrev pub ScriptPool : Type 0
ScriptPool = Pool ℕ (Unit {0}) (Unit {0}) (Unit {0}) (Unit {0}) Kind

abbrev pub ScriptQuestion : Type 0
ScriptQuestion = Question ℕ (Unit {0}) (Unit {0}) (Unit {0}) (Unit {0}) Kind

abbrev pub ScriptAnswer : ScriptQuestion → Type 0
ScriptAnswer = Answer ℕ (Unit {0}) (Unit {0}) (Unit {0}) (Unit {0}) (Unit {0}) Kind

-- the answer to each question, and the script after it
abbrev pub outside : Script → (q : ScriptQuestion) → ScriptAnswer q × Script
outside s BeginCreation = (tt, s)
outside s (PollCreation c) =
    let (word, t) = next_word Create s in let (outcome, v) = made word s.value in
    ((outcome, tt), record t { value = v })
outside s (BeginRecycling v m) = ((tt, v), s)
outside s (PollRecycling r v m) =
    let (word, t) = next_word Recycle s in let (outcome, w) = shown (Backend tt) word v in ((outcome, tt, w), t)
outside s (CallHook f v m) = ((Ok tt, v), s)
outside s (BeginHook kind v m) = ((tt, v), s)
outside s (PollHook kind h v m) =
    let (word, t) = next_word kind s in let (outcome, w) = shown (Message refused_text) word v in ((outcome, tt, w), t)
outside s (Detach v) = (v, s)
outside s Reserve = (true, s)

-- ---- what is done, and what is replied

-- the moment so many nanoseconds after the beginning
abbrev pub at : ℕ → Moment
at n = record { 0 = n }

-- so many nanoseconds
abbrev pub nanoseconds : ℕ → Duration
nanoseconds n = record { secs = n / 1000000000; nanos = n % 1000000000 }

-- timeouts in nanoseconds: of the wait, of the creation and of the recycling
abbrev pub timeouts_of : Option ℕ → Option ℕ → Option ℕ → Timeouts
timeouts_of wait create recycle =
    record {
      wait = option_map nanoseconds wait;
      create = option_map nanoseconds create;
      recycle = option_map nanoseconds recycle;
    }

-- one line of a script: a move, a closing that says what is left, or words for calls to come. A retain's move has its
-- numbers in a vector: here they are a list
pub data Event : Type 0 where
  move_by : Move ℕ → Event
  -- the pool closes
  drain : Event
  -- the numbers of the idle objects that are kept
  retain_only : List ℕ → Event
  answer : Kind → List Word → Event

-- The lines as they are written. A party and an object are named by their numbers, and a moment by its nanoseconds.
abbrev pub start : Event
start = move_by (move.Start None)

abbrev pub start_with : Option ℕ → Option ℕ → Option ℕ → Event
start_with wait create recycle = move_by (move.Start (Some (timeouts_of wait create recycle)))

abbrev pub advance : ℕ → ℕ → Event
advance n now = move_by (move.Advance n (at now))

abbrev pub poll : ℕ → ℕ → Event
poll n now = move_by (move.Poll n (at now))

abbrev pub cancel : ℕ → Event
cancel n = move_by (move.Cancel n)

abbrev pub put : ℕ → ℕ → Event
put n v = move_by (move.Put n v)

abbrev pub back : ℕ → Event
back n = move_by (move.Back n)

abbrev pub take_out : ℕ → Event
take_out n = move_by (move.Take n)

abbrev pub resize_to : ℕ → Event
resize_to limit = move_by (move.Resize limit)

abbrev pub close_pool : Event
close_pool = move_by move.Close

abbrev pub clone_handle : Event
clone_handle = move_by move.Clone

abbrev pub drop_handle : Event
drop_handle = move_by move.DropHandle

abbrev pub upgrade_handle : Event
upgrade_handle = move_by move.Upgrade

abbrev pub status : Event
status = move_by move.Status

-- a reply as it is shown: an object has its number and its value
pub data Line : Type 0 where
  plain : Reply ℕ (Unit {0}) → Line
  object : ℕ → ℕ → Line
  -- how much is left in a closed pool
  has_left : ℕ → Line

abbrev pub handed : ℕ → Option (Slot ℕ) → Line
handed n (Some slot) = object n slot.value.value
handed n None = plain (reply.Object n)

abbrev pub line_of : Reply ℕ (Unit {0}) → ScriptPool → Line
line_of (reply.Object n) p = handed n (find_slot n p.out)
line_of r p = plain r

-- What is left in a closed pool: its objects, and the parties that hold a place or have a creation under way. A party
-- that was granted a place and has not asked is refused when it does, so it does not count.
abbrev pub left_in : ScriptPool → ℕ
left_in p = places p - length p.granted

-- a line has its reply, and one that drains the pool what is left in it
abbrev pub line_after : Event → Reply ℕ (Unit {0}) → ScriptPool → Line
line_after drain reply.Done p = has_left (left_in p)
line_after _ r p = line_of r p

-- the other replies as they are written
abbrev pub drained : Line
drained = has_left 0

abbrev pub party : ℕ → Line
party n = plain (reply.Started n)

abbrev pub no_room : Line
no_room = plain reply.NoRoom

abbrev pub no_such : Line
no_such = plain reply.NoSuch

abbrev pub no_handle : Line
no_handle = plain reply.NoHandle

abbrev pub more : Line
more = plain reply.More

abbrev pub pending : Line
pending = plain reply.Pending

abbrev pub failed : PoolError (Unit {0}) → Line
failed e = plain (reply.Failed e)

abbrev pub cancelled : Line
cancelled = plain reply.Cancelled

abbrev pub ok : Line
ok = plain reply.Done

abbrev pub kept : Line
kept = plain reply.Kept

abbrev pub detached : Line
detached = plain reply.Detached

abbrev pub dropped : Line
dropped = plain reply.Dropped

abbrev pub taken : ℕ → Line
taken v = plain (reply.Taken v)

-- how many stay, and the values of the others
abbrev pub retained : ℕ → List ℕ → Line
retained n values = plain (reply.Retained record { retained = n; removed = values })

-- the limit, the size, how many are available, and how many wait
abbrev pub stands : ℕ → ℕ → ℕ → ℕ → Line
stands limit size available waiting =
    plain (reply.Stands record { max_size = limit; size = size; available = available; waiting = waiting })

abbrev pub upgraded : Bool → Line
upgraded found = plain (reply.Upgraded found)

-- ---- how it is played

-- no timeouts are configured
abbrev pub new_pool_with_min_idle : ℕ → QueueMode → Option Runtime → ℕ → ℕ → ScriptPool
new_pool_with_min_idle limit mode runtime first min_idle =
    opened limit mode runtime
    (record {
      pre_recycle = AsyncFn PreRecycle ∷ [];
      post_recycle = AsyncFn PostRecycle ∷ [];
      post_create = AsyncFn PostCreate ∷ [];
    })
    (timeouts_of None None None) first 1024 min_idle

-- no object has to stay idle
abbrev pub new_pool : ℕ → QueueMode → Option Runtime → ℕ → ScriptPool
new_pool limit mode runtime first = new_pool_with_min_idle limit mode runtime first 0

-- so many may wait
abbrev pub new_pool_with_bound : ℕ → QueueMode → Option Runtime → ℕ → ℕ → ScriptPool
new_pool_with_bound limit mode runtime first most = bounded (Some most) (new_pool limit mode runtime first)

-- a reply with the pool after it, and the script after that
abbrev pub Played : Type 0
Played = (Reply ℕ (Unit {0}) × ScriptPool) × Script

abbrev pub played : Asking ℕ (Unit {0}) (Unit {0}) (Unit {0}) (Unit {0}) (Unit {0}) Kind
    (Reply ℕ (Unit {0}) × ScriptPool) → Script → Played
played step s = respond outside step s

-- A poll is advances up to the first that is not answered More, with so many left. It has More for an answer only if
-- these do not suffice.
abbrev pub polled : ℕ → ℕ → Moment → ScriptPool → Script → Played
polled zero n now p s = played (one_step (move.Advance n now) p) s
polled (suc left) n now p s =
    let x = played (one_step (move.Advance n now) p) s in
    if is_more x.0.0 then polled left n now x.0.1 x.1 else x

-- a poll has two advances for each idle object, which a get takes and gives up, and a few more
abbrev pub by_move : Move ℕ → ScriptPool → Script → Played
by_move (move.Poll n now) p s = polled (4 + (length p.idle + length p.idle)) n now p s
by_move m p s = played (one_step m p) s

abbrev pub done : Event → ScriptPool → Script → Played
done (move_by m) p s = by_move m p s
done drain p s = played (one_step move.Close p) s
done (retain_only ns) p s = played (retain ns p) s
done (answer kind ws) p s = ((reply.Done, p), with_words kind (words kind s ++ ws) s)

-- the replies to some lines
abbrev pub play : ScriptPool → Script → List Event → List Line
play p s [] = []
play p s (e ∷ es) = let x = done e p s in line_after e x.0.0 x.0.1 ∷ play x.0.1 x.1 es

-- a line with its reply
pub record Exchange : Type 0 where
  pub event : Event
  pub line : Line

infix 70 ◌⇒◌
abbrev pub ◌⇒◌ : Event → Line → Exchange
event ⇒ line = record { event = event; line = line }

-- from a pool, the lines have these replies
abbrev pub Plays : ScriptPool → List Exchange → Type 0
Plays p exchanges = play p empty_script (map (λ x. x.event) exchanges) ≡ map (λ x. x.line) exchanges
