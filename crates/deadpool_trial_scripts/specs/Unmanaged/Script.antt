-- Scripts: what is done to an unmanaged pool, line by line, and the reply to each line. The values are numbers, and
-- memory is always found.
use Rattle.std.specs.Prelude.{◌≡◌, ℕ, ◌/◌, ◌%◌, true, List, [], ◌∷◌, map, Option, Some, None}
use Rattle.std.specs.Option.{option_map}
use Rattle.std.specs.declared.time.Duration.{Duration}
use Rattle.deadpool_parts.specs.declared.moment.Moment.{Moment}
use Rattle.deadpool_parts.specs.declared.moment.Runtime.{Runtime}
use Rattle.deadpool_trial.specs.Unmanaged.Moves.{moved}
use Rattle.deadpool_trial.specs.Unmanaged.Pool.{Pool, opened}
use Rattle.deadpool_trial.specs.Unmanaged.Steps.{find_item}
use Rattle.deadpool_unmanaged.specs.declared.error.PoolError.{PoolError}
use Rattle.deadpool_trial.specs.declared.unmanaged.moves.Item.{Item}
use Rattle.deadpool_trial.specs.declared.unmanaged.moves.Move.{Move}
use Rattle.deadpool_trial.specs.declared.unmanaged.moves.Move.TheVariants as move
use Rattle.deadpool_trial.specs.declared.unmanaged.moves.Reply.{Reply}
use Rattle.deadpool_trial.specs.declared.unmanaged.moves.Reply.TheVariants as reply

-- the moment so many nanoseconds after the beginning
abbrev pub at : ℕ → Moment
at n = record { 0 = n }

-- so many nanoseconds
abbrev pub nanoseconds : ℕ → Duration
nanoseconds n = record { secs = n / 1000000000; nanos = n % 1000000000 }

-- ---- the lines as they are written: a wait in nanoseconds, parties and objects by number

abbrev pub get : Option ℕ → Move ℕ
get wait = move.Get (option_map nanoseconds wait)

abbrev pub poll : ℕ → ℕ → Move ℕ
poll n now = move.Poll n (at now)

-- ---- and their replies: an object has its number and its value

pub data Line : Type 0 where
  plain : Reply ℕ → Line
  object : ℕ → ℕ → Line

abbrev pub handed : ℕ → Option (Item ℕ) → Line
handed n (Some item) = object n item.value
handed n None = plain (reply.Object n)

abbrev pub line_of : Reply ℕ → Pool ℕ → Line
line_of (reply.Object n) p = handed n (find_item n p.out)
line_of answer p = plain answer

abbrev pub party : ℕ → Line
party n = plain (reply.Started n)

abbrev pub pending : Line
pending = plain reply.Pending

abbrev pub added : ℕ → Line
added n = plain (reply.Added n)

abbrev pub failed : PoolError → Line
failed cause = plain (reply.Failed cause)

abbrev pub refused : PoolError → ℕ → Line
refused cause v = plain (reply.Refused cause v)

abbrev pub taken : ℕ → Line
taken v = plain (reply.Taken v)

abbrev pub ok : Line
ok = plain reply.Done

-- the limit, the size, how many are available, and how many gets wait
abbrev pub stands : ℕ → ℕ → ℕ → ℕ → Line
stands limit size available waiting =
    plain (reply.Stands record { max_size = limit; size = size; available = available; waiting = waiting })

-- ---- how they are played

abbrev pub new_pool : ℕ → Option Runtime → Pool ℕ
new_pool limit runtime = opened limit runtime 1024

-- the replies to some lines
abbrev pub play : Pool ℕ → List (Move ℕ) → List Line
play p [] = []
play p (m ∷ ms) = let (answer, q) = moved true m p in line_of answer q ∷ play q ms

-- a line with its reply
pub record Exchange : Type 0 where
  pub line : Move ℕ
  pub answer : Line

infix 70 ◌⇒◌
abbrev pub ◌⇒◌ : Move ℕ → Line → Exchange
line ⇒ answer = record { line = line; answer = answer }

-- from a pool, the lines have these replies
abbrev pub Plays : Pool ℕ → List Exchange → Type 0
Plays p exchanges = play p (map (λ x. x.line) exchanges) ≡ map (λ x. x.answer) exchanges
