-- Where a configuration is at fault, and why.
use Rattle.std.specs.Prelude.{◌≡◌, ℕ, ◌++◌, is_some, if◌then◌else◌, List, Option, Some, None, ⊤}
use Rattle.std.specs.Prelude.{Result, Err, MatchResult, option_and_then, codes}
use Rattle.std.specs.Cow.{cow_str_bytes}
use Rattle.serde_json.specs.Data.{Data}
use Rattle.serde_json.specs.Find.{get, as_number}
use Rattle.deadpool_settings.specs.declared.fault.Fault.{Fault}
use Rattle.deadpool_settings.specs.declared.fault.StrictError.{StrictError}
use Rattle.deadpool_settings.specs.declared.fault.StrictError.TheVariants as error
use Rattle.deadpool_settings.specs.declared.fault.Why.{Why}
use Rattle.deadpool_settings.specs.declared.fault.Why.TheVariants.{NoNumber, OutOfRange, Unknown}

-- a place in a configuration: the whole, a key of it, or a key of its `timeouts`
pub data Place : Type 0 where
  whole : Place
  at : List ℕ → Place
  in_timeouts : List ℕ → Place

-- its path
abbrev pub place_text : Place → List ℕ
place_text whole = codes ""
place_text (at k) = k
place_text (in_timeouts k) = codes "timeouts." ++ k

-- what stands there
abbrev pub value_at : Place → Data → Option Data
value_at whole d = Some d
value_at (at k) d = get k d
value_at (in_timeouts k) d = option_and_then (get k) (get (codes "timeouts") d)

-- a place and what is wrong there
pub record Located : Type 0 where
  pub place : Place
  pub why : Why

-- a fault says this
abbrev pub Shows : Fault → Located → Type 0
Shows f l = (cow_str_bytes f.path ≡ place_text l.place) × (f.why ≡ l.why)

-- why what stands at a key is no number that a `usize` can have, if it is none
abbrev pub number_why : Option Data → Why
number_why None = NoNumber
number_why (Some d) = if is_some (as_number d) then OutOfRange else NoNumber

-- the first fault of the two
abbrev pub unless_unknown : {S : Type 0} → Option Place → Result S Located → Result S Located
unless_unknown None otherwise = otherwise
unless_unknown (Some p) otherwise = Err (record { place = p; why = Unknown })

-- An error tells of the fault in what was read. Memory is needed for the path of an unknown key alone.
abbrev pub Tells : {S : Type 0} → StrictError → Result S Located → Type 0
Tells (error.Fault f) read = MatchResult read (λ _. ⊥) (Shows f)
Tells (error.NotJson cause) read = ⊥
Tells error.OutOfMemory read = MatchResult read (λ _. ⊥) (λ l. l.why ≡ Unknown)

-- An error tells of the fault in what a text was read as, if it is JSON.
abbrev pub TellsOfText : {S : Type 0} → StrictError → Option (Result S Located) → Type 0
TellsOfText (error.Fault f) None = ⊥
TellsOfText (error.Fault f) (Some read) = Tells (error.Fault f) read
TellsOfText (error.NotJson cause) read = read ≡ None
TellsOfText error.OutOfMemory read = ⊤

-- a fault at this path, which no pool has, or no memory for it
abbrev pub IsUnknownAt : List ℕ → StrictError → Type 0
IsUnknownAt path (error.Fault f) = (cow_str_bytes f.path ≡ path) × (f.why ≡ Unknown)
IsUnknownAt path (error.NotJson cause) = ⊥
IsUnknownAt path error.OutOfMemory = ⊤

-- a text is no JSON, or there is no memory for it
abbrev pub IsUnread : Option Data → StrictError → Type 0
IsUnread read (error.Fault f) = ⊥
IsUnread read (error.NotJson cause) = read ≡ None
IsUnread read error.OutOfMemory = ⊤
