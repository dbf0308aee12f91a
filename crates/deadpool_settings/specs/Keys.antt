-- The keys that an object of a configuration may have.
use Rattle.std.specs.Prelude.{ℕ, ◌||◌, bytes_eq, if◌then◌else◌, List, Bool, Option, Some, None, option_and_then, codes}
use Rattle.serde_json.specs.Data.{Data, Members, member, no_members}
use Rattle.serde_json.specs.Find.{as_object}
use Rattle.deadpool_settings.specs.declared.keys.Section.{Section}
use Rattle.deadpool_settings.specs.declared.keys.Section.TheVariants as section

-- whether such an object may have this key
abbrev pub has_key : Section → List ℕ → Bool
has_key section.Managed k =
    bytes_eq k (codes "max_size") || bytes_eq k (codes "timeouts") || bytes_eq k (codes "queue_mode")
    || bytes_eq k (codes "min_idle") || bytes_eq k (codes "max_waiting")
has_key section.Timeouts k = bytes_eq k (codes "wait") || bytes_eq k (codes "create") || bytes_eq k (codes "recycle")
has_key section.Unmanaged k =
    bytes_eq k (codes "max_size") || bytes_eq k (codes "timeout") || bytes_eq k (codes "max_waiting")

-- the first of these keys that does not pass the test
abbrev pub unknown_member : (List ℕ → Bool) → Members → Option (List ℕ)
unknown_member has no_members = None
unknown_member has (member k d ms) = if has k then unknown_member has ms else Some k

-- the first key of an object that does not pass the test
abbrev pub unknown_key : (List ℕ → Bool) → Data → Option (List ℕ)
unknown_key has d = option_and_then (unknown_member has) (as_object d)
