-- Each key that was passed is known: the first unknown one is among those that are left.
use Rattle.std.proofs.Common.{◌≡◌}
use Rattle.serde_json.specs.View.{members_view}
use Rattle.deadpool_settings.specs.Keys.{has_key, unknown_member}
use Rattle.deadpool_settings.proofs.keys.Section.unknown_key.Given as goal

abbrev pub invariant-loop-key : goal.invariant-loop-key
invariant-loop-key l =
    unknown_member (has_key l.self) (members_view l.initial.key-iterator)
    ≡ unknown_member (has_key l.self) (members_view l.key-iterator)
