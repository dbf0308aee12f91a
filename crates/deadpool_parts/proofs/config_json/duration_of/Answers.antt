-- A value is read as a duration exactly as `read_duration` reads it.
use Rattle.deadpool_parts.proofs.Words.{arith, common_steps}
use Rattle.serde_json.proofs.Views.{members_len-members_view}
use Rattle.deadpool_parts.proofs.config_json.duration_of.Goals as goal

pub returns-then-len-ne2 : goal.returns-then-len-ne2
returns-then-len-ne2 c = grind (arith, common_steps, members_len-members_view)

pub returns : goal.returns
returns c = grind (arith, common_steps, members_len-members_view)
