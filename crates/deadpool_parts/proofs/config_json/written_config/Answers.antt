-- A configuration that was written as JSON reads back as the same configuration.
use Rattle.std.proofs.Common.{◌∙◌, ap, rules}
use Rattle.serde_json.specs.View.{view}
use Rattle.deadpool_parts.specs.PoolConfig.{settings_of, written_around}
use Rattle.deadpool_parts.proofs.ReadsBack.{reads_as}
use Rattle.deadpool_parts.proofs.config_json.written_config.Goals as goal

pub returns-clause-reads_back : goal.returns-clause-reads_back
returns-clause-reads_back c =
    let s = settings_of c.args.config in
    let timeouts = c.in_ok-timeouts.ensures in
    reads_as (view c.in_ok-written.written) s (c.in_ok-written.ensures ∙ ap (written_around s) timeouts.written)
    (rw timeouts.written at timeouts.reads_back) (search rules) (search rules) (search rules)
