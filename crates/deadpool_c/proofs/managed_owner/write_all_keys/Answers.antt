-- As many keys as there is room for are all that can be written.
use Rattle.deadpool_c.proofs.{Words.◌∙◌, Words.idle_keys, Writing.count_all, Writing.writes_all}
use Rattle.deadpool_c.proofs.managed_owner.write_all_keys.Goals as goal

pub returns-clause-written : goal.returns-clause-written
returns-clause-written c =
    writes_all (idle_keys c.args.pool.now.state.pool.core.desk) c.args.keys.now c.write_keys.new.keys
    c.write_keys.ensures.written

pub returns-clause-count : goal.returns-clause-count
returns-clause-count c = c.write_keys.ensures.count
    ∙ count_all (idle_keys c.args.pool.now.state.pool.core.desk) c.args.keys.now
