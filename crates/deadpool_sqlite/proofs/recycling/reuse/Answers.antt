-- A connection whose query fails is refused for that reason.
use Rattle.std.proofs.Common.{rules}
use Rattle.deadpool_sqlite.proofs.Outcomes.{query_fails}
use Rattle.deadpool_sqlite.proofs.recycling.reuse.Goals as goal

pub returns-then-is_err-2-clause-refused : goal.returns-then-is_err-2-clause-refused
returns-then-is_err-2-clause-refused g c =
    query_fails g.S.Store c.args.method c.args.conn.now c.roll_back.new.conn c.verify.new.conn c.verify.result
    (search rules) (λ none. (c.roll_back.ensures.same none).1)
    (λ asked. (c.verify.ensures.fast asked).0) c.verify.ensures.failed
