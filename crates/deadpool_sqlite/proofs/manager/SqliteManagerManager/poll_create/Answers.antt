-- A new connection is one that its source may open, on which the manager's batch has run.
use Rattle.std.proofs.Common.{rules, ◌≡◌, string_bytes, subst}
use Rattle.futures.specs.declared.task.Poll.TheVariants.{Ready}
use Rattle.deadpool_sqlite.specs.Creating.{Creates}
use Rattle.deadpool_sqlite.proofs.Outcomes.{prepared}
use Rattle.deadpool_sqlite.proofs.manager.SqliteManagerManager.poll_create.Goals as goal

pub returns-in-Ok-clause-answer : goal.returns-in-Ok-clause-answer
returns-in-Ok-clause-answer g c =
    let store = g.B.Storage.Store in
    let may = g.B.Source.may_open c.args.self.now.source in
    let same : c.deref.result.now ≡ string_bytes c.args.self.now.batch = search rules in
    subst (λ batch. Creates store may batch (Ready c.prepare.result)) same
    (prepared store may c.deref.result.now c.in-Ok.conn c.prepare.result c.in-Ok.ensures c.prepare.ensures.ran
    c.prepare.ensures.failed)
