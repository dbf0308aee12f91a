-- A pool that its caller has closed is closed.
use Rattle.deadpool_unmanaged_history.proofs.Closers.{is_closed}
use Rattle.deadpool_unmanaged_history.proofs.kept.RecordedKeepsState.stay_closed.Goals as goal

pub returns-clause-closed : goal.returns-clause-closed
returns-clause-closed g c =
    rw (c.audit.ensures.same)
    (is_closed g.K.Naming.name_of c.args.self.now.pool c.args.self.now.log c.args.caller.now c.audit.ensures.leads
    c.audit.ensures.mine c.requires.closer)
