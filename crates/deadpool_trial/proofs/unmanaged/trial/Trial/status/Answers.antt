-- A status is the list machine's, and without a handle it says so.
use Rattle.deadpool_trial.proofs.OfUnmanaged.{Words.Move, Words.Reply, OtherMoves.stands, Parties.no_handle}
use Rattle.deadpool_trial.proofs.OfUnmanaged.{Parties.some_handle, Parties.stays}
use Rattle.deadpool_trial.proofs.unmanaged.trial.Trial.status.Goals as goal

pub returns-then-not-has_handle : goal.returns-then-not-has_handle
returns-then-not-has_handle g c =
    let f = c.self.inside in
    let none = no_handle c.has_handle.result f.core.pool.handles c.has_handle.ensures c.if-not-has_handle.true in
    let all = stays f.runtime f.most_parties f.next f.core.pool f.visitors.items f.out.items c.self.invariant.counted
    c.self.invariant.well (Move.Status) Reply.NoHandle (rw none) in
    rw (← c.self.view_is) all.gives

pub returns : goal.returns
returns g c =
    let f = c.self.inside in
    let some = some_handle c.has_handle.result f.core.pool.handles c.has_handle.ensures c.if-not-has_handle.false in
    let all = stands f.runtime f.most_parties f.next f.core.pool f.visitors.items f.out.items c.self.invariant.counted
    c.self.invariant.well some c.status.result c.status.ensures in
    rw (← c.self.view_is) all.gives
