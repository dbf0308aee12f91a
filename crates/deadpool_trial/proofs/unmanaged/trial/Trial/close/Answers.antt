-- A close is the list machine's, and without a handle it says so.
use Rattle.deadpool_trial.proofs.OfUnmanaged.{Basics.arith, Words.Move, Words.Reply, OtherMoves.closes}
use Rattle.deadpool_trial.proofs.OfUnmanaged.{Parties.no_handle, Parties.some_handle, Parties.stays}
use Rattle.deadpool_trial.proofs.unmanaged.trial.Trial.close.Goals as goal

pub returns-then-not-has_handle : goal.returns-then-not-has_handle
returns-then-not-has_handle g c =
    let f = c.self.inside in
    let none = no_handle c.has_handle.result f.core.pool.handles c.has_handle.ensures c.if-not-has_handle.true in
    let all = stays f.runtime f.most_parties f.next f.core.pool f.visitors.items f.out.items c.self.invariant.counted
    c.self.invariant.well Move.Close Reply.NoHandle (rw none) in
    rw (← c.self.view_is) all.gives

pub invariant_of-self : goal.invariant_of-self
invariant_of-self g c =
    let f = c.self.inside in
    let some = some_handle c.has_handle.result f.core.pool.handles c.has_handle.ensures c.if-not-has_handle.false in
    let all = closes f.runtime f.most_parties f.next f.core.pool f.visitors.items f.out.items c.self.invariant.counted
    c.self.invariant.well some c.close.new.self.pool c.close.ensures in
    record {
      counted = all.counted;
      well = all.well;
      parties = c.self.invariant.parties;
      places = c.self.invariant.places;
      out_room = omega (arith, all.limit, c.self.invariant.out_room);
    }

pub returns : goal.returns
returns g c =
    let f = c.self.inside in
    let some = some_handle c.has_handle.result f.core.pool.handles c.has_handle.ensures c.if-not-has_handle.false in
    let all = closes f.runtime f.most_parties f.next f.core.pool f.visitors.items f.out.items c.self.invariant.counted
    c.self.invariant.well some c.close.new.self.pool c.close.ensures in
    rw (← c.self.view_is) all.gives
