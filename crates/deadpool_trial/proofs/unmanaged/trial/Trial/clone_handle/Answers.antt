-- A clone of a handle is the list machine's.
use Rattle.deadpool_trial.proofs.OfUnmanaged.{Basics.arith, OtherMoves.clones}
use Rattle.deadpool_trial.proofs.unmanaged.trial.Trial.clone_handle.Goals as goal

pub invariant_of-self : goal.invariant_of-self
invariant_of-self g c =
    let f = c.self.inside in
    let all =
    clones f.runtime f.most_parties f.next f.core.pool f.visitors.items f.out.items c.self.invariant.counted
    c.self.invariant.well c.clone_handle-reply.result c.clone_handle-reply.new.self.pool
    c.clone_handle-reply.ensures in
    record {
      counted = all.counted;
      well = all.well;
      parties = c.self.invariant.parties;
      places = c.self.invariant.places;
      out_room = omega (arith, all.limit, c.self.invariant.out_room);
    }

pub returns : goal.returns
returns g c =
    let f = c.self.inside in
    let all =
    clones f.runtime f.most_parties f.next f.core.pool f.visitors.items f.out.items c.self.invariant.counted
    c.self.invariant.well c.clone_handle-reply.result c.clone_handle-reply.new.self.pool
    c.clone_handle-reply.ensures in
    rw (← c.self.view_is, c.after_handle.ensures) all.gives
