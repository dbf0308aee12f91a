-- An upgrade of a weak handle is the list machine's, and says whether there is a handle.
use Rattle.deadpool_trial.proofs.OfUnmanaged.{Basics.arith, OtherMoves.upgrades}
use Rattle.deadpool_trial.proofs.unmanaged.trial.Trial.upgrade.Goals as goal

pub invariant_of-self : goal.invariant_of-self
invariant_of-self g c =
    let f = c.self.inside in
    let all = upgrades f.runtime f.most_parties f.next f.core.pool f.visitors.items f.out.items c.self.invariant.counted
    c.self.invariant.well c.upgrade.result c.upgrade.new.self.pool c.upgrade.ensures in
    record {
      counted = all.counted;
      well = all.well;
      parties = c.self.invariant.parties;
      places = c.self.invariant.places;
      out_room = omega (arith, all.limit, c.self.invariant.out_room);
    }

pub returns : goal.returns
returns g c =
    let f = c.self.inside in
    let all = upgrades f.runtime f.most_parties f.next f.core.pool f.visitors.items f.out.items c.self.invariant.counted
    c.self.invariant.well c.upgrade.result c.upgrade.new.self.pool c.upgrade.ensures in
    rw (← c.self.view_is) all.gives
