-- A new trial is the list machine as it opens.
use Rattle.deadpool_trial.proofs.OfUnmanaged.{Basics.refl, Basics.arith, Well.opened_well}
use Rattle.deadpool_trial.proofs.unmanaged.trial.Trial.new.Goals as goal

pub invariant_of-result : goal.invariant_of-result
invariant_of-result g c =
    rw (
      c.new-tallied.ensures,
      c.in_ok-core.ensures,
      c.in_ok-with_capacity.ensures.items,
      c.in_ok-with_capacity-2.ensures.items,
    )
    record {
      counted = record {
        gets = record { owned = λ t h. cc; listed = λ n t x h. cc };
        adds = record { owned = λ t h. cc; listed = λ n t x h. cc };
        outside = refl;
      };
      well = opened_well c.args.max_size c.args.runtime c.args.parties;
      parties = omega (arith, c.in_ok-with_capacity.ensures.len);
      places = omega (arith, c.in_ok-with_capacity.ensures.capacity);
      out_room = omega (arith, c.in_ok-with_capacity-2.ensures.capacity);
    }
