-- A new trial is the list machine as it opens, and one that is refused has made nothing.
use Rattle.deadpool_trial.proofs.Cited.{refl, arith, opened_well}
use Rattle.deadpool_trial.proofs.trial.Trial.new.Goals as goal

pub invariant_of-result : goal.invariant_of-result
invariant_of-result g c =
    let b = c.args.builder in
    let pool = c.in_ok-core.ensures in
    record {
      counted = rw (
        c.new.ensures,
        pool.core,
        c.in_ok-with_capacity.ensures.items,
        c.in_ok-with_capacity-2.ensures.items,
      )
          record {
            tickets = record { owned = λ t h. cc; listed = λ n t get h. cc };
            going = refl;
            creations = refl;
            outside = refl;
            room = omega arith;
          };
      well = rw (
        c.new.ensures,
        pool.core,
        pool.environment,
        pool.timeouts,
        c.in_ok-with_capacity.ensures.items,
        c.in_ok-with_capacity-2.ensures.items,
      )
          (opened_well b.max_waiting b.max_size b.queue_mode b.runtime b.hooks b.timeouts c.args.first_number
          c.args.parties b.min_idle);
      parties = omega (arith, c.in_ok-with_capacity.ensures.len);
      party_room = omega (arith, c.in_ok-with_capacity.ensures.capacity);
      out_room = omega (arith, c.in_ok-with_capacity-2.ensures.capacity);
    }

pub returns-clause-pool : goal.returns-clause-pool
returns-clause-pool g c =
    let pool = c.in_ok-core.ensures in
    rw (
      c.new.ensures,
      pool.core,
      pool.environment,
      pool.timeouts,
      c.in_ok-with_capacity.ensures.items,
      c.in_ok-with_capacity-2.ensures.items,
    ) refl

pub returns-clause-refused : goal.returns-clause-refused
returns-clause-refused g c = (λ e. cc, λ lacks. let e = c.in_ok-core.ensures.refused.1 lacks in cc)
