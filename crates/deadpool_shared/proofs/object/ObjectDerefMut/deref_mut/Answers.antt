-- What is written is the value alone. The object stays its holder's.
use Rattle.std.proofs.Common.{◌≡◌, Some, ap, refl}
use Rattle.deadpool_history.specs.Own.{held_in}
use Rattle.deadpool_managed.specs.Prepare.{with_value}
use Rattle.deadpool_shared.proofs.Preparing.{own_once}
use Rattle.deadpool_shared.proofs.object.ObjectDerefMut.deref_mut.Goals as goal

pub returns : goal.returns
returns g c =
    let was = c.args.self.now in (
      (
        refl,
        λ w.
            ap (λ (fact : held_in was.out.shares.caller.mine ≡ Some was.slot.number).
            record was { slot = with_value w was.slot; is_own = fact })
            (own_once (held_in was.out.shares.caller.mine) was.slot.number _ was.is_own),
      ),
      record { writes_back = tt; shows = refl },
    )
