-- There is room among the objects that are out for one more.
use Rattle.deadpool_trial.proofs.OfUnmanaged.{Basics.◌≡◌, Basics.◌≤◌, Basics.length}
use Rattle.deadpool_trial.proofs.OfUnmanaged.{Basics.vec_len, Basics.vec_capacity}
use Rattle.deadpool_trial.proofs.OfUnmanaged.{Basics.arith, Basics.rules, Words.with_item, Lawful.length-with_item}
use Rattle.deadpool_trial.proofs.unmanaged.trial.hand_out.Goals as goal

pub put_in-requires : goal.put_in-requires
put_in-requires g c =
    let len : vec_len c.args.out.now ≡ length c.args.out.now.items = search rules in
    let room : length (with_item c.in-Object.item c.args.out.now.items) ≤ vec_capacity c.args.out.now =
    rw c.in-Object.is at c.requires in
    omega (arith, len, room, length-with_item c.in-Object.item c.args.out.now.items)
