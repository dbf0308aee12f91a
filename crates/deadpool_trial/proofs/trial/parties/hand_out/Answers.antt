-- There is room among the objects that are out for one more.
use Rattle.deadpool_trial.proofs.Cited.{◌≡◌, ◌≤◌, length, vec_len, vec_capacity, arith, rules, length-with_numbered}
use Rattle.deadpool_trial.proofs.Cited.{with_slot, slot_number}
use Rattle.deadpool_trial.proofs.trial.parties.hand_out.Goals as goal

pub put_in-requires : goal.put_in-requires
put_in-requires g c =
    let len : vec_len c.args.out.now ≡ length c.args.out.now.items = search rules in
    let room : length (with_slot c.in-Done-Ok.slot c.args.out.now.items) ≤ vec_capacity c.args.out.now =
    rw (c.in-Done-Ok.is, c.in-Done-Ok.field-0-is) at c.requires in
    omega (arith, room, length-with_numbered slot_number c.in-Done-Ok.slot c.args.out.now.items)
