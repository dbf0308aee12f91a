-- A take is the list machine's, and one by a party without an object says so.
use Rattle.deadpool_trial.proofs.OfUnmanaged.Basics.{◌≡◌, ◌∙◌, Some, None, sym, arith, none_there}
use Rattle.deadpool_trial.proofs.OfUnmanaged.Words.{find_item, item_number, Move, Reply}
use Rattle.deadpool_trial.proofs.OfUnmanaged.{OtherMoves.take_known, OtherMoves.taken, Parties.stays}
use Rattle.deadpool_trial.proofs.unmanaged.trial.Trial.take.Goals as goal

pub invariant_of-self : goal.invariant_of-self
invariant_of-self g c =
    let f = c.self.inside in
    let none : find_item c.args.number f.out.items ≡ None = sym c.take_out.ensures.item ∙ c.in-None.is in
    let same = c.take_out.ensures.items ∙ none_there item_number c.args.number f.out.items none in
    let i = c.self.invariant in
    rw same record {
      counted = i.counted;
      well = i.well;
      parties = i.parties;
      places = i.places;
      out_room = rw c.take_out.ensures.capacity i.out_room;
    }

pub returns-in-None : goal.returns-in-None
returns-in-None g c =
    let f = c.self.inside in
    let none : find_item c.args.number f.out.items ≡ None = sym c.take_out.ensures.item ∙ c.in-None.is in
    let same = c.take_out.ensures.items ∙ none_there item_number c.args.number f.out.items none in
    let all = stays f.runtime f.most_parties f.next f.core.pool f.visitors.items f.out.items c.self.invariant.counted
    c.self.invariant.well (Move.Take c.args.number) Reply.NoSuch (rw none) in
    rw (← c.self.view_is, same) all.gives

pub after_take-requires : goal.after_take-requires
after_take-requires g c =
    let f = c.self.inside in
    let here : find_item c.args.number f.out.items ≡ Some c.in-Some.item = sym c.take_out.ensures.item ∙ c.in-Some.is in
    take_known f.runtime f.most_parties f.next f.core.pool f.visitors.items f.out.items c.self.invariant.counted
    c.self.invariant.well c.args.number c.in-Some.item here c.leave-reply.new.core.pool c.leave-reply.result
    c.leave-reply.ensures

pub invariant_of-self-in-Some : goal.invariant_of-self-in-Some
invariant_of-self-in-Some g c =
    let f = c.self.inside in
    let here : find_item c.args.number f.out.items ≡ Some c.in-Some.item = sym c.take_out.ensures.item ∙ c.in-Some.is in
    let all =
    taken f.runtime f.most_parties f.next f.core.pool f.visitors.items f.out.items c.self.invariant.counted
    c.self.invariant.well c.args.number c.in-Some.item here c.leave-reply.new.core.pool c.leave-reply.result
    c.leave-reply.ensures in
    rw c.take_out.ensures.items record {
      counted = all.counted;
      well = all.well;
      parties = c.self.invariant.parties;
      places = c.self.invariant.places;
      out_room = omega (arith, all.limit, c.self.invariant.out_room, c.take_out.ensures.capacity);
    }

pub returns-in-Some : goal.returns-in-Some
returns-in-Some g c =
    let f = c.self.inside in
    let here : find_item c.args.number f.out.items ≡ Some c.in-Some.item = sym c.take_out.ensures.item ∙ c.in-Some.is in
    let all =
    taken f.runtime f.most_parties f.next f.core.pool f.visitors.items f.out.items c.self.invariant.counted
    c.self.invariant.well c.args.number c.in-Some.item here c.leave-reply.new.core.pool c.leave-reply.result
    c.leave-reply.ensures in
    rw (← c.self.view_is, c.take_out.ensures.items, c.after_take.ensures) all.gives
