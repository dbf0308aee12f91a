-- A poll of a get or an add is the list machine's, and an object that it gives is the party's then.
use Rattle.deadpool_trial.proofs.OfUnmanaged.Basics.{◌≡◌, ◌∙◌, Some, None, length, vec_len}
use Rattle.deadpool_trial.proofs.OfUnmanaged.Basics.{arith, rules, map, refl, ap}
use Rattle.deadpool_trial.proofs.OfUnmanaged.Basics.{slice_get, option_map, length-map, slice_get_read, slice_get_past}
use Rattle.deadpool_trial.proofs.OfUnmanaged.Basics.{slice_get-map}
use Rattle.deadpool_trial.proofs.OfUnmanaged.Words.{party_of, Move, Reply}
use Rattle.deadpool_trial.proofs.OfUnmanaged.{Parties.stays, Polls.visitor_polled, Polls.not_polled}
use Rattle.deadpool_trial.proofs.unmanaged.trial.Trial.poll.Goals as goal

pub returns-then-party-len : goal.returns-then-party-len
returns-then-party-len g c =
    let f = c.self.inside in
    let len : vec_len f.visitors ≡ length f.visitors.items = search rules in
    let same = length-map f.visitors.items party_of in
    let past : slice_get (map party_of f.visitors.items) c.args.party ≡ None =
    slice_get_past (map party_of f.visitors.items) c.args.party
    (omega (arith, len, same, c.len.ensures, c.if-party-len.true)) in
    let all = stays f.runtime f.most_parties f.next f.core.pool f.visitors.items f.out.items c.self.invariant.counted
    c.self.invariant.well (Move.Poll c.args.party c.args.now) Reply.NoSuch (rw past) in
    rw (← c.self.view_is) all.gives

pub invariant_of-self : goal.invariant_of-self
invariant_of-self g c =
    let f = c.self.inside in
    let len : vec_len f.visitors ≡ length f.visitors.items = search rules in
    let here : slice_get f.visitors.items c.args.party ≡ Some c.index_mut-visitor.result.now =
    slice_get_read f.visitors.items (length f.visitors.items) c.args.party c.index_mut-visitor.result.now refl
    (omega (arith, len, c.len.ensures, c.if-party-len.false)) c.index_mut-visitor.ensures.value in
    let all =
    not_polled f.runtime f.most_parties f.next f.core.pool f.visitors.items f.out.items c.self.invariant.counted
    c.self.invariant.well c.args.party c.args.now c.index_mut-visitor.result.now c.poll_visitor.new.visitor
    c.poll_visitor.result c.poll_visitor.new.core.pool here c.in-None.is c.poll_visitor.ensures in
    rw (all.1, all.2) c.self.invariant

pub returns-in-None : goal.returns-in-None
returns-in-None g c =
    let f = c.self.inside in
    let len : vec_len f.visitors ≡ length f.visitors.items = search rules in
    let here : slice_get f.visitors.items c.args.party ≡ Some c.index_mut-visitor.result.now =
    slice_get_read f.visitors.items (length f.visitors.items) c.args.party c.index_mut-visitor.result.now refl
    (omega (arith, len, c.len.ensures, c.if-party-len.false)) c.index_mut-visitor.ensures.value in
    let left =
    not_polled f.runtime f.most_parties f.next f.core.pool f.visitors.items f.out.items c.self.invariant.counted
    c.self.invariant.well c.args.party c.args.now c.index_mut-visitor.result.now c.poll_visitor.new.visitor
    c.poll_visitor.result c.poll_visitor.new.core.pool here c.in-None.is c.poll_visitor.ensures in
    let none : slice_get (map party_of f.visitors.items) c.args.party ≡ Some None =
    slice_get-map party_of f.visitors.items c.args.party ∙ ap (option_map party_of) left.0 in
    let all = stays f.runtime f.most_parties f.next f.core.pool f.visitors.items f.out.items c.self.invariant.counted
    c.self.invariant.well (Move.Poll c.args.party c.args.now) Reply.NoSuch (rw none) in
    rw (← c.self.view_is, left.1, left.2) all.gives

pub hand_out-requires : goal.hand_out-requires
hand_out-requires g c =
    let f = c.self.inside in
    let len : vec_len f.visitors ≡ length f.visitors.items = search rules in
    let here : slice_get f.visitors.items c.args.party ≡ Some c.index_mut-visitor.result.now =
    slice_get_read f.visitors.items (length f.visitors.items) c.args.party c.index_mut-visitor.result.now refl
    (omega (arith, len, c.len.ensures, c.if-party-len.false)) c.index_mut-visitor.ensures.value in
    let all =
    visitor_polled f.runtime f.most_parties f.next f.core.pool f.visitors.items f.out.items c.self.invariant.counted
    c.self.invariant.well c.args.party c.args.now c.index_mut-visitor.result.now c.poll_visitor.new.visitor
    c.poll_visitor.result c.in-Some.turn c.poll_visitor.new.core.pool here c.in-Some.is c.poll_visitor.ensures in
    omega (arith, all.well.lawful.room, all.limit, c.self.invariant.out_room)

pub invariant_of-self-in-Some : goal.invariant_of-self-in-Some
invariant_of-self-in-Some g c =
    let f = c.self.inside in
    let len : vec_len f.visitors ≡ length f.visitors.items = search rules in
    let here : slice_get f.visitors.items c.args.party ≡ Some c.index_mut-visitor.result.now =
    slice_get_read f.visitors.items (length f.visitors.items) c.args.party c.index_mut-visitor.result.now refl
    (omega (arith, len, c.len.ensures, c.if-party-len.false)) c.index_mut-visitor.ensures.value in
    let all =
    visitor_polled f.runtime f.most_parties f.next f.core.pool f.visitors.items f.out.items c.self.invariant.counted
    c.self.invariant.well c.args.party c.args.now c.index_mut-visitor.result.now c.poll_visitor.new.visitor
    c.poll_visitor.result c.in-Some.turn c.poll_visitor.new.core.pool here c.in-Some.is c.poll_visitor.ensures in
    let i = c.self.invariant in
    rw c.hand_out.ensures.out
    record {
      counted = all.counted;
      well = all.well;
      parties = i.parties;
      places = i.places;
      out_room = omega (arith, all.limit, i.out_room, c.hand_out.ensures.capacity);
    }

pub returns-in-Some : goal.returns-in-Some
returns-in-Some g c =
    let f = c.self.inside in
    let len : vec_len f.visitors ≡ length f.visitors.items = search rules in
    let here : slice_get f.visitors.items c.args.party ≡ Some c.index_mut-visitor.result.now =
    slice_get_read f.visitors.items (length f.visitors.items) c.args.party c.index_mut-visitor.result.now refl
    (omega (arith, len, c.len.ensures, c.if-party-len.false)) c.index_mut-visitor.ensures.value in
    let all =
    visitor_polled f.runtime f.most_parties f.next f.core.pool f.visitors.items f.out.items c.self.invariant.counted
    c.self.invariant.well c.args.party c.args.now c.index_mut-visitor.result.now c.poll_visitor.new.visitor
    c.poll_visitor.result c.in-Some.turn c.poll_visitor.new.core.pool here c.in-Some.is c.poll_visitor.ensures in
    rw (← c.self.view_is, c.hand_out.ensures.out, c.hand_out.ensures.reply) all.gives
