-- A cancel is the list machine's, of a get and of an add, and one of a party that asks nothing changes nothing.
use Rattle.deadpool_trial.proofs.OfUnmanaged.Basics.{◌≡◌, ◌∙◌, Some, None, length, vec_len}
use Rattle.deadpool_trial.proofs.OfUnmanaged.Basics.{arith, rules, map, refl, ap}
use Rattle.deadpool_trial.proofs.OfUnmanaged.Basics.{sym, slice_get, option_map, length-map, slice_get_read}
use Rattle.deadpool_trial.proofs.OfUnmanaged.Basics.{slice_get_past, slice_get-map, set-same}
use Rattle.deadpool_trial.proofs.OfUnmanaged.Words.{party_of, Move, Reply}
use Rattle.deadpool_trial.proofs.OfUnmanaged.Parties.{stays, cancels}
use Rattle.deadpool_trial.proofs.unmanaged.trial.Trial.cancel.Goals as goal

pub returns-then-party-len : goal.returns-then-party-len
returns-then-party-len g c =
    let f = c.self.inside in
    let len : vec_len f.visitors ≡ length f.visitors.items = search rules in
    let same = length-map f.visitors.items party_of in
    let past : slice_get (map party_of f.visitors.items) c.args.party ≡ None =
    slice_get_past (map party_of f.visitors.items) c.args.party
    (omega (arith, len, same, c.len.ensures, c.if-party-len.true)) in
    let all = stays f.runtime f.most_parties f.next f.core.pool f.visitors.items f.out.items c.self.invariant.counted
    c.self.invariant.well (Move.Cancel c.args.party) Reply.NoSuch (rw past) in
    rw (← c.self.view_is) all.gives

pub invariant_of-self : goal.invariant_of-self
invariant_of-self g c =
    let f = c.self.inside in
    let len : vec_len f.visitors ≡ length f.visitors.items = search rules in
    let here : slice_get f.visitors.items c.args.party ≡ Some c.index_mut.result.now =
    slice_get_read f.visitors.items (length f.visitors.items) c.args.party c.index_mut.result.now refl
    (omega (arith, len, c.len.ensures, c.if-party-len.false)) c.index_mut.ensures.value in
    let gone : slice_get f.visitors.items c.args.party ≡ Some None =
    here ∙ ap Some (sym c.take.ensures.value ∙ c.in-None.is) in
    rw (c.take.ensures.after, set-same f.visitors.items c.args.party None gone) c.self.invariant

pub returns-in-None : goal.returns-in-None
returns-in-None g c =
    let f = c.self.inside in
    let len : vec_len f.visitors ≡ length f.visitors.items = search rules in
    let here : slice_get f.visitors.items c.args.party ≡ Some c.index_mut.result.now =
    slice_get_read f.visitors.items (length f.visitors.items) c.args.party c.index_mut.result.now refl
    (omega (arith, len, c.len.ensures, c.if-party-len.false)) c.index_mut.ensures.value in
    let gone : slice_get f.visitors.items c.args.party ≡ Some None =
    here ∙ ap Some (sym c.take.ensures.value ∙ c.in-None.is) in
    let none : slice_get (map party_of f.visitors.items) c.args.party ≡ Some None =
    slice_get-map party_of f.visitors.items c.args.party ∙ ap (option_map party_of) gone in
    let all = stays f.runtime f.most_parties f.next f.core.pool f.visitors.items f.out.items c.self.invariant.counted
    c.self.invariant.well (Move.Cancel c.args.party) Reply.NoSuch (rw none) in
    rw (← c.self.view_is, c.take.ensures.after, set-same f.visitors.items c.args.party None gone) all.gives

pub invariant_of-self-in-Some : goal.invariant_of-self-in-Some
invariant_of-self-in-Some g c =
    let f = c.self.inside in
    let len : vec_len f.visitors ≡ length f.visitors.items = search rules in
    let here : slice_get f.visitors.items c.args.party ≡ Some c.index_mut.result.now =
    slice_get_read f.visitors.items (length f.visitors.items) c.args.party c.index_mut.result.now refl
    (omega (arith, len, c.len.ensures, c.if-party-len.false)) c.index_mut.ensures.value in
    let all =
    cancels f.runtime f.most_parties f.next f.core.pool f.visitors.items f.out.items c.self.invariant.counted
    c.self.invariant.well c.args.party c.in-Some.visitor (here ∙ ap Some (sym c.take.ensures.value ∙ c.in-Some.is))
    c.cancel_visitor.new.core.pool c.cancel_visitor.ensures in
    rw c.take.ensures.after record {
      counted = all.counted;
      well = all.well;
      parties = c.self.invariant.parties;
      places = c.self.invariant.places;
      out_room = omega (arith, all.limit, c.self.invariant.out_room);
    }

pub returns-in-Some : goal.returns-in-Some
returns-in-Some g c =
    let f = c.self.inside in
    let len : vec_len f.visitors ≡ length f.visitors.items = search rules in
    let here : slice_get f.visitors.items c.args.party ≡ Some c.index_mut.result.now =
    slice_get_read f.visitors.items (length f.visitors.items) c.args.party c.index_mut.result.now refl
    (omega (arith, len, c.len.ensures, c.if-party-len.false)) c.index_mut.ensures.value in
    let all =
    cancels f.runtime f.most_parties f.next f.core.pool f.visitors.items f.out.items c.self.invariant.counted
    c.self.invariant.well c.args.party c.in-Some.visitor (here ∙ ap Some (sym c.take.ensures.value ∙ c.in-Some.is))
    c.cancel_visitor.new.core.pool c.cancel_visitor.ensures in
    rw (← c.self.view_is, c.take.ensures.after) all.gives
