-- A cancel is the list machine's, and one of a party that has no get changes nothing.
use Rattle.deadpool_trial.proofs.Cited.{◌≡◌, ◌∙◌, Some, None, length, vec_len, arith, rules, map, refl, ap, sym}
use Rattle.deadpool_trial.proofs.Cited.{slice_get, length-map, slice_get_read, slice_get_past, slice_get-map}
use Rattle.deadpool_trial.proofs.Cited.{option_map, set-same, party_of, cancelled}
use Rattle.deadpool_trial.proofs.trial.Trial.cancel.Goals as goal

pub returns-then-party-len-clause-made : goal.returns-then-party-len-clause-made
returns-then-party-len-clause-made g c =
    let f = c.self.inside in
    let len : vec_len f.parties ≡ length f.parties.items = search rules in
    let past = slice_get_past (map party_of f.parties.items) c.args.party
    (omega (arith, len, length-map f.parties.items party_of, c.len.ensures, c.if-party-len.true)) in
    rw (← c.self.view_is) (rw past refl)

pub invariant_of-self : goal.invariant_of-self
invariant_of-self g c =
    let f = c.self.inside in
    let here = slice_get_read f.parties.items (vec_len f.parties) c.args.party c.index_mut.result.now (search rules)
    (omega (arith, c.len.ensures, c.if-party-len.false)) c.index_mut.ensures.value in
    let none : slice_get f.parties.items c.args.party ≡ Some None =
    here ∙ ap Some (sym c.take.ensures.value ∙ c.in-None.is) in
    let same = set-same f.parties.items c.args.party None none in
    rw (c.take.ensures.after, same) record {
      counted = c.self.invariant.counted;
      well = c.self.invariant.well;
      parties = c.self.invariant.parties;
      party_room = c.self.invariant.party_room;
      out_room = c.self.invariant.out_room;
    }

pub returns-in-None-clause-made : goal.returns-in-None-clause-made
returns-in-None-clause-made g c =
    let f = c.self.inside in
    let here = slice_get_read f.parties.items (vec_len f.parties) c.args.party c.index_mut.result.now (search rules)
    (omega (arith, c.len.ensures, c.if-party-len.false)) c.index_mut.ensures.value in
    let gone : slice_get f.parties.items c.args.party ≡ Some None =
    here ∙ ap Some (sym c.take.ensures.value ∙ c.in-None.is) in
    let same = set-same f.parties.items c.args.party None gone in
    let none : slice_get (map party_of f.parties.items) c.args.party ≡ Some None =
    slice_get-map party_of f.parties.items c.args.party ∙ ap (option_map party_of) gone in
    rw (← c.self.view_is, c.take.ensures.after, same) (rw none refl)

pub invariant_of-self-in-Some : goal.invariant_of-self-in-Some
invariant_of-self-in-Some g c =
    let f = c.self.inside in
    let here = slice_get_read f.parties.items (vec_len f.parties) c.args.party c.index_mut.result.now (search rules)
    (omega (arith, c.len.ensures, c.if-party-len.false)) c.index_mut.ensures.value in
    let made = c.cancel.ensures.cancelled in
    let all = cancelled g.M.Manager g.F.SyncHook g.A.AsyncHook f.setup.environment.manager f.setup f.core
    c.cancel.new.desk f.parties.items f.out.items
    c.self.invariant.counted c.self.invariant.well c.args.party c.in-Some.state made.0
    (here ∙ ap Some (sym c.take.ensures.value ∙ c.in-Some.is)) made.1.0 made.1.1 in
    rw c.take.ensures.after record {
      counted = all.1;
      well = all.2;
      parties = c.self.invariant.parties;
      party_room = c.self.invariant.party_room;
      out_room = c.self.invariant.out_room;
    }

pub returns-in-Some-clause-made : goal.returns-in-Some-clause-made
returns-in-Some-clause-made g c =
    let f = c.self.inside in
    let here = slice_get_read f.parties.items (vec_len f.parties) c.args.party c.index_mut.result.now (search rules)
    (omega (arith, c.len.ensures, c.if-party-len.false)) c.index_mut.ensures.value in
    let made = c.cancel.ensures.cancelled in
    let all = cancelled g.M.Manager g.F.SyncHook g.A.AsyncHook f.setup.environment.manager f.setup f.core
    c.cancel.new.desk f.parties.items f.out.items
    c.self.invariant.counted c.self.invariant.well c.args.party c.in-Some.state made.0
    (here ∙ ap Some (sym c.take.ensures.value ∙ c.in-Some.is)) made.1.0 made.1.1 in
    rw (← c.self.view_is, c.take.ensures.after) all.0
