-- One advance of a party is the list machine's, and an object that it gives is the party's then.
use Rattle.deadpool_trial.proofs.Cited.{◌≡◌, ◌∙◌, Some, None, length, vec_len, vec_capacity, arith, rules, map, refl}
use Rattle.deadpool_trial.proofs.Cited.{ap, slice_get, length-map, slice_get_read, slice_get_past, slice_get-map}
use Rattle.deadpool_trial.proofs.Cited.{option_map, set-same, party_of, out_fits, advanced}
use Rattle.deadpool_trial.proofs.trial.Trial.advance.Goals as goal

pub returns-then-party-len-clause-made : goal.returns-then-party-len-clause-made
returns-then-party-len-clause-made g c =
    let f = c.self.inside in
    let len : vec_len f.parties ≡ length f.parties.items = search rules in
    let past = slice_get_past (map party_of f.parties.items) c.args.party
    (omega (arith, len, length-map f.parties.items party_of, c.len.ensures, c.if-party-len.true)) in
    rw (← c.self.view_is) (rw past refl)

pub hand_out-requires : goal.hand_out-requires
hand_out-requires g c =
    let f = c.self.inside in
    let here = slice_get_read f.parties.items (vec_len f.parties) c.args.party c.index_mut.result.now (search rules)
    (omega (arith, c.len.ensures, c.if-party-len.false)) c.index_mut.ensures.value in
    let made = c.advance-turn.ensures.advanced in
    let all = advanced g.M.Manager g.F.SyncHook g.A.AsyncHook f.setup.environment.manager f.setup f.core
    c.advance-turn.new.desk f.parties.items f.out.items
    c.self.invariant.counted c.self.invariant.well c.args.party c.args.now c.in-Some.get c.advance-turn.new.self
    c.advance-turn.result (here ∙ ap Some c.in-Some.is) c.advance-turn.ensures.timeouts made.0 made.1.0 made.1.1 in
    out_fits c.advance-turn.new.desk.desk f.parties.items c.args.party (Some c.advance-turn.new.self) _
    (vec_len f.parties) f.setup.most_parties (vec_capacity f.out) all.1
    (search rules) c.self.invariant.parties c.self.invariant.out_room

pub invariant_of-self-in-Some : goal.invariant_of-self-in-Some
invariant_of-self-in-Some g c =
    let f = c.self.inside in
    let here = slice_get_read f.parties.items (vec_len f.parties) c.args.party c.index_mut.result.now (search rules)
    (omega (arith, c.len.ensures, c.if-party-len.false)) c.index_mut.ensures.value in
    let made = c.advance-turn.ensures.advanced in
    let all = advanced g.M.Manager g.F.SyncHook g.A.AsyncHook f.setup.environment.manager f.setup f.core
    c.advance-turn.new.desk f.parties.items f.out.items
    c.self.invariant.counted c.self.invariant.well c.args.party c.args.now c.in-Some.get c.advance-turn.new.self
    c.advance-turn.result (here ∙ ap Some c.in-Some.is) c.advance-turn.ensures.timeouts made.0 made.1.0 made.1.1 in
    record {
      counted = rw c.hand_out.ensures.out all.1;
      well = rw c.hand_out.ensures.out all.2;
      parties = c.self.invariant.parties;
      party_room = c.self.invariant.party_room;
      out_room = omega (arith, c.self.invariant.out_room, c.hand_out.ensures.capacity);
    }

pub returns-in-Some-clause-made : goal.returns-in-Some-clause-made
returns-in-Some-clause-made g c =
    let f = c.self.inside in
    let here = slice_get_read f.parties.items (vec_len f.parties) c.args.party c.index_mut.result.now (search rules)
    (omega (arith, c.len.ensures, c.if-party-len.false)) c.index_mut.ensures.value in
    let made = c.advance-turn.ensures.advanced in
    let all = advanced g.M.Manager g.F.SyncHook g.A.AsyncHook f.setup.environment.manager f.setup f.core
    c.advance-turn.new.desk f.parties.items f.out.items
    c.self.invariant.counted c.self.invariant.well c.args.party c.args.now c.in-Some.get c.advance-turn.new.self
    c.advance-turn.result (here ∙ ap Some c.in-Some.is) c.advance-turn.ensures.timeouts made.0 made.1.0 made.1.1 in
    rw (← c.self.view_is, c.hand_out.ensures.out, c.hand_out.ensures.reply) all.0

pub invariant_of-self : goal.invariant_of-self
invariant_of-self g c =
    let f = c.self.inside in
    let here = slice_get_read f.parties.items (vec_len f.parties) c.args.party c.index_mut.result.now (search rules)
    (omega (arith, c.len.ensures, c.if-party-len.false)) c.index_mut.ensures.value in
    let same = set-same f.parties.items c.args.party None (here ∙ ap Some c.in-None.is) in
    rw (c.in-None.is, same) record {
      counted = c.self.invariant.counted;
      well = c.self.invariant.well;
      parties = c.self.invariant.parties;
      party_room = c.self.invariant.party_room;
      out_room = c.self.invariant.out_room;
    }

pub returns-in-None-clause-made : goal.returns-in-None-clause-made
returns-in-None-clause-made g c =
    let f = c.self.inside in
    let here = slice_get_read f.parties.items (vec_len f.parties) c.args.party c.index_mut.result.now (search rules)
    (omega (arith, c.len.ensures, c.if-party-len.false)) c.index_mut.ensures.value in
    let gone : slice_get f.parties.items c.args.party ≡ Some None = here ∙ ap Some c.in-None.is in
    let same = set-same f.parties.items c.args.party None gone in
    let none : slice_get (map party_of f.parties.items) c.args.party ≡ Some None =
    slice_get-map party_of f.parties.items c.args.party ∙ ap (option_map party_of) gone in
    rw (← c.self.view_is, c.in-None.is, same) (rw none refl)
