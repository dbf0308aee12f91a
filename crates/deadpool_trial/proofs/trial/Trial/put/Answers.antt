-- One object that is out has another value afterwards; nothing else differs.
use Rattle.deadpool_trial.proofs.Cited.{rules, ◌≡◌, ◌==◌, Some, None, length, vec_len, arith, refl, position}
use Rattle.deadpool_trial.proofs.Cited.{place_within, found_at_place, nothing_found, with_put, image, put_at_place}
use Rattle.deadpool_trial.proofs.Cited.{put_counted, leads_to_well, Put, Done}
use Rattle.deadpool_trial.proofs.trial.Trial.put.Goals as goal

pub index_mut-requires : goal.index_mut-requires
index_mut-requires g c =
    let out = c.self.inside.out in
    let len : vec_len out ≡ length out.items = search rules in
    let place : position (λ s. s.number == c.args.number) out.items ≡ Some c.in-Some.at =
    rw c.index_of.ensures at c.in-Some.is in
    omega (arith, len, place_within (λ s. s.number == c.args.number) out.items c.in-Some.at place)

pub invariant_of-self : goal.invariant_of-self
invariant_of-self g c =
    let f = c.self.inside in
    let place : position (λ s. s.number == c.args.number) f.out.items ≡ Some c.in-Some.at =
    rw c.index_of.ensures at c.in-Some.is in
    let put = put_at_place c.args.number c.args.value f.out.items c.in-Some.at c.index_mut.result.now place
    c.index_mut.ensures.value in
    let found = found_at_place (λ s. s.number == c.args.number) f.out.items c.in-Some.at c.index_mut.result.now place
    c.index_mut.ensures.value in
    let pool = image f.setup f.core.desk f.parties.items f.out.items in
    let led = leads_to_well g.M.Manager g.F.SyncHook g.A.AsyncHook f.setup.environment.manager
    (Put c.args.number c.args.value) pool
    (record pool { out = with_put c.args.number c.args.value f.out.items }) Done c.self.invariant.well
    (rw found refl) in
    record {
      counted =
          rw put
          (put_counted f.core.desk f.parties.items f.out.items c.args.number c.args.value c.self.invariant.counted);
      well = rw put led;
      parties = c.self.invariant.parties;
      party_room = c.self.invariant.party_room;
      out_room = c.self.invariant.out_room;
    }

pub returns-in-None-clause-made : goal.returns-in-None-clause-made
returns-in-None-clause-made g c =
    let f = c.self.inside in
    let place : position (λ s. s.number == c.args.number) f.out.items ≡ None = rw c.index_of.ensures at c.in-None.is in
    rw (← c.self.view_is, nothing_found (λ s. s.number == c.args.number) f.out.items place) refl

pub returns-in-Some-clause-made : goal.returns-in-Some-clause-made
returns-in-Some-clause-made g c =
    let f = c.self.inside in
    let place : position (λ s. s.number == c.args.number) f.out.items ≡ Some c.in-Some.at =
    rw c.index_of.ensures at c.in-Some.is in
    let put = put_at_place c.args.number c.args.value f.out.items c.in-Some.at c.index_mut.result.now place
    c.index_mut.ensures.value in
    let found = found_at_place (λ s. s.number == c.args.number) f.out.items c.in-Some.at c.index_mut.result.now place
    c.index_mut.ensures.value in
    rw (← c.self.view_is, put, found) refl
