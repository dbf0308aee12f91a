-- A start of a get is the list machine's, and one without a handle or room for a party is refused.
use Rattle.deadpool_trial.proofs.Cited.{◌≡◌, nat_lt, true, false, rules, ◌∷◌, [], ◌++◌, Some, length, vec_len, arith}
use Rattle.deadpool_trial.proofs.Cited.{refl, map, lt-ltb, le-ltb, length-map, unwrap_or, party_of, unpolled, image}
use Rattle.deadpool_trial.proofs.Cited.{starts, newcomer, no_handle, some_handle, leads_to_well, Start, Started}
use Rattle.deadpool_trial.proofs.trial.Trial.start.Goals as goal

pub returns-then-not-has_handle-clause-made : goal.returns-then-not-has_handle-clause-made
returns-then-not-has_handle-clause-made g c =
    let none =
    no_handle c.has_handle.result c.self.inside.core.desk.handles c.has_handle.ensures c.if-not-has_handle.true in
    rw (← c.self.view_is) (rw none refl)

pub returns-then-party-self-clause-made : goal.returns-then-party-self-clause-made
returns-then-party-self-clause-made g c =
    let f = c.self.inside in
    let some = some_handle c.has_handle.result f.core.desk.handles c.has_handle.ensures c.if-not-has_handle.false in
    let len : vec_len f.parties ≡ length f.parties.items = search rules in
    let full : nat_lt (length (map party_of f.parties.items)) f.setup.most_parties ≡ false =
    le-ltb _ _ (omega (arith, c.len-party.ensures, len, length-map f.parties.items party_of, c.if-party-self.true)) in
    rw (← c.self.view_is) (rw (some, full) refl)

pub returns-clause-made : goal.returns-clause-made
returns-clause-made g c =
    let f = c.self.inside in
    let some = some_handle c.has_handle.result f.core.desk.handles c.has_handle.ensures c.if-not-has_handle.false in
    let len : vec_len f.parties ≡ length f.parties.items = search rules in
    let count : c.len-party.result ≡ length (map party_of f.parties.items) =
    omega (arith, c.len-party.ensures, len, length-map f.parties.items party_of) in
    let few : nat_lt (length (map party_of f.parties.items)) f.setup.most_parties ≡ true =
    lt-ltb _ _ (omega (arith, count, c.if-party-self.false)) in
    let items : c.append.new.entries.items ≡ f.parties.items ++ Some (newcomer c.unwrap_or-timeouts.result) ∷ [] =
    rw c.new.ensures at c.append.ensures.items in
    let all =
    starts f.setup f.core.desk f.parties.items f.out.items c.self.invariant.counted c.unwrap_or-timeouts.result in
    rw (← c.self.view_is, items) (rw (some, few, count, all.0, c.unwrap_or-timeouts.ensures) refl)

pub invariant_of-self : goal.invariant_of-self
invariant_of-self g c =
    let f = c.self.inside in
    let setup = f.setup in
    let some = some_handle c.has_handle.result f.core.desk.handles c.has_handle.ensures c.if-not-has_handle.false in
    let len : vec_len f.parties ≡ length f.parties.items = search rules in
    let count : c.len-party.result ≡ length (map party_of f.parties.items) =
    omega (arith, c.len-party.ensures, len, length-map f.parties.items party_of) in
    let few : nat_lt (length (map party_of f.parties.items)) f.setup.most_parties ≡ true =
    lt-ltb _ _ (omega (arith, count, c.if-party-self.false)) in
    let items : c.append.new.entries.items ≡ f.parties.items ++ Some (newcomer c.unwrap_or-timeouts.result) ∷ [] =
    rw c.new.ensures at c.append.ensures.items in
    let all =
    starts setup f.core.desk f.parties.items f.out.items c.self.invariant.counted c.unwrap_or-timeouts.result in
    let pool = image setup f.core.desk f.parties.items f.out.items in
    let begun =
    record pool {
      parties = pool.parties ++ Some
          (record { timeouts = unwrap_or c.args.timeouts f.setup.timeouts; standing = unpolled }) ∷ [];
    } in
    let led = leads_to_well g.M.Manager g.F.SyncHook g.A.AsyncHook f.setup.environment.manager
    (Start c.args.timeouts) pool begun
    (Started (length (map party_of f.parties.items))) c.self.invariant.well (rw (some, few) refl) in
    record {
      counted = rw items all.1;
      well = rw (items, all.0, c.unwrap_or-timeouts.ensures) led;
      parties = omega (arith, c.append.ensures.len, c.if-party-self.false, c.len-party.ensures);
      party_room = omega (arith, c.self.invariant.party_room, c.append.ensures.capacity);
      out_room = c.self.invariant.out_room;
    }
