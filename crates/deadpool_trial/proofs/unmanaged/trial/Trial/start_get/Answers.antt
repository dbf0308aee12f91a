-- A start of a get is the list machine's, and one without a handle or room for a party is refused.
use Rattle.deadpool_trial.proofs.OfUnmanaged.Basics.{◌≡◌, nat_lt, true, false, rules, length, vec_len, arith, map}
use Rattle.deadpool_trial.proofs.OfUnmanaged.Basics.{lt-ltb, le-ltb, length-map}
use Rattle.deadpool_trial.proofs.OfUnmanaged.Words.{party_of, Move, Reply}
use Rattle.deadpool_trial.proofs.OfUnmanaged.Parties.{no_handle, some_handle, stays, get_started}
use Rattle.deadpool_trial.proofs.unmanaged.trial.Trial.start_get.Goals as goal

pub returns-then-not-has_handle : goal.returns-then-not-has_handle
returns-then-not-has_handle g c =
    let f = c.self.inside in
    let none = no_handle c.has_handle.result f.core.pool.handles c.has_handle.ensures c.if-not-has_handle.true in
    let all = stays f.runtime f.most_parties f.next f.core.pool f.visitors.items f.out.items c.self.invariant.counted
    c.self.invariant.well (Move.Get c.args.wait) Reply.NoHandle (rw none) in
    rw (← c.self.view_is) all.gives

pub returns-then-party-self : goal.returns-then-party-self
returns-then-party-self g c =
    let f = c.self.inside in
    let some = some_handle c.has_handle.result f.core.pool.handles c.has_handle.ensures c.if-not-has_handle.false in
    let len : vec_len f.visitors ≡ length f.visitors.items = search rules in
    let same = length-map f.visitors.items party_of in
    let full : nat_lt (length (map party_of f.visitors.items)) f.most_parties ≡ false =
    le-ltb _ _ (omega (arith, c.len-party.ensures, len, same, c.if-party-self.true)) in
    let all = stays f.runtime f.most_parties f.next f.core.pool f.visitors.items f.out.items c.self.invariant.counted
    c.self.invariant.well (Move.Get c.args.wait) Reply.NoRoom (rw (some, full)) in
    rw (← c.self.view_is) all.gives

pub invariant_of-self : goal.invariant_of-self
invariant_of-self g c =
    let f = c.self.inside in
    let some = some_handle c.has_handle.result f.core.pool.handles c.has_handle.ensures c.if-not-has_handle.false in
    let len : vec_len f.visitors ≡ length f.visitors.items = search rules in
    let same = length-map f.visitors.items party_of in
    let count : c.len-party.result ≡ length (map party_of f.visitors.items) =
    omega (arith, c.len-party.ensures, len, same) in
    let few : nat_lt (length (map party_of f.visitors.items)) f.most_parties ≡ true =
    lt-ltb _ _ (omega (arith, count, c.if-party-self.false)) in
    let items = rw c.new.ensures at c.append.ensures.items in
    let all = get_started f.runtime f.most_parties f.next f.core.pool f.visitors.items f.out.items
    c.self.invariant.counted c.self.invariant.well some few c.len-party.result count c.args.wait in
    rw items
    record {
      counted = all.counted;
      well = all.well;
      parties = omega (arith, c.append.ensures.len, c.if-party-self.false, c.len-party.ensures);
      places = omega (arith, c.self.invariant.places, c.append.ensures.capacity);
      out_room = c.self.invariant.out_room;
    }

pub returns : goal.returns
returns g c =
    let f = c.self.inside in
    let some = some_handle c.has_handle.result f.core.pool.handles c.has_handle.ensures c.if-not-has_handle.false in
    let len : vec_len f.visitors ≡ length f.visitors.items = search rules in
    let same = length-map f.visitors.items party_of in
    let count : c.len-party.result ≡ length (map party_of f.visitors.items) =
    omega (arith, c.len-party.ensures, len, same) in
    let few : nat_lt (length (map party_of f.visitors.items)) f.most_parties ≡ true =
    lt-ltb _ _ (omega (arith, count, c.if-party-self.false)) in
    let items = rw c.new.ensures at c.append.ensures.items in
    let all = get_started f.runtime f.most_parties f.next f.core.pool f.visitors.items f.out.items
    c.self.invariant.counted c.self.invariant.well some few c.len-party.result count c.args.wait in
    rw (← c.self.view_is, items) all.gives
