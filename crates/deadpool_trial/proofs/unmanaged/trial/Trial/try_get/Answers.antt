-- A get at once is the list machine's, and one that is refused says why.
use Rattle.deadpool_trial.proofs.OfUnmanaged.{Basics.arith, Basics.subst, Basics.false, Basics.rules, Basics.length}
use Rattle.deadpool_trial.proofs.OfUnmanaged.{Basics.vec_len, Basics.◌≡◌, Words.Does, Words.GetEnter, Words.Move}
use Rattle.deadpool_trial.proofs.OfUnmanaged.{Words.Reply, Lawful.length-with_item, OtherMoves.tried_get}
use Rattle.deadpool_trial.proofs.OfUnmanaged.{OtherMoves.get_refused, OtherMoves.tried_get_refused, Parties.no_handle}
use Rattle.deadpool_trial.proofs.OfUnmanaged.{Parties.some_handle, Parties.stays}
use Rattle.deadpool_trial.proofs.unmanaged.trial.Trial.try_get.Goals as goal

pub returns-then-not-has_handle : goal.returns-then-not-has_handle
returns-then-not-has_handle g c =
    let f = c.self.inside in
    let none = no_handle c.has_handle.result f.core.pool.handles c.has_handle.ensures c.if-not-has_handle.true in
    let all = stays f.runtime f.most_parties f.next f.core.pool f.visitors.items f.out.items c.self.invariant.counted
    c.self.invariant.well (Move.TryGet) Reply.NoHandle (rw none) in
    rw (← c.self.view_is) all.gives

pub put_in-requires : goal.put_in-requires
put_in-requires g c =
    let f = c.self.inside in
    let some = some_handle c.has_handle.result f.core.pool.handles c.has_handle.ensures c.if-not-has_handle.false in
    let all =
    tried_get f.runtime f.most_parties f.next f.core.pool f.visitors.items f.out.items c.self.invariant.counted
    c.self.invariant.well some c.make-reply.new.self.pool c.in-Some.item c.make-reply.result
    (subst (λ o. Does f.core.pool (GetEnter false) o c.make-reply.result c.make-reply.new.self.pool) c.in-Some.is
    c.make-reply.ensures.made.0) in
    let len : vec_len f.out ≡ length f.out.items = search rules in
    omega (
      arith,
      all.well.lawful.room,
      all.limit,
      c.self.invariant.out_room,
      len,
      length-with_item c.in-Some.item f.out.items,
    )

pub invariant_of-self : goal.invariant_of-self
invariant_of-self g c =
    let f = c.self.inside in
    let some = some_handle c.has_handle.result f.core.pool.handles c.has_handle.ensures c.if-not-has_handle.false in
    let all =
    tried_get f.runtime f.most_parties f.next f.core.pool f.visitors.items f.out.items c.self.invariant.counted
    c.self.invariant.well some c.make-reply.new.self.pool c.in-Some.item c.make-reply.result
    (subst (λ o. Does f.core.pool (GetEnter false) o c.make-reply.result c.make-reply.new.self.pool) c.in-Some.is
    c.make-reply.ensures.made.0) in
    let i = c.self.invariant in
    rw c.put_in.ensures.items
    record {
      counted = all.counted;
      well = all.well;
      parties = i.parties;
      places = i.places;
      out_room = omega (arith, all.limit, i.out_room, c.put_in.ensures.capacity);
    }

pub returns-in-Some : goal.returns-in-Some
returns-in-Some g c =
    let f = c.self.inside in
    let some = some_handle c.has_handle.result f.core.pool.handles c.has_handle.ensures c.if-not-has_handle.false in
    let all =
    tried_get f.runtime f.most_parties f.next f.core.pool f.visitors.items f.out.items c.self.invariant.counted
    c.self.invariant.well some c.make-reply.new.self.pool c.in-Some.item c.make-reply.result
    (subst (λ o. Does f.core.pool (GetEnter false) o c.make-reply.result c.make-reply.new.self.pool) c.in-Some.is
    c.make-reply.ensures.made.0) in
    rw (← c.self.view_is, c.put_in.ensures.items) all.gives

pub refusal-requires : goal.refusal-requires
refusal-requires g c =
    let f = c.self.inside in
    let some = some_handle c.has_handle.result f.core.pool.handles c.has_handle.ensures c.if-not-has_handle.false in
    get_refused f.runtime f.most_parties f.next f.core.pool f.visitors.items f.out.items c.self.invariant.counted
    c.self.invariant.well some c.make-reply.new.self.pool c.make-reply.result
    (subst (λ o. Does f.core.pool (GetEnter false) o c.make-reply.result c.make-reply.new.self.pool) c.in-None.is
    c.make-reply.ensures.made.0)

pub invariant_of-self-in-None : goal.invariant_of-self-in-None
invariant_of-self-in-None g c =
    let f = c.self.inside in
    let some = some_handle c.has_handle.result f.core.pool.handles c.has_handle.ensures c.if-not-has_handle.false in
    let all =
    tried_get_refused f.runtime f.most_parties f.next f.core.pool f.visitors.items f.out.items
    c.self.invariant.counted c.self.invariant.well some c.make-reply.new.self.pool c.make-reply.result
    (subst (λ o. Does f.core.pool (GetEnter false) o c.make-reply.result c.make-reply.new.self.pool) c.in-None.is
    c.make-reply.ensures.made.0) in
    record {
      counted = all.counted;
      well = all.well;
      parties = c.self.invariant.parties;
      places = c.self.invariant.places;
      out_room = omega (arith, all.limit, c.self.invariant.out_room);
    }

pub returns-in-None : goal.returns-in-None
returns-in-None g c =
    let f = c.self.inside in
    let some = some_handle c.has_handle.result f.core.pool.handles c.has_handle.ensures c.if-not-has_handle.false in
    let all =
    tried_get_refused f.runtime f.most_parties f.next f.core.pool f.visitors.items f.out.items
    c.self.invariant.counted c.self.invariant.well some c.make-reply.new.self.pool c.make-reply.result
    (subst (λ o. Does f.core.pool (GetEnter false) o c.make-reply.result c.make-reply.new.self.pool) c.in-None.is
    c.make-reply.ensures.made.0) in
    rw (← c.self.view_is, c.refusal.ensures) all.gives
