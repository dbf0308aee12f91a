-- An add at once is the list machine's, and one that is refused has its object back.
use Rattle.deadpool_trial.proofs.OfUnmanaged.{Basics.arith, Basics.subst, Basics.false, Basics.Some, Basics.eq-eqb}
use Rattle.deadpool_trial.proofs.OfUnmanaged.{Basics.largest_usize, Words.Does, Words.AddEnter, Words.LeavesHand}
use Rattle.deadpool_trial.proofs.OfUnmanaged.{Words.Move, Words.Reply, OtherMoves.at_once, OtherMoves.tried_add}
use Rattle.deadpool_trial.proofs.OfUnmanaged.{Parties.no_handle, Parties.some_handle, Parties.differs, Parties.stays}
use Rattle.deadpool_trial.proofs.unmanaged.trial.Trial.try_add.Goals as goal

pub returns-then-not-has_handle : goal.returns-then-not-has_handle
returns-then-not-has_handle g c =
    let f = c.self.inside in
    let none = no_handle c.has_handle.result f.core.pool.handles c.has_handle.ensures c.if-not-has_handle.true in
    let all = stays f.runtime f.most_parties f.next f.core.pool f.visitors.items f.out.items c.self.invariant.counted
    c.self.invariant.well (Move.TryAdd c.args.value) Reply.NoHandle (rw none) in
    rw (← c.self.view_is) all.gives

pub returns-in-Err : goal.returns-in-Err
returns-in-Err g c =
    let f = c.self.inside in
    let some = some_handle c.has_handle.result f.core.pool.handles c.has_handle.ensures c.if-not-has_handle.false in
    let full = eq-eqb f.next largest_usize c.in-Err.ensures.0 in
    let all = stays f.runtime f.most_parties f.next f.core.pool f.visitors.items f.out.items c.self.invariant.counted
    c.self.invariant.well (Move.TryAdd c.args.value) (Reply.Exhausted c.args.value) (rw (some, full)) in
    rw (← c.self.view_is, c.in-Err.ensures.1, c.in-Err.ensures.2) all.gives

pub after_try_add-requires : goal.after_try_add-requires
after_try_add-requires g c =
    let f = c.self.inside in
    let some = some_handle c.has_handle.result f.core.pool.handles c.has_handle.ensures c.if-not-has_handle.false in
    let left = differs f.next largest_usize c.in-Ok.ensures.0 in
    at_once f.runtime f.most_parties f.next f.core.pool f.visitors.items f.out.items c.self.invariant.counted
    c.self.invariant.well some c.make-reply.new.self.pool c.args.value left c.make-reply.result c.make-reply.new.hand
    (subst (λ i. Does f.core.pool (AddEnter false) (Some i) c.make-reply.result c.make-reply.new.self.pool)
    c.in-Ok.ensures.1 c.make-reply.ensures.made.0)
    (subst (λ i. LeavesHand c.make-reply.result (Some i) c.make-reply.new.hand) c.in-Ok.ensures.1
    c.make-reply.ensures.hand)

pub invariant_of-self : goal.invariant_of-self
invariant_of-self g c = rw c.in-Err.ensures.2 c.self.invariant

pub invariant_of-self-2 : goal.invariant_of-self-2
invariant_of-self-2 g c =
    let f = c.self.inside in
    let some = some_handle c.has_handle.result f.core.pool.handles c.has_handle.ensures c.if-not-has_handle.false in
    let left = differs f.next largest_usize c.in-Ok.ensures.0 in
    let all =
    tried_add f.runtime f.most_parties f.next f.core.pool f.visitors.items f.out.items c.self.invariant.counted
    c.self.invariant.well some c.make-reply.new.self.pool c.args.value left c.make-reply.result c.make-reply.new.hand
    (subst (λ i. Does f.core.pool (AddEnter false) (Some i) c.make-reply.result c.make-reply.new.self.pool)
    c.in-Ok.ensures.1 c.make-reply.ensures.made.0)
    (subst (λ i. LeavesHand c.make-reply.result (Some i) c.make-reply.new.hand) c.in-Ok.ensures.1
    c.make-reply.ensures.hand) in
    rw c.in-Ok.ensures.2 record {
      counted = all.counted;
      well = all.well;
      parties = c.self.invariant.parties;
      places = c.self.invariant.places;
      out_room = omega (arith, all.limit, c.self.invariant.out_room);
    }

pub returns : goal.returns
returns g c =
    let f = c.self.inside in
    let some = some_handle c.has_handle.result f.core.pool.handles c.has_handle.ensures c.if-not-has_handle.false in
    let left = differs f.next largest_usize c.in-Ok.ensures.0 in
    let all =
    tried_add f.runtime f.most_parties f.next f.core.pool f.visitors.items f.out.items c.self.invariant.counted
    c.self.invariant.well some c.make-reply.new.self.pool c.args.value left c.make-reply.result c.make-reply.new.hand
    (subst (λ i. Does f.core.pool (AddEnter false) (Some i) c.make-reply.result c.make-reply.new.self.pool)
    c.in-Ok.ensures.1 c.make-reply.ensures.made.0)
    (subst (λ i. LeavesHand c.make-reply.result (Some i) c.make-reply.new.hand) c.in-Ok.ensures.1
    c.make-reply.ensures.hand) in
    rw (← c.self.view_is, c.after_try_add.ensures, c.in-Ok.ensures.2, c.in-Ok.ensures.1) all.gives
