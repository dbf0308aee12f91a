-- A run answers and changes the pool as the list machine does.
use Rattle.deadpool_trial.proofs.OfUnmanaged.Basics.{rules, ◌≡◌, [], ◌∷◌, length, vec_len, arith, append_assoc}
use Rattle.deadpool_trial.proofs.OfUnmanaged.Basics.{append-nil, into_iter_items, into_iter_len, none_left, one_less}
use Rattle.deadpool_trial.proofs.OfUnmanaged.Words.{PoolInvariant}
use Rattle.deadpool_trial.proofs.OfUnmanaged.Runs.{runs_more, runs_end, runs_lawful}
use Rattle.deadpool_trial.proofs.unmanaged.trial.Trial.run.Goals as goal

pub loop-first-init : goal.loop-first-init
loop-first-init g c =
    let len : vec_len c.args.moves ≡ length c.args.moves.items = search rules in
    let gives = c.into_iter-first-iterator.ensures.into_iter_gives in
    record {
      left = rw (gives.0, gives.1) len;
      room = omega (arith, gives.1, c.in-Ok.ensures.len, c.in-Ok.ensures.capacity, c.len.ensures);
      goes = λ passed answers after rest. rw (c.in-Ok.ensures.items) (passed, rw gives.0 at rest);
    }

pub append-requires : goal.append-requires
append-requires g c = let steps = c.in-Some.ensures.steps in omega (arith, c.loop-first.invariant.room, steps.1)

pub loop-first-preserved : goal.loop-first-preserved
loop-first-preserved g c =
    let l = c.loop-first in
    let steps = c.in-Some.ensures.steps in
    record {
      left = one_less (into_iter_items l.first-iterator)
          (into_iter_items c.next.new.self) c.in-Some.first _ _ l.invariant.left steps.0 steps.1;
      room = omega (arith, l.invariant.room, steps.1, c.append.ensures.len, c.append.ensures.capacity);
      goes = λ passed answers after rest.
          rw (c.append.ensures.items, append_assoc)
          (l.invariant.goes ((c.make-reply.new.self ∷ []) ∷ passed) (c.make-reply.result ∷ answers) after
          (runs_more l.self c.make-reply.new.self after c.in-Some.first (into_iter_items c.next.new.self)
          (into_iter_items l.first-iterator) c.make-reply.result answers passed steps.0
          c.make-reply.ensures rest));
    }

pub returns : goal.returns
returns g c =
    let l = c.loop-first in
    let steps = c.in-None.ensures.steps in
    let ended : into_iter_items l.first-iterator ≡ [] =
    none_left (into_iter_items l.first-iterator) (into_iter_len l.first-iterator) l.invariant.left steps.0 in
    let ran =
    rw append-nil at (l.invariant.goes [] [] l.self (runs_end l.self (into_iter_items l.first-iterator) ended)) in
    let lawful : PoolInvariant c.args.self.now = rw (← c.self.view_is) c.self.invariant.well.lawful in
    let laws = runs_lawful c.args.moves.items c.args.self.now l.self ran.0 l.replies.items lawful ran.1 in
    record { run = (ran.0, ran.1, laws.0, laws.1) }
