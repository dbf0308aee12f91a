-- A run answers and changes the pool as the list machine does, and nobody waits in the end while a place is free.
use Rattle.deadpool_trial.proofs.Cited.{rules, ◌≡◌, [], ◌∷◌, length, vec_len, arith, refl, subst, ◌∙◌, append_assoc}
use Rattle.deadpool_trial.proofs.Cited.{append-nil, into_iter_items, into_iter_len, none_left, one_less, NobodyWaits}
use Rattle.deadpool_trial.proofs.Cited.{WithinReach, RunInvariant, may, MakesMove, runs_more, runs_end, each_state}
use Rattle.deadpool_trial.proofs.Cited.{each_step, WaitsWithin}
use Rattle.deadpool_trial.proofs.trial.Trial.run.Goals as goal

pub loop-first-init : goal.loop-first-init
loop-first-init g c =
    let len : vec_len c.args.moves ≡ length c.args.moves.items = search rules in
    let gives = c.into_iter-first-iterator.ensures.into_iter_gives in
    record {
      manager = refl;
      kept = λ fact h. h;
      left = rw (gives.0, gives.1) len;
      room = omega (arith, gives.1, c.in-Ok.ensures.len, c.in-Ok.ensures.capacity, c.len.ensures);
      goes = λ passed answers after rest. rw (c.in-Ok.ensures.items) (passed, rw gives.0 at rest);
    }

pub append-requires : goal.append-requires
append-requires g c = let steps = c.in-Some.ensures.steps in omega (arith, c.loop-first.invariant.room, steps.1)

pub loop-first-preserved : goal.loop-first-preserved
loop-first-preserved g c =
    let l = c.loop-first in
    let made = c.make-reply.ensures.made in
    let steps = c.in-Some.ensures.steps in
    let by : g.row.M.Denot → Type 0 =
    λ manager. MakesMove (may g.M.Manager g.F.SyncHook g.A.AsyncHook manager) l.self.pool c.in-Some.first made.0
    c.make-reply.result in
    record {
      manager = c.make-reply.ensures.manager ∙ l.invariant.manager;
      kept = λ fact h. c.make-reply.ensures.kept fact (l.invariant.kept fact h);
      left = one_less (into_iter_items l.first-iterator)
          (into_iter_items c.next.new.self) c.in-Some.first _ _ l.invariant.left steps.0 steps.1;
      room = omega (arith, l.invariant.room, steps.1, c.append.ensures.len, c.append.ensures.capacity);
      goes = λ passed answers after rest.
          rw (c.append.ensures.items, append_assoc)
          (l.invariant.goes (made.0 ∷ passed) (c.make-reply.result ∷ answers) after
          (runs_more (may g.M.Manager g.F.SyncHook g.A.AsyncHook c.args.self.now.manager) l.self.pool
          c.make-reply.new.self.pool after c.in-Some.first (into_iter_items c.next.new.self)
          (into_iter_items l.first-iterator)
          c.make-reply.result answers made.0 passed steps.0 (subst by l.invariant.manager made.1) made.2 rest));
    }

pub returns-clause-run : goal.returns-clause-run
returns-clause-run g c =
    let l = c.loop-first in
    let steps = c.in-None.ensures.steps in
    let ended : into_iter_items l.first-iterator ≡ [] =
    none_left (into_iter_items l.first-iterator) (into_iter_len l.first-iterator) l.invariant.left steps.0 in
    rw append-nil at
    (l.invariant.goes [] [] l.self.pool
    (runs_end (may g.M.Manager g.F.SyncHook g.A.AsyncHook c.args.self.now.manager) l.self.pool
    (into_iter_items l.first-iterator) ended))

pub returns-clause-nobody_waits : goal.returns-clause-nobody_waits
returns-clause-nobody_waits g c passed ran =
    let well : RunInvariant c.args.self.now.pool = rw (← c.self.view_is) c.self.invariant.well in
    each_state (may g.M.Manager g.F.SyncHook g.A.AsyncHook c.args.self.now.manager) NobodyWaits
    (λ q w. w.lawful.nobody_waits) c.args.moves.items c.args.self.now.pool c.loop-first.self.pool passed
    c.loop-first.replies.items well ran

pub returns-clause-waits_within : goal.returns-clause-waits_within
returns-clause-waits_within g c passed ran =
    let well : RunInvariant c.args.self.now.pool = rw (← c.self.view_is) c.self.invariant.well in
    each_state (may g.M.Manager g.F.SyncHook g.A.AsyncHook c.args.self.now.manager) WaitsWithin
    (λ q w. w.lawful.few_waiting) c.args.moves.items c.args.self.now.pool c.loop-first.self.pool passed
    c.loop-first.replies.items well ran

pub returns-clause-within_reach : goal.returns-clause-within_reach
returns-clause-within_reach g c passed ran =
    let well : RunInvariant c.args.self.now.pool = rw (← c.self.view_is) c.self.invariant.well in
    each_step (may g.M.Manager g.F.SyncHook g.A.AsyncHook c.args.self.now.manager) WithinReach (λ q r s. s.1)
    c.args.moves.items c.args.self.now.pool c.loop-first.self.pool passed c.loop-first.replies.items well ran

pub returns-clause-manager : goal.returns-clause-manager
returns-clause-manager g c = c.loop-first.invariant.manager

pub returns-clause-kept : goal.returns-clause-kept
returns-clause-kept g c = c.loop-first.invariant.kept
