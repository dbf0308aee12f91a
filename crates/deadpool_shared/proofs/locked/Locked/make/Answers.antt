-- A step that is made is one call of its caller's. With room for all that may wait none of them is refused.
use Rattle.std.proofs.Common.{inl, ◌≡◌, ◌∙◌, ◌≤◌, length, sym, arith, false, true}
use Rattle.deadpool_desk.proofs.Room.{step_keeps_room}
use Rattle.deadpool_desk.specs.CoreState.{HasRoom}
use Rattle.deadpool_shared.proofs.Roomy.{FindsRoom, nobody_refused, same_room}
use Rattle.deadpool_shared.proofs.locked.Locked.make.Given.{Over}
use Rattle.deadpool_shared.proofs.locked.Locked.make.Goals as goal
use Rattle.deadpool_shared.proofs.locked.Locked.make.Goals.{
  else-may_wait-via-then-may_wait+then-would_queue+else-is_err,
  else-may_wait-via-then-may_wait+else-would_queue,
  else-may_wait-via-else-may_wait,
}

pub returns-clause-call : goal.returns-clause-call
returns-clause-call g c =
    rw (c.shift.ensures.shares, ← c.audit.ensures.shares, ← c.shares.view_is) (inl c.make_counted-reply.ensures.called)

-- a get that has to join the queue finds room, as the core says that it would queue
finds_room : (g : Over) (c : goal.After-self-2-1 g) → HasRoom c.args.self.now.recorded.pool.core
    → FindsRoom c.args.self.now.recorded.pool.core c.args.step.now
finds_room g c roomy may would = elim c.else-may_wait.branch [
  | else-may_wait-via-then-may_wait+then-would_queue+else-is_err w ↦
      w.would_queue.ensures.room w.if-would_queue.true roomy
  | else-may_wait-via-then-may_wait+else-would_queue w ↦
      absurd (let differ : false ≡ true = sym w.if-would_queue.false ∙ w.would_queue.ensures.would ∙ would in cc)
  | else-may_wait-via-else-may_wait w ↦
      absurd (let differ : false ≡ true = sym w.if-may_wait.false ∙ c.may_wait.ensures ∙ may in cc)
]

-- no place for a waker goes
keeps_places : (g : Over) (c : goal.After-self-2-1 g)
    → length c.args.self.now.wakers ≤ length c.else-may_wait.wakers
keeps_places g c = elim c.else-may_wait.branch [
  | else-may_wait-via-then-may_wait+then-would_queue+else-is_err w ↦ rw w.wakers-is w.make_room.ensures.kept
  | else-may_wait-via-then-may_wait+else-would_queue w ↦ rw w.wakers-is (omega arith)
  | else-may_wait-via-else-may_wait w ↦ rw w.wakers-is (omega arith)
]

pub returns-clause-roomy : goal.returns-clause-roomy
returns-clause-roomy g c roomy is =
    let core = c.args.self.now.recorded.pool.core in
    let core' = c.make_counted-reply.new.recorded.pool.core in
    absurd (nobody_refused core core' c.args.step.now _ (finds_room g c roomy.0)
    (rw is at c.make_counted-reply.ensures.made.0))

pub returns-clause-keeps_room : goal.returns-clause-keeps_room
returns-clause-keeps_room g c roomy =
    let core = c.args.self.now.recorded.pool.core in
    let core' = c.make_counted-reply.new.recorded.pool.core in
    let made = c.make_counted-reply.ensures.made.0 in
    let same = same_room core core' c.args.step.now _ c.make_counted-reply.result (finds_room g c roomy.0) made in (
      step_keeps_room core core' c.args.step.now _ c.make_counted-reply.result made roomy.0,
      omega (arith, same, roomy.1, keeps_places g c, c.follow-spare.ensures.kept),
    )
