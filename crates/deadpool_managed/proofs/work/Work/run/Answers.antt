-- Steps up to the first that waits or ends the get are a poll, and they come to an end.
use Rattle.deadpool_managed.proofs.Words.{refl, may, stage_of}
use Rattle.deadpool_managed.proofs.Phases.{more_is, not_more}
use Rattle.deadpool_managed.proofs.Polls.{falls_allowed, falls_out, polls_on, polls_once}
use Rattle.deadpool_managed.proofs.work.Work.run.Goals as goal

pub until_allowed-preserved : goal.until_allowed-preserved
until_allowed-preserved g c =
    let l = c.until_allowed in
    let env = c.args.environment.now in
    let a = c.begin.ensures.advanced in
    record {
      placed = c.begin.ensures.leaves.placed;
      kept = λ fact h. c.begin.ensures.kept fact (l.invariant.kept fact h);
      holds = rw c.in-More.is at c.begin.ensures.leaves.holds;
      waits = falls_out (g.D.Desk.waits c.begin.new.desk) (stage_of l.self.phase l.self.slot)
          (stage_of c.begin.new.self.phase c.begin.new.self.slot) (c.begin.ensures.falls c.in-More.is);
      goes = λ desk stage turn rest. l.invariant.goes desk stage turn
          (polls_on g.D.Desk (may g.M.Manager g.F.SyncHook g.A.AsyncHook env.manager) env.runtime env.hooks c.args.now
          c.args.timeouts.now
          l.desk c.begin.new.desk desk (stage_of l.self.phase l.self.slot)
          (stage_of c.begin.new.self.phase c.begin.new.self.slot) stage _ turn a.0 c.args.timeouts.now refl
          (more_is c.begin.result c.begin.new.self.slot c.in-More.is) a.1.0 a.1.1 rest);
    }

pub returns-in_default : goal.returns-in_default
returns-in_default g c =
    let l = c.until_allowed in
    let env = c.args.environment.now in
    let a = c.begin.ensures.advanced in
    record {
      polled = l.invariant.goes _ _ _
          (polls_once g.D.Desk (may g.M.Manager g.F.SyncHook g.A.AsyncHook env.manager) env.runtime env.hooks c.args.now
          c.args.timeouts.now
          l.desk c.begin.new.desk (stage_of l.self.phase l.self.slot)
          (stage_of c.begin.new.self.phase c.begin.new.self.slot) _ a.0 c.args.timeouts.now refl a.1.0 a.1.1
          (not_more c.begin.result c.begin.new.self.slot c.in_default.not-More));
      leaves = c.begin.ensures.leaves;
      kept = λ fact h. c.begin.ensures.kept fact (l.invariant.kept fact h);
    }

pub allowed-smaller : goal.allowed-smaller
allowed-smaller g c =
    (falls_allowed (stage_of c.allowed.self.phase c.allowed.self.slot)
    (stage_of c.go_on.new.self.phase c.go_on.new.self.slot) c.allowed.invariant.allowed
    (c.go_on.ensures.falls c.in-More-go_on.is)).1

pub allowed-preserved : goal.allowed-preserved
allowed-preserved g c =
    let l = c.allowed in
    let env = c.args.environment.now in
    let a = c.go_on.ensures.advanced in
    record {
      placed = c.go_on.ensures.leaves.placed;
      kept = λ fact h. c.go_on.ensures.kept fact (l.invariant.kept fact h);
      holds = rw c.in-More-go_on.is at c.go_on.ensures.leaves.holds;
      waits = falls_out (g.D.Desk.waits c.go_on.new.desk) (stage_of l.self.phase l.self.slot)
          (stage_of c.go_on.new.self.phase c.go_on.new.self.slot) (c.go_on.ensures.falls c.in-More-go_on.is);
      allowed =
          (falls_allowed (stage_of c.allowed.self.phase c.allowed.self.slot)
          (stage_of c.go_on.new.self.phase c.go_on.new.self.slot) c.allowed.invariant.allowed
          (c.go_on.ensures.falls c.in-More-go_on.is)).0;
      goes = λ desk stage turn rest. l.invariant.goes desk stage turn
          (polls_on g.D.Desk (may g.M.Manager g.F.SyncHook g.A.AsyncHook env.manager) env.runtime env.hooks c.args.now
          c.args.timeouts.now
          l.desk c.go_on.new.desk desk (stage_of l.self.phase l.self.slot)
          (stage_of c.go_on.new.self.phase c.go_on.new.self.slot) stage _ turn a.0 c.args.timeouts.now refl
          (more_is c.go_on.result c.go_on.new.self.slot c.in-More-go_on.is) a.1.0 a.1.1 rest);
    }

pub returns-in_default-go_on : goal.returns-in_default-go_on
returns-in_default-go_on g c =
    let l = c.allowed in
    let env = c.args.environment.now in
    let a = c.go_on.ensures.advanced in
    record {
      polled = l.invariant.goes _ _ _
          (polls_once g.D.Desk (may g.M.Manager g.F.SyncHook g.A.AsyncHook env.manager) env.runtime env.hooks c.args.now
          c.args.timeouts.now
          l.desk c.go_on.new.desk (stage_of l.self.phase l.self.slot)
          (stage_of c.go_on.new.self.phase c.go_on.new.self.slot) _ a.0 c.args.timeouts.now refl a.1.0 a.1.1
          (not_more c.go_on.result c.go_on.new.self.slot c.in_default-go_on.not-More));
      leaves = c.go_on.ensures.leaves;
      kept = λ fact h. c.go_on.ensures.kept fact (l.invariant.kept fact h);
    }
