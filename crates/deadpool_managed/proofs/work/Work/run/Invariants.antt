-- While a get makes its steps: what polls over from here polls over from the beginning, in fewer steps each time.
use Rattle.deadpool_managed.proofs.Words.{◌≡◌, false, Keeps, may, PollsOver, held_at, until_allowance, lacks_allowance}
use Rattle.deadpool_managed.proofs.Words.{weight, IsPlaced, WaitsUnder, stage_of, Stage, Turn}
use Rattle.deadpool_managed.proofs.work.Work.run.Given as goal

-- what polls over from here polls over from the beginning
abbrev pub invariant-until_allowed : goal.invariant-until_allowed
invariant-until_allowed g l = record {
  placed : IsPlaced g.M.Manager.is_ready l.self.phase l.self.slot;
  kept : Keeps l.fn.cx l.cx;
  holds : g.D.Desk.holds l.desk (held_at (stage_of l.self.phase l.self.slot));
  waits : WaitsUnder (g.D.Desk.waits l.desk) (stage_of l.self.phase l.self.slot);
  goes : (desk : g.row.D.Denot)
      (stage : Stage g.row.M-Type.Denot g.row.M-Creating.Denot g.row.M-Recycling.Denot g.row.A-State.Denot)
      (turn : Turn g.row.M-Type.Denot g.row.M-Error.Denot)
      → PollsOver g.D.Desk (may g.M.Manager g.F.SyncHook g.A.AsyncHook l.fn.environment.manager)
      l.fn.environment.runtime l.fn.environment.hooks l.fn.now l.fn.timeouts l.desk
      (stage_of l.self.phase l.self.slot) desk stage turn
      → PollsOver g.D.Desk (may g.M.Manager g.F.SyncHook g.A.AsyncHook l.fn.environment.manager)
      l.fn.environment.runtime l.fn.environment.hooks l.fn.now l.fn.timeouts l.fn.desk
      (stage_of l.fn.self.phase l.fn.self.slot) desk stage turn;
}

abbrev pub decreases-until_allowed : goal.decreases-until_allowed
decreases-until_allowed g l = until_allowance (stage_of l.self.phase l.self.slot)

abbrev pub invariant-allowed : goal.invariant-allowed
invariant-allowed g l = record {
  placed : IsPlaced g.M.Manager.is_ready l.self.phase l.self.slot;
  kept : Keeps l.fn.cx l.cx;
  holds : g.D.Desk.holds l.desk (held_at (stage_of l.self.phase l.self.slot));
  waits : WaitsUnder (g.D.Desk.waits l.desk) (stage_of l.self.phase l.self.slot);
  allowed : lacks_allowance (stage_of l.self.phase l.self.slot) ≡ false;
  goes : (desk : g.row.D.Denot)
      (stage : Stage g.row.M-Type.Denot g.row.M-Creating.Denot g.row.M-Recycling.Denot g.row.A-State.Denot)
      (turn : Turn g.row.M-Type.Denot g.row.M-Error.Denot)
      → PollsOver g.D.Desk (may g.M.Manager g.F.SyncHook g.A.AsyncHook l.fn.environment.manager)
      l.fn.environment.runtime l.fn.environment.hooks l.fn.now l.fn.timeouts l.desk
      (stage_of l.self.phase l.self.slot) desk stage turn
      → PollsOver g.D.Desk (may g.M.Manager g.F.SyncHook g.A.AsyncHook l.fn.environment.manager)
      l.fn.environment.runtime l.fn.environment.hooks l.fn.now l.fn.timeouts l.fn.desk
      (stage_of l.fn.self.phase l.fn.self.slot) desk stage turn;
}

abbrev pub decreases-allowed : goal.decreases-allowed
decreases-allowed g l = weight (stage_of l.self.phase l.self.slot)
