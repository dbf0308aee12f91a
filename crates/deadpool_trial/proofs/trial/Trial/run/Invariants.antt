-- While moves are made: what is left to do from here, all the moves do from the beginning.
use Rattle.deadpool_trial.proofs.Cited.{◌≡◌, ◌≤◌, List, ◌++◌, length, vec_len, vec_capacity, ◌+◌, into_iter_items}
use Rattle.deadpool_trial.proofs.Cited.{into_iter_len, Keeps, may, Pool, PoolRuns, Reply}
use Rattle.deadpool_trial.proofs.trial.Trial.run.Given as goal

-- what the moves that are left make from here, all the moves make from the beginning
abbrev pub invariant-loop-first : goal.invariant-loop-first
invariant-loop-first g l = record {
  manager : l.self.manager ≡ l.fn.self.manager;
  kept : Keeps l.fn.cx l.cx;
  left : into_iter_len l.first-iterator ≡ length (into_iter_items l.first-iterator);
  room : vec_len l.replies + into_iter_len l.first-iterator ≤ vec_capacity l.replies;
  goes :
      (passed :
      List
      (List
      (Pool g.row.M-Type.Denot g.row.M-Creating.Denot g.row.M-Recycling.Denot g.row.A-State.Denot g.row.F.Denot
      g.row.A.Denot))) (answers : List (Reply g.row.M-Type.Denot g.row.M-Error.Denot))
      (after : Pool g.row.M-Type.Denot g.row.M-Creating.Denot g.row.M-Recycling.Denot g.row.A-State.Denot g.row.F.Denot
      g.row.A.Denot)
      → PoolRuns (may g.M.Manager g.F.SyncHook g.A.AsyncHook l.fn.self.manager) l.self.pool
      (into_iter_items l.first-iterator) passed answers after
      → (all :
      List
      (List
      (Pool g.row.M-Type.Denot g.row.M-Creating.Denot g.row.M-Recycling.Denot g.row.A-State.Denot g.row.F.Denot
      g.row.A.Denot))) × PoolRuns (may g.M.Manager g.F.SyncHook g.A.AsyncHook l.fn.self.manager) l.fn.self.pool
      l.fn.moves.items all (l.replies.items ++ answers) after;
}
