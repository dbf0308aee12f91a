-- While moves are made: what is left to do from here, all the moves do from the beginning.
use Rattle.deadpool_trial.proofs.OfUnmanaged.Basics.{◌≡◌, ◌≤◌, List, ◌++◌, length, vec_len, vec_capacity, ◌+◌}
use Rattle.deadpool_trial.proofs.OfUnmanaged.Basics.{into_iter_items, into_iter_len}
use Rattle.deadpool_trial.proofs.OfUnmanaged.Words.{Pool, PoolRuns, Reply}
use Rattle.deadpool_trial.proofs.unmanaged.trial.Trial.run.Given as goal

-- what the moves that are left make from here, all the moves make from the beginning
abbrev pub invariant-loop-first : goal.invariant-loop-first
invariant-loop-first g l = record {
  left : into_iter_len l.first-iterator ≡ length (into_iter_items l.first-iterator);
  room : vec_len l.replies + into_iter_len l.first-iterator ≤ vec_capacity l.replies;
  goes : (passed : List (List (Pool g.row.T.Denot))) (answers : List (Reply g.row.T.Denot)) (after : Pool g.row.T.Denot)
      → PoolRuns l.self (into_iter_items l.first-iterator) passed answers after
      → (all : List (List (Pool g.row.T.Denot)))
      × PoolRuns l.fn.self l.fn.moves.items all (l.replies.items ++ answers) after;
}
