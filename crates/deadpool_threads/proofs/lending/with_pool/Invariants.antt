-- The names that `with_pool` picks for its pool: those of its blanks.
use Rattle.deadpool_threads.proofs.lending.with_pool.Given as goal

abbrev pub ghosts-with_pool_by : goal.ghosts-with_pool_by
ghosts-with_pool_by g a = record { names = a.blanks }
