-- The names that `with_threads` picks for its pool: those of its blanks.
use Rattle.deadpool_threads.proofs.threads.with_threads.Given as goal

abbrev pub ghosts-with_threads_by : goal.ghosts-with_threads_by
ghosts-with_threads_by g a = record { names = a.blanks }
