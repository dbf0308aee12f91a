-- The names that a try with scarce memory picks for its pool: those of its blanks.
use Rattle.test_refused_memory.proofs.tests.shared_pools.try_once.Given as goal

abbrev pub ghosts-try_over : goal.ghosts-try_over
ghosts-try_over g a = record { names = a.blanks }
