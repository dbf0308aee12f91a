-- The names that `main` picks for its pool: those of its blanks.
use Rattle.example_history.proofs.main.Given as goal

abbrev pub ghosts-limits : goal.ghosts-limits
ghosts-limits g a = record { names = a.blanks }
