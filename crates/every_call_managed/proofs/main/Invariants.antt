-- The names that `main` picks for its pool: those of its blanks.
use Rattle.every_call_managed.proofs.main.Given as goal

abbrev pub ghosts-calls : goal.ghosts-calls
ghosts-calls g a = record { names = a.blanks }
