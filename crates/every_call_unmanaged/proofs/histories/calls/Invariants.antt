-- The names that `calls` picks for its history: those of its blank.
use Rattle.every_call_unmanaged.proofs.histories.calls.Given as goal

abbrev pub ghosts-over : goal.ghosts-over
ghosts-over g a = record { names = a.history.names }
