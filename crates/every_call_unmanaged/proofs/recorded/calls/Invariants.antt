-- The names that `calls` picks for its history: those of its blank.
use Rattle.every_call_unmanaged.proofs.recorded.calls.Given as goal

abbrev pub ghosts-told : goal.ghosts-told
ghosts-told g a = record { names = a.blank.names }
