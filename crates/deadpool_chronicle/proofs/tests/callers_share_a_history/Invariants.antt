-- The names that the test picks for its history: those of its blank.
use Rattle.deadpool_chronicle.proofs.tests.callers_share_a_history.Given as goal

abbrev pub ghosts-three : goal.ghosts-three
ghosts-three g a = record { names = a.blank.names }
