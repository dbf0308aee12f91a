-- The names that `measure` picks for the pool that it measures: those of its blanks.
use Rattle.bench.proofs.managed.measure.Given as goal

abbrev pub ghosts-measure_pool : goal.ghosts-measure_pool
ghosts-measure_pool g a = record { names = a.blanks }
