-- Whose ledgers the lent pool counts by.
use Rattle.deadpool_threads.proofs.keeping.with_keeper.Given as goal

abbrev pub ghosts-with_keeper_by : goal.ghosts-with_keeper_by
ghosts-with_keeper_by g a = record { names = a.blanks }
