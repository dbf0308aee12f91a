-- The law that the books balance after a retain.
use Rattle.deadpool_journal.proofs.StaysBalanced.{retain_stays}
use Rattle.deadpool_journal.proofs.laws.retain_keeps_books_balanced.Goals as goal

pub returns : goal.returns
returns g c = λ d d' r r' result. retain_stays g.R.Retainer d d' r r' result
