-- That a get is named to be woken changes nothing of what the journal tells.
use Rattle.deadpool_unmanaged_journal.proofs.Words.{journaling_of}
use Rattle.deadpool_unmanaged_journal.proofs.Kept.{told_get_kept}
use Rattle.deadpool_unmanaged_journal.proofs.journaled.Journaled.take_get_wake.Goals as goal

pub invariant_of-self : goal.invariant_of-self
invariant_of-self g c =
    told_get_kept g.K.Naming.name_of (journaling_of c.self.inside) c.take_get_wake.new.self c.take_get_wake.result
    c.self.invariant c.take_get_wake.ensures.takes
