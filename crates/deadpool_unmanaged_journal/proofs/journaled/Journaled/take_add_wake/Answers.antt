-- That an add is named to be woken changes nothing of what the journal tells.
use Rattle.deadpool_unmanaged_journal.proofs.Words.{journaling_of}
use Rattle.deadpool_unmanaged_journal.proofs.Kept.{told_add_kept}
use Rattle.deadpool_unmanaged_journal.proofs.journaled.Journaled.take_add_wake.Goals as goal

pub invariant_of-self : goal.invariant_of-self
invariant_of-self g c =
    told_add_kept g.K.Naming.name_of (journaling_of c.self.inside) c.take_add_wake.new.self c.take_add_wake.result
    c.self.invariant c.take_add_wake.ensures.takes
