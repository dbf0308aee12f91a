-- Room for those that wait changes nothing of what the journal tells.
use Rattle.deadpool_unmanaged_journal.proofs.Words.{journaling_of}
use Rattle.deadpool_unmanaged_journal.proofs.Kept.{same_pool_kept}
use Rattle.deadpool_unmanaged_journal.proofs.journaled.Journaled.make_room_for_waiting.Goals as goal

pub invariant_of-self : goal.invariant_of-self
invariant_of-self g c =
    same_pool_kept g.K.Naming.name_of (journaling_of c.self.inside) c.make_room_for_waiting.new.self c.self.invariant
    c.make_room_for_waiting.ensures.pool
