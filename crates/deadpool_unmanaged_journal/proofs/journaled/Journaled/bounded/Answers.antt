-- A pool that is given a bound before its first step still has a journal that is its own.
use Rattle.deadpool_unmanaged_journal.proofs.Words.{journaling_of}
use Rattle.deadpool_unmanaged_journal.proofs.Kept.{bounded_kept}
use Rattle.deadpool_unmanaged_journal.proofs.journaled.Journaled.bounded.Goals as goal

pub invariant_of-result : goal.invariant_of-result
invariant_of-result g c =
    let entries = c.requires.entries in
    let full = c.requires.full in
    let kept = bounded_kept g.K.Naming.name_of (journaling_of c.self.inside) c.args.max_waiting c.self.invariant
    (rw (← c.self.view_is) at entries) (rw (← c.self.view_is) at full) in
    rw c.bounded.ensures kept
