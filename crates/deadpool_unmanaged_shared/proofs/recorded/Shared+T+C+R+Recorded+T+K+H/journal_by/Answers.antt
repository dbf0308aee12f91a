-- The caller has seen all of the history, which is legal, and of which the copied journal is a beginning.
use Rattle.deadpool_unmanaged_shared.proofs.recorded.Shared+T+C+R+Recorded+T+K+H.journal_by.Goals as goal

pub returns-clause-legal : goal.returns-clause-legal
returns-clause-legal g c = rw (c.journal_by-journal.ensures.caller) c.journal_by-journal.ensures.legal

pub returns-clause-beginning : goal.returns-clause-beginning
returns-clause-beginning g c = rw (c.journal_by-journal.ensures.caller) c.journal_by-journal.ensures.beginning
