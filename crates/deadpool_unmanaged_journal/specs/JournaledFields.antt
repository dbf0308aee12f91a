-- The state that the fields of a `Journaled` are.
use Rattle.deadpool_unmanaged_journal.specs.Journaling.{Journaling}
use Rattle.deadpool_unmanaged_journal.specs.declared.journaled.Journaled.TheInside.{Inside}

abbrev pub journaling_of : {T K O : Type 0} → Inside T K O → Journaling T O
journaling_of j = record {
  core = j.core;
  limit = j.limit;
  max_waiting = j.max_waiting;
  log = j.log;
  tally = j.tally;
}
