-- The state that the fields of a `Journaled` are.
use Rattle.deadpool_journal.specs.Journaling.{Journaling}
use Rattle.deadpool_journal.specs.declared.journaled.Journaled.TheInside.{Inside}

abbrev pub journaling_of : {T : Type 0} → Inside T → Journaling T
journaling_of j = record {
  core = j.core;
  limit = j.limit;
  mode = j.mode;
  min_idle = j.min_idle;
  max_waiting = j.max_waiting;
  log = j.log;
  tally = j.tally;
}
