-- Where nobody is due that waits for the end of a pool, its history says so.
use Rattle.std.proofs.Common.{◌≡◌, ◌==◌, ◌+◌, ℕ, ap, false, not, ◌&&◌}
use Rattle.std.proofs.lemmas.List.{length-map}
use Rattle.deadpool_desk.specs.Closing.{is_drained}
use Rattle.deadpool_desk.specs.DeskState.{DeskState}
use Rattle.deadpool_desk.specs.declared.slot.Slot.{Slot}
use Rattle.deadpool_history.proofs.Leads.{reaches}
use Rattle.deadpool_history.specs.History.{DrainsAreTold, History, LeadsTo, awaited}
use Rattle.deadpool_journal.specs.ByNumber.{number_of, numbered}
use Rattle.deadpool_journal.specs.Journaling.{Journaling}
use Rattle.deadpool_lock.specs.Ends.{EndsState}
use Rattle.deadpool_shared.specs.Locked.{awaited_by, is_end_due}

module _ {T : Type 0} where
  drained_numbered : (d : DeskState (Slot T)) → is_drained (numbered d) ≡ is_drained d
  drained_numbered d =
      ap (λ (idle : ℕ). not d.is_open && (idle + d.outside + d.going + d.creations == 0))
      (length-map d.idle (number_of {T = T}))

  -- the history has of those that wait for the end, and of what is still to be dropped, what the lock has
  pub drains_are_told : (j : Journaling T) (log : History) (ends : EndsState) → LeadsTo j log
      → awaited log ≡ awaited_by ends → is_end_due ends j.core.desk ≡ false → DrainsAreTold log
  drains_are_told j log ends leads is none =
      (numbered j.core.desk, (reaches j log leads, rw (is, drained_numbered j.core.desk) none))
