-- The steps of a pool with its journal: each is the pool's own, and is noted with its reply, objects by number.
use Rattle.std.specs.Prelude.{◌≡◌, ℕ, List, Option, Result, Ok, Err}
use Rattle.std.specs.Option.{option_or}
use Rattle.std.specs.declared.alloc.AllocError.{AllocError}
use Rattle.deadpool_desk.specs.CoreSteps.{Makes, MakesForOwner, Retains, RetainsNoting, Notifies}
use Rattle.deadpool_desk.specs.Retained.{Retained}
use Rattle.deadpool_desk.specs.declared.owner_step.OwnerReply.{OwnerReply}
use Rattle.deadpool_desk.specs.declared.owner_step.OwnerStep.{OwnerStep}
use Rattle.deadpool_desk.specs.declared.retain.Removal.{Removal}
use Rattle.deadpool_desk.specs.declared.retain.Retainer.{Ghosts as RetainerOf}
use Rattle.deadpool_desk.specs.declared.slot.Slot.{Slot}
use Rattle.deadpool_desk.specs.declared.step.Reply.{Reply}
use Rattle.deadpool_desk.specs.declared.step.Step.{Step}
use Rattle.deadpool_journal.specs.ByNumber.{number_in}
use Rattle.deadpool_journal.specs.Journaling.{Journaling, Notes}
use Rattle.deadpool_journal.specs.declared.entry.Entry.TheVariants as entry

module _ {T : Type 0} where
  abbrev pub MakesNoted : Journaling T → Step → Option (Slot T) → Reply → Option (Slot T) → Journaling T → Type 0
  MakesNoted j step was reply hand j' =
      Makes j.core step was reply hand j'.core × Notes (entry.Made step (number_in (option_or was hand)) reply) j j'

  abbrev pub MakesForOwnerNoted : Journaling T → OwnerStep → OwnerReply → Journaling T → Type 0
  MakesForOwnerNoted j step reply j' = MakesForOwner j.core step reply j'.core × Notes (entry.Owner step reply) j j'

  -- A get in the queue is named to be woken. It is no step, and nothing is noted.
  abbrev pub NotifiesUnnoted : Journaling T → Option ℕ → Journaling T → Type 0
  NotifiesUnnoted j named j' = Notifies j.core named j'.core × (j' ≡ record j { core = j'.core })

module _ {T R L : Type 0} (asks : RetainerOf R T L) where
  -- It is noted with all that it gave up, and where each of these stood among those that were idle.
  abbrev pub NotesRetain : Journaling T → R → Result (Retained L) AllocError → Journaling T → R → Type 0
  NotesRetain j r (Ok given) j' r' =
      (noted : List Removal) × RetainsNoting asks j.core r (Ok (given, noted)) j'.core r'
      × Notes (entry.Retain (Ok noted)) j j'
  NotesRetain j r (Err refused) j' r' = Notes (entry.Retain (Err refused)) j j'

  abbrev pub RetainsNoted : Journaling T → R → Result (Retained L) AllocError → Journaling T → R → Type 0
  RetainsNoted j r reply j' r' =
      Retains asks j.core r reply j'.core r' × NotesRetain j r reply j' r'
