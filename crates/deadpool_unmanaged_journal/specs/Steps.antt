-- The steps of a pool with its journal: each is the pool's own, and is noted with its reply, objects by name.
use Rattle.std.specs.Prelude.{◌≡◌, ℕ, Option}
use Rattle.std.specs.Option.{option_or}
use Rattle.deadpool_unmanaged.specs.StateSteps.{Makes, TakesAddWake, TakesGetWake}
use Rattle.deadpool_unmanaged.specs.declared.step.Reply.{Reply}
use Rattle.deadpool_unmanaged.specs.declared.step.Step.{Step}
use Rattle.deadpool_unmanaged_journal.specs.ByName.{name_in}
use Rattle.deadpool_unmanaged_journal.specs.Journaling.{Journaling, Notes}
use Rattle.deadpool_unmanaged_journal.specs.OwnerSteps.{DoesForOwner}
use Rattle.deadpool_unmanaged_journal.specs.declared.entry.Entry.TheVariants as entry
use Rattle.deadpool_unmanaged_journal.specs.declared.owner_step.OwnerReply.{OwnerReply}
use Rattle.deadpool_unmanaged_journal.specs.declared.owner_step.OwnerStep.{OwnerStep}

module _ {T O : Type 0} where
  abbrev pub MakesNoted : (T → O) → Journaling T O → Step → Option T → Reply → Option T → Journaling T O → Type 0
  MakesNoted name j step was reply hand j' =
      Makes j.core step was reply hand j'.core × Notes (entry.Made step (name_in name (option_or was hand)) reply) j j'

  abbrev pub MakesForOwnerNoted : Journaling T O → OwnerStep → OwnerReply → Journaling T O → Type 0
  MakesForOwnerNoted j step reply j' =
      DoesForOwner j.core.pool step reply j'.core.pool × Notes (entry.Owner step reply) j j'

  -- A get in the queue is named to be woken. It is no step, and nothing is noted.
  abbrev pub TellsGetUnnoted : Journaling T O → Option ℕ → Journaling T O → Type 0
  TellsGetUnnoted j named j' = TakesGetWake j.core.pool named j'.core.pool × (j' ≡ record j { core = j'.core })

  -- the same of an add
  abbrev pub TellsAddUnnoted : Journaling T O → Option ℕ → Journaling T O → Type 0
  TellsAddUnnoted j named j' = TakesAddWake j.core.pool named j'.core.pool × (j' ≡ record j { core = j'.core })
