-- A journal, replayed: its entries as steps of a pool, whose objects are names.
use Rattle.std.specs.Prelude.{◌≡◌, ◌-◌, List, [], ◌∷◌}
use Rattle.deadpool_unmanaged.specs.State.{State, size}
use Rattle.deadpool_unmanaged.specs.StateSteps.{Does}
use Rattle.deadpool_unmanaged_journal.specs.ByName.{silent}
use Rattle.deadpool_unmanaged_journal.specs.OwnerSteps.{DoesForOwner}
use Rattle.deadpool_unmanaged_journal.specs.Tally.{counted}
use Rattle.deadpool_unmanaged_journal.specs.declared.entry.Entry.{Entry}
use Rattle.deadpool_unmanaged_journal.specs.declared.entry.Entry.TheVariants.{Made, Owner}
use Rattle.deadpool_unmanaged_journal.specs.declared.tally.Tally.{Tally}

module _ {O : Type 0} where
  -- the entry is a step with the reply that it has there
  abbrev pub Steps : State O → Entry O → State O → Type 0
  Steps d (Made step object reply) d' = Does d step object reply d'
  Steps d (Owner step reply) d' = DoesForOwner d step reply d'

  -- It is one of a pool that may have told others than this one has. No step asks for that.
  abbrev pub IsStep : State O → Entry O → State O → Type 0
  IsStep d e d' = (m : State O) × ((m' : State O) × (Steps m e m' × (d ≡ silent m) × (d' ≡ silent m')))

  -- the entries are steps, one after the other, from one state to another
  abbrev pub Runs : State O → List (Entry O) → State O → Type 0
  Runs d [] d' = d' ≡ d
  Runs d (e ∷ es) d' = (next : State O) × (IsStep d e next × Runs next es d')

  -- The same, and by them one tally becomes another.
  abbrev pub RunsCounted : State O → Tally → List (Entry O) → State O → Tally → Type 0
  RunsCounted d t [] d' t' = (d' ≡ d) × (t' ≡ t)
  RunsCounted d t (e ∷ es) d' t' =
      (next : State O) × (IsStep d e next × RunsCounted next (counted (size d - size next) e t) es d' t')
