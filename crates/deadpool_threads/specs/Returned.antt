-- What may come of a pool that is lent, by the builder that it was built of.
use Rattle.deadpool_builder.specs.Building.{Building}
use Rattle.deadpool_shared.specs.Built.{IsBuiltOf}
use Rattle.deadpool_shared.specs.declared.shared.Shared.{Shared}

module _ {M F A C R L T E Creating Recycling State Alarm : Type 0} where
  -- it holds of each builder of which this pool may be built
  abbrev pub OfItsBuilder : Shared M F A C R L T E Creating Recycling State Alarm → (Building M F A C → Type 0) → Type 0
  OfItsBuilder pool holds = (builder : Building M F A C) → IsBuiltOf builder pool → holds builder

  -- what a user returns that was lent this pool, by what it says of itself, and of itself and the builder
  abbrev pub Returned : {U O : Type 0} → (U → O → Type 0) → (U → Building M F A C → O → Type 0)
      → Shared M F A C R L T E Creating Recycling State Alarm → U → O → Type 0
  Returned returns returns_from pool user output =
      returns user output × OfItsBuilder pool (λ builder. returns_from user builder output)
