-- A pool that has closed, by the steps of its owner: it only shrinks, and once drained it stays so.
use Rattle.std.specs.Prelude.{⊤}
use Rattle.deadpool_unmanaged.specs.State.{State}
use Rattle.deadpool_unmanaged_journal.specs.OwnerSteps.{DoesForOwner}
use Rattle.deadpool_unmanaged_journal.specs.declared.owner_step.OwnerReply.{OwnerReply}
use Rattle.deadpool_unmanaged_journal.specs.declared.owner_step.OwnerStep.{OwnerStep}
use Rattle.deadpool_unmanaged_journal.specs.declared.owner_step.OwnerStep.TheVariants.{Close, DropHandle}

module _ {T : Type 0} where
  -- so it is with each step of the owner
  abbrev pub EachOwnerStep : (OwnerStep → State T → State T → Type 0) → Type 0
  EachOwnerStep Holds =
      (d d' : State T) (step : OwnerStep) (reply : OwnerReply) → DoesForOwner d step reply d' → Holds step d d'

-- a step of the owner that lets go of the idle objects
abbrev pub LetsIdleGo : OwnerStep → Type 0
LetsIdleGo Close = ⊤
LetsIdleGo DropHandle = ⊤
LetsIdleGo _ = ⊥
