-- The steps of a pool's owner: when each reply comes, and the state after it.
use Rattle.std.specs.Prelude.{◌≡◌, ⊤, ◌<◌}
use Rattle.deadpool_parts.specs.declared.replies.HandleReply.{HandleReply}
use Rattle.deadpool_parts.specs.declared.replies.HandleReply.TheVariants as handle
use Rattle.deadpool_unmanaged.specs.State.{State, status_of}
use Rattle.deadpool_unmanaged.specs.StateSteps.{closed_pool, one_handle_less, one_handle_more}
use Rattle.deadpool_unmanaged_journal.specs.declared.owner_step.OwnerReply.{OwnerReply}
use Rattle.deadpool_unmanaged_journal.specs.declared.owner_step.OwnerReply.TheVariants.{Stands, Done, NoHandle}
use Rattle.deadpool_unmanaged_journal.specs.declared.owner_step.OwnerStep.{OwnerStep}
use Rattle.deadpool_unmanaged_journal.specs.declared.owner_step.OwnerStep.TheVariants.{Status, Close, CloneHandle}
use Rattle.deadpool_unmanaged_journal.specs.declared.owner_step.OwnerStep.TheVariants.{DropHandle, Upgrade}

module _ {T : Type 0} where
  abbrev pub DoesForOwner : State T → OwnerStep → OwnerReply → State T → Type 0
  DoesForOwner d Status (Stands status) d' = (status ≡ status_of d) × (d' ≡ d)
  DoesForOwner d Close Done d' = d' ≡ closed_pool d
  DoesForOwner d CloneHandle Done d' = (0 < d.handles) × (d' ≡ one_handle_more d)
  DoesForOwner d CloneHandle NoHandle d' = (d.handles ≡ 0) × (d' ≡ d)
  DoesForOwner d DropHandle Done d' = (0 < d.handles) × (d' ≡ one_handle_less d)
  DoesForOwner d DropHandle NoHandle d' = (d.handles ≡ 0) × (d' ≡ d)
  DoesForOwner d Upgrade Done d' = (0 < d.handles) × (d' ≡ one_handle_more d)
  DoesForOwner d Upgrade NoHandle d' = (d.handles ≡ 0) × (d' ≡ d)
  DoesForOwner d _ _ d' = ⊥

abbrev pub IsOwnerReplyTo : OwnerStep → OwnerReply → Type 0
IsOwnerReplyTo Status (Stands status) = ⊤
IsOwnerReplyTo Close Done = ⊤
IsOwnerReplyTo CloneHandle Done = ⊤
IsOwnerReplyTo CloneHandle NoHandle = ⊤
IsOwnerReplyTo DropHandle Done = ⊤
IsOwnerReplyTo DropHandle NoHandle = ⊤
IsOwnerReplyTo Upgrade Done = ⊤
IsOwnerReplyTo Upgrade NoHandle = ⊤
IsOwnerReplyTo _ _ = ⊥

-- of a step that needs a handle
abbrev pub reply_for : HandleReply → OwnerReply
reply_for handle.Done = Done
reply_for handle.NoHandle = NoHandle
