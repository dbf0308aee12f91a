-- The choice that the retain leaves is the one that its relation speaks of.
use Rattle.deadpool_c.proofs.managed_owner_steps.retain.Goals as goal

pub returns-clause-step : goal.returns-clause-step
returns-clause-step c = (
  c.retain-reply.new.retainer,
  rw c.of.ensures.state
      (rw (← c.into_state-state.ensures) (rw (← c.deref_mut.ensures.value) c.retain-reply.ensures.retained)),
)
