-- The waker is that of the task that polls, of which the context is still the same.
use Rattle.std.proofs.Common.{◌≡◌, ◌⊎◌, true, inl, inr, refl, subst, Bor, Option, Some, None}
use Rattle.std.specs.Option.{unwrap_or}
use Rattle.std.specs.Prelude.{IfSome, IsSomeAnd}
use Rattle.futures.specs.Task.{Hears, Holds, Keeps, Lasting, Wakes}
use Rattle.futures.specs.declared.task.source.Source.{Source}
use Rattle.futures.specs.declared.task.context.Context.{Context}
use Rattle.futures.specs.declared.task.waker.Waker.{Waker}
use Rattle.deadpool_lock.specs.Asked.{IsOf}
use Rattle.deadpool_lock.proofs.registration.Registration.register.Goals as goal

same_task : (cx cx' : Context) → Keeps cx cx'
    → record cx { is_woken = cx'.is_woken; lacks_waker = cx'.lacks_waker; trail = cx'.trail; events = cx'.events } ≡ cx'
unfolding Holds
same_task cx cx' kept = kept (Lasting.same_task cx) refl

of_task : (waker : Option Waker) (cx cx' : Context) → Keeps cx cx'
    → (cx'.lacks_waker ≡ true) ⊎ IsSomeAnd waker (λ w. Wakes w cx) → IsOf waker cx'
of_task waker cx cx' kept (inl lacks) = inl lacks
of_task (Some w) cx cx' kept (inr wakes) = inr (subst (λ cx. Wakes w cx) (same_task cx cx' kept) wakes)
of_task None cx cx' kept (inr none) = inr none

heard_at : (source : Option (Bor Source)) (nowhere at : Bor Source) (cx : Context) → at ≡ unwrap_or source nowhere
    → Hears cx at.now.id → IfSome source (λ s. Hears cx s.now.id)
heard_at (Some s) nowhere at cx is heard = subst (λ (s : Bor Source). Hears cx s.now.id) is heard
heard_at None nowhere at cx is heard = tt

pub returns : goal.returns
returns c = record {
  armed = c.register-pending.ensures.armed;
  heard = heard_at _ _ _ _ c.unwrap_or-source.ensures c.register-pending.ensures.heard;
  left = of_task _ _ _ c.register-pending.ensures.kept c.register-pending.ensures.left;
  kept = c.register-pending.ensures.kept;
}
