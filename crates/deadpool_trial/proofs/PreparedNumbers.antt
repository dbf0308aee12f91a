-- What is prepared keeps its number, whatever the manager and the hooks answer.
use Rattle.deadpool_trial.proofs.Basics.{◌≡◌, ℕ, Option, Result, Ok, Err, refl, Duration, cond_both, Return, Always}
use Rattle.deadpool_trial.proofs.Basics.{Always-bind}
use Rattle.deadpool_trial.proofs.Words.{Poll, deadline_after, is_reached, lacks_runtime, Moment, Runtime, RecycleError}
use Rattle.deadpool_trial.proofs.Words.{HookLists, Asking, ask_hooks, start, post_recycled, post_recycle, recycled}
use Rattle.deadpool_trial.proofs.Words.{poll_recycling, begin_recycling, pre_recycled, prepare, object_of, with_value}
use Rattle.deadpool_trial.proofs.Words.{Slot, Position, Verdict, Preparation, PreRecycle, Recycle, PostRecycle}
use Rattle.deadpool_trial.proofs.Words.{Prepared, Accepted, GivenUp, Pending}
use Rattle.futures.specs.declared.task.Poll.TheVariants as poll
use Rattle.deadpool_managed.specs.declared.calls.Verdict.TheVariants as verdict

module _ {V R S : Type 0} where
  abbrev pub object_in : Prepared V R S → Slot V
  object_in (Accepted slot) = slot
  object_in (GivenUp slot) = slot
  object_in (Pending preparation) = object_of preparation

  abbrev pub IsNumber : ℕ → Prepared V R S → Type 0
  IsNumber n x = (object_in x).number ≡ n

module _ {V E S : Type 0} (R : Type 0) where
  post_recycled_number : (now : Moment) (slot : Slot V) (x : Verdict S E × V)
      → IsNumber slot.number (post_recycled {R = R} now slot x)
  post_recycled_number now slot (verdict.Accepted, v) = refl
  post_recycled_number now slot (verdict.Refused e, v) = refl
  post_recycled_number now slot (verdict.Pending at, v) = refl

module _ {V F A : Type 0} (E C R S : Type 0) (now : Moment) (hooks : HookLists F A) where
  post_recycle_number : (slot : Slot V) (at : Position S)
      → Always (IsNumber slot.number) (post_recycle {E = E} {C = C} {R = R} now hooks slot at)
  post_recycle_number slot at =
      Always-bind (IsNumber slot.number) (ask_hooks at.accepted _ at.begun slot.value.value slot.value.metrics)
      (λ x. Return (post_recycled now slot x)) (λ x. post_recycled_number R now slot x)

  recycled_number : (deadline : Option Moment) (slot : Slot V) (x : Poll (Result (Unit {0}) (RecycleError E)) × R × V)
      → Always (IsNumber slot.number) (recycled {C = C} {S = S} now hooks deadline slot x)
  recycled_number deadline slot (poll.Ready (Ok u), r, v) = post_recycle_number (with_value v slot) start
  recycled_number deadline slot (poll.Ready (Err e), r, v) = refl
  recycled_number deadline slot (poll.Pending, r, v) =
      cond_both (is_reached deadline now) _ _ (IsNumber slot.number) (λ late. refl) (λ early. refl)

  poll_number : (deadline : Option Moment) (r : R) (slot : Slot V)
      → Always (IsNumber slot.number) (poll_recycling {E = E} {C = C} {S = S} now hooks deadline r slot)
  poll_number deadline r slot = λ x. recycled_number deadline slot x

  begin_number : (runtime : Option Runtime) (timeout : Option Duration) (slot : Slot V)
      → Always (IsNumber slot.number) (begin_recycling {E = E} {C = C} {R = R} {S = S} now runtime timeout hooks slot)
  begin_number runtime timeout slot =
      let P : Asking V E C R S F A (Prepared V R S) → Type 0 = Always (IsNumber slot.number) in
      cond_both (lacks_runtime runtime timeout) _ _ P (λ lacks. refl)
      (λ serves b. poll_number (deadline_after now timeout) b.0 (with_value b.1 slot))

  pre_recycled_number : (runtime : Option Runtime) (timeout : Option Duration) (slot : Slot V) (x : Verdict S E × V)
      → Always (IsNumber slot.number) (pre_recycled {C = C} {R = R} now runtime timeout hooks slot x)
  pre_recycled_number runtime timeout slot (verdict.Accepted, v) = begin_number runtime timeout (with_value v slot)
  pre_recycled_number runtime timeout slot (verdict.Refused e, v) = refl
  pre_recycled_number runtime timeout slot (verdict.Pending at, v) = refl

  -- an idle object's preparation
  pub prepare_number : (runtime : Option Runtime) (timeout : Option Duration) (preparation : Preparation V R S)
      → Always (IsNumber (object_of preparation).number) (prepare {E = E} {C = C} now runtime timeout hooks preparation)
  prepare_number runtime timeout (PreRecycle slot at) =
      Always-bind (IsNumber slot.number) (ask_hooks at.accepted _ at.begun slot.value.value slot.value.metrics)
      (pre_recycled now runtime timeout hooks slot) (λ x. pre_recycled_number runtime timeout slot x)
  prepare_number runtime timeout (Recycle slot r deadline) = poll_number deadline r slot
  prepare_number runtime timeout (PostRecycle slot at) = post_recycle_number slot at
