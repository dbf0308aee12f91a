-- On the way to an end nobody is told to wait.
use Rattle.std.proofs.Common.{◌≡◌, ℕ, Option, Some, None, refl, subst, sym, ◌∙◌}
use Rattle.deadpool_desk.specs.Replies.{IsReplyTo}
use Rattle.deadpool_desk.specs.declared.step.Reply.{Reply}
use Rattle.deadpool_desk.specs.declared.step.Reply.TheVariants as reply
use Rattle.deadpool_desk.specs.declared.step.Step.{Step}
use Rattle.deadpool_desk.specs.declared.step.Step.TheVariants as step
use Rattle.deadpool_order.specs.Commands.{step_in}
use Rattle.deadpool_order.specs.Ends.{Ends}
use Rattle.deadpool_order.specs.Has.{WaitsUnder, waits_by, waits_in}
use Rattle.deadpool_order.specs.declared.state.State.{State}
use Rattle.deadpool_order.specs.declared.state.State.TheVariants as state

is_waiting : (made which : Step) (t : ℕ) → made ≡ which → IsReplyTo which (reply.Waiting t)
    → IsReplyTo made (reply.Waiting t)
is_waiting made which t same fits = subst (λ (s : Step). IsReplyTo s (reply.Waiting t)) (sym same) fits

none_waits : (left : Option ℕ) (at : State) (which : Step) (t : ℕ) → Ends at → step_in left at ≡ Some which
    → IsReplyTo which (reply.Waiting t) → ⊥
none_waits left (state.Failing cause) which t ends is fits =
    is_waiting step.Failed which t (let e : step.Failed ≡ which = cc in e) fits
none_waits left state.Refusing which t ends is fits =
    is_waiting step.Refused which t (let e : step.Refused ≡ which = cc in e) fits
none_waits left (state.Withdrawing ticket cause) which t ends is fits =
    is_waiting (step.Withdraw ticket) which t (let e : step.Withdraw ticket ≡ which = cc in e) fits
none_waits left (state.Cancelling what) which t ends is fits =
    is_waiting (step.Cancel what) which t (let e : step.Cancel what ≡ which = cc in e) fits
none_waits left state.Returning which t ends is fits =
    is_waiting step.Back which t (let e : step.Back ≡ which = cc in e) fits
none_waits left state.Taking which t ends is fits =
    is_waiting step.Take which t (let e : step.Take ≡ which = cc in e) fits
none_waits left state.Parting which t ends is fits = let no : None ≡ Some which = is in cc
none_waits left state.Parted which t ends is fits = let no : None ≡ Some which = is in cc
none_waits left state.Yielding which t ends is fits = let no : None ≡ Some which = is in cc
none_waits left (state.Detaching next) which t ends is fits = let no : None ≡ Some which = is in cc
none_waits left (state.Releasing next) which t ends is fits = let no : None ≡ Some which = is in cc
none_waits left (state.Telling cause) which t ends is fits = let no : None ≡ Some which = is in cc
none_waits left (state.Over cause) which t ends is fits = let no : None ≡ Some which = is in cc
none_waits left _ which t ends is fits = absurd ends

pub told_no_ticket : (left : Option ℕ) (at : State) (which : Step) (answer : Reply) → Ends at
    → step_in left at ≡ Some which → IsReplyTo which answer → waits_by answer ≡ None
told_no_ticket left at which (reply.Waiting t) ends is fits = absurd (none_waits left at which t ends is fits)
told_no_ticket left at which _ ends is fits = refl

-- who waits under no ticket waits under none but these
pub waits_under_none : (may_wait : ℕ → Type 0) (at : State) → waits_in at ≡ None → WaitsUnder may_wait at
waits_under_none may_wait at none ticket is = let differ : None ≡ Some ticket = sym none ∙ is in cc
