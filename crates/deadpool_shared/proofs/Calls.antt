-- A holder that has its shares makes each of its steps, and knows then that all are told.
use mathlib.Core.List.{IsPrefix}
use Rattle.std.proofs.Common.{◌≡◌, inl, inr, ℕ, Option, Some, None, refl, subst}
use Rattle.deadpool_chronicle.specs.History.{Knowing, SeesMore}
use Rattle.deadpool_desk.specs.Replies.{IsReplyTo, Leaves}
use Rattle.deadpool_desk.specs.declared.step.Reply.{Reply}
use Rattle.deadpool_desk.specs.declared.step.Reply.TheVariants.{Taken, Unknown}
use Rattle.deadpool_desk.specs.declared.step.Step.{Step}
use Rattle.deadpool_desk.specs.declared.step.Step.TheVariants.{Take}
use Rattle.deadpool_history.specs.History.{AllAreTold, CallsAndTells, HasCalled, History, ThenTells}
use Rattle.deadpool_history.specs.declared.line.Line.{Line}
use Rattle.deadpool_journal.specs.declared.entry.Entry.TheVariants.{Made}
use Rattle.deadpool_shared.specs.Calling.{CallsFromSeat, CallsIfHeard, CallsOrRefuses, IsRefused}
use Rattle.deadpool_shared.specs.Counts.{Holder, caller_of}

-- who has seen all of the history has seen more, or as much
pub sees_all : (log : History) (c c' : Knowing Line) → c' ≡ record c { seen = log } → IsPrefix c.seen log
    → SeesMore c c'
sees_all log c c' seen before = rw seen (refl, before)

-- calls after which all are told
pub then_tells : (calls : Knowing Line → Knowing Line → Type 0) (c called c' : Knowing Line) → calls c called
    → SeesMore called c' → AllAreTold c'.seen → ThenTells calls c c'
then_tells calls c called c' made more told = (called, (made, more, told))

module _ (step : Step) (number : Option ℕ) (reply : Reply) where
  is_made : (c c' : Knowing Line) → (IsRefused step reply → ⊥) → CallsOrRefuses step number reply c c'
      → HasCalled (λ e. e ≡ Made step number reply) c c'
  is_made c c' unrefused (inl called) = called
  is_made c c' unrefused (inr refused) = absurd (unrefused refused.0)

  from_seat : (h h' : Holder) (supplied : Option Holder) → supplied ≡ Some h
      → CallsIfHeard step number reply supplied (Some h')
      → ThenTells (CallsOrRefuses step number reply) h.caller h'.caller
  from_seat h h' supplied same heard =
      subst (λ (s : Option Holder). CallsIfHeard step number reply s (Some h')) same heard

  -- its caller, which it gives back, has called once more
  pub has_called : (h : Holder) (seat : Option Holder) (c : Knowing Line) → (IsRefused step reply → ⊥)
      → CallsFromSeat step number reply (Some h) seat → caller_of seat ≡ Some c
      → CallsAndTells (λ e. e ≡ Made step number reply) h.caller c
  has_called h None c unrefused calls is = absurd (let differ : None ≡ Some c = is in cc)
  has_called h (Some h') c unrefused calls is =
      let same : h'.caller ≡ c = cc in
      let tells = from_seat h h' calls.0 calls.1.0 calls.1.1 in
      let told : CallsAndTells (λ e. e ≡ Made step number reply) h.caller h'.caller =
      (tells.0, (is_made h.caller tells.0 unrefused tells.1.0, tells.1.1, tells.1.2)) in
      rw (same) at told

-- an object that is taken leaves nothing in the hand
pub takes_nothing : {O : Type 0} (reply : Reply) (hand : Option O) → IsReplyTo Take reply → Leaves reply None hand
    → hand ≡ None
takes_nothing (Taken detach) hand fits leaves = leaves
takes_nothing Unknown hand fits leaves = leaves
takes_nothing _ hand fits leaves = absurd fits
